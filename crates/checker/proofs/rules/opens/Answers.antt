-- Test by test.
use Rattle.std.proofs.Common.{sym, ap, ◌∙◌}
use Rattle.std.proofs.Math.Dec.{eqb}
use Rattle.table.specs.declared.Name.{Name}
use Rattle.meaning.specs.Calculus.{may_open}
use Rattle.checker.proofs.TestLaws.{and_yes, and_no, name_there}
use Rattle.checker.proofs.rules.opens.Goals as goal

pub returns-then-stands : goal.returns-then-stands
unfolding may_open
returns-then-stands c = λ l n.
    let a = c.args in
    let there = sym (c.stands.ensures l n a.h a.x) ∙ c.if-stands.true in
    ap (λ (m : Name). eqb m.opening a.x.name) (name_there n a.h a.x a.h there) ∙ and_yes _ _ there

pub returns-else-stands : goal.returns-else-stands
unfolding may_open
returns-else-stands c = λ l n. c.if-stands.false ∙ and_no _ _ (sym (c.stands.ensures l n c.args.h c.args.x) ∙ c.if-stands.false)
