-- Test by test.
use mathlib.Core.Path.{sym, ap, ◌∙◌}
use native.Mathlib.Omega.{arith}
use lib.Dec.{eqb}
use borrow.Author.Rules.{rules}
use Rattle.table.specs.declared.Name.{Name}
use Rattle.meaning.specs.Calculus.{stands_at, may_enter}
use Rattle.checker.specs.OnTable.{one_agent}
use Rattle.checker.proofs.TestLaws.{and_yes, and_no, differs, equals, name_there}
use Rattle.checker.proofs.rules.enters.Statement.{statement}
use Rattle.checker.proofs.rules.enters.Tie as tie

pub enters_spec : {M : Type 1} → statement M
unfolding may_enter
enters_spec = tie.close (tie.spec
    (λ c l e n. and_no _ _ (equals c.args.h 0 (omega arith)))
    (λ c κs. search rules)
    (λ c l e n. let a = c.args in
    let stood = ap (stands_at (one_agent l a.h a.x) a.b) e ∙ sym (c.stands.ensures l n a.h a.x) ∙ c.if-stands.true in
    and_no _ _ (equals a.b a.h (omega arith)) ∙ and_yes _ _ stood ∙ and_yes _ _ (differs a.h 0 (omega arith)))
    (λ c l e n. let a = c.args in
    let there = sym (c.stands.ensures l n a.h a.x) ∙ c.if-stands.true in
    ap (λ (m : Name). eqb m.entering a.x.name) (name_there n a.h a.x a.around there)
    ∙ and_yes _ _ (differs a.b a.h (omega arith)) ∙ and_yes _ _ (ap (stands_at (one_agent l a.h a.x) a.b) e ∙ there)
    ∙ and_yes _ _ (differs a.h 0 (omega arith)))
    (λ c l e n. let a = c.args in
    let stood = ap (stands_at (one_agent l a.h a.x) a.b) e ∙ sym (c.stands.ensures l n a.h a.x) ∙ c.if-stands.false in
    and_no _ _ stood ∙ and_yes _ _ (differs a.h 0 (omega arith))))
