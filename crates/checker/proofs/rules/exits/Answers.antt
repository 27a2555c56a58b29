-- Test by test.
use Rattle.std.proofs.Common.{refl, sym, ap, ◌∙◌}
use Rattle.std.proofs.Math.Dec.{eqb}
use borrow.Author.Tests.{eq-eqb}
use Rattle.table.specs.declared.Name.{Name}
use Rattle.meaning.specs.Calculus.{may_exit}
use Rattle.checker.specs.OnTable.{parent_of}
use Rattle.checker.proofs.TestLaws.{and_yes, and_no, differs, equals}
use Rattle.checker.proofs.rules.exits.Goals as goal

pub returns-then-h-ne0 : goal.returns-then-h-ne0
unfolding may_exit
returns-then-h-ne0 c = λ l e.
    ap (λ (n : Name). eqb n.exiting c.args.x.name) (sym e)
    ∙ and_yes _ _ (eq-eqb (parent_of l c.args.h) (parent_of l c.args.h) refl) ∙ and_yes _ _ (differs c.args.h 0 c.if-h-ne0.true)

pub returns-else-h-ne0 : goal.returns-else-h-ne0
unfolding may_exit
returns-else-h-ne0 c = λ l e. equals c.args.h 0 c.if-h-ne0.false ∙ and_no _ _ (equals c.args.h 0 c.if-h-ne0.false)
