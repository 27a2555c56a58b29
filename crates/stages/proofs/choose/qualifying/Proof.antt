-- One law for the set of each kind.
use mathlib.Core.Path.{◌∙◌}
use borrow.Author.Rules.{rules}
use borrow.Author.Tests.{eq-eqb, ne_eqb}
use Rattle.table.specs.Cell.{linked}
use Rattle.meaning.specs.Step.{exits_from}
use Rattle.stages.specs.Changes.{rowless}
use Rattle.stages.proofs.ChooseLaws.{enter_set, exit_set, open_set}
use Rattle.stages.proofs.choose.qualifying.Statement.{statement}
use Rattle.stages.proofs.choose.qualifying.Tie as tie

returns_2 : tie.Need-returns-then-kind-eq2
unfolding linked exits_from
returns_2 c =
    let t = c.before.before.before.before in
    let a = t.before.before.args in
    c.insert_if.ensures ∙ exit_set (rowless a.ps a.used) a.kind a.n a.home a.p c.before.exits-b.result
    (c.before.exits-b.ensures ∙ rw (c.before.before.has-u.ensures, c.before.before.before.place_at-x.ensures))
    (ne_eqb _ _ t.before.if-kind-eq1.false) (eq-eqb _ _ t.if-kind-eq2.true)

pub qualifying_spec : {M : Type 1} → statement M
qualifying_spec =
    tie.close
    (tie.spec
    (λ c κs. search rules) (λ c κs. search rules)
    (λ c.
    let a = c.before.before.before.args in
    rw (c.remove.ensures, c.before.children_named-s.ensures)
    (enter_set (rowless a.ps a.used) a.kind a.n a.home a.p (eq-eqb _ _ c.before.before.if-kind-eq1.true)))
    (λ c κs. search rules) (λ c κs. search rules) (λ c κs. search rules) (λ c κs. search rules)
    returns_2
    (λ c κs. search rules) (λ c κs. search rules)
    (λ c.
    let a = c.before.before.before.before.args in
    rw (c.unawaited.ensures, c.before.children_named-s-2.ensures)
    (open_set (rowless a.ps a.used) a.kind a.n a.home a.p (ne_eqb _ _ c.before.before.before.if-kind-eq1.false)
    (ne_eqb _ _ c.before.before.if-kind-eq2.false))))
