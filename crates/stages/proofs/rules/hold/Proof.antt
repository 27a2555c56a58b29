-- The tests, the number and the choice are those of the meaning, on what was read.
use mathlib.Core.Path.{◌≡◌, sym, ap, ◌∙◌}
use mathlib.Core.Bool.{true, false}
use borrow.Author.Rules.{rules}
use borrow.Author.Tests.{eq-eqb, ne_eqb}
use Rattle.meaning.specs.Step.{stays}
use Rattle.table.specs.Cell.{land_of}
use Rattle.stages.specs.Changes.{locks_second, puts_or_sleeps, holds}
use Rattle.stages.proofs.ChooseLaws.{stays_test, choice_test}
use Rattle.stages.proofs.RowlessLaws.{stays_rowless}
use Rattle.updates.proofs.UpdateLaws.{kind_test}
use Rattle.stages.proofs.rules.hold.Statement.{statement}
use Rattle.stages.proofs.rules.hold.Tie as tie

-- whether its place stays linked, as read
stayed : (m : tie.After-stays) → m.stays.result
    ≡ stays (land_of m.before.before.before.before.args.ps m.before.before.before.before.args.used m.before.before.before.before.args.row)
    m.before.before.before.before.args.a
stayed m =
    let a = m.before.before.before.before.args in
    m.stays.ensures ∙ stays_test a.ps a.used a.a _ m.before.before.before.next_action-x.ensures _ _ m.before.has-u.ensures
    m.before.before.place_at-h.ensures
    ∙ stays_rowless a.ps a.used a.row a.a

-- the new place of a release
returns : tie.Need-returns-then-x-eq4
unfolding holds
returns c =
    let m = c.before.before.before.before.before in
    let a = m.before.before.before.before.args in
    rw (
      sym (stayed m) ∙ c.before.before.before.before.if-stays.true,
      kind_test _ _ 4 true m.before.before.before.next_action-x.ensures (eq-eqb _ _ c.before.before.if-x-eq4.true),
    )
    (c.put_or_sleep.ensures ∙ ap (puts_or_sleeps a.a) c.before.fresh_number-n.ensures)

-- the choice of any other action
returns_2 : tie.Need-returns-then-stays
unfolding holds
returns_2 c =
    let m = c.before.before.before.before.before.before in
    let a = m.before.before.before.before.args in
    let e = m.before.before.before.next_action-x.ensures in
    rw (
      sym (stayed m) ∙ c.before.before.before.before.before.if-stays.true,
      kind_test _ _ 4 false e (ne_eqb _ _ c.before.before.before.if-x-eq4.false),
    )
    (c.lock_second.ensures
    ∙ ap (locks_second a.a) (choice_test a.ps a.used a.a _ e _
    c.before.before.qualifying-s.ensures a.row a.wish _ c.before.chosen-q.ensures))

pub hold_spec : {M : Type 1} → statement M
unfolding holds
hold_spec =
    tie.close
    (tie.spec
    (λ c κs. search rules) (λ c κs. search rules) (λ c κs. search rules) (λ c κs. search rules)
    (λ c κs. search rules) (λ c κs. search rules) returns
    (λ c κs. search rules) (λ c κs. search rules) (λ c κs. search rules) returns_2
    (λ c. rw (sym (stayed c.before) ∙ c.if-stays.false)))
