-- The tests of the meaning, in order, on what was read.
use mathlib.Core.Path.{sym, ◌∙◌}
use mathlib.Core.Bool.{true, false}
use borrow.Author.Rules.{rules}
use borrow.Author.Tests.{le-leb, lt-leb}
use Rattle.table.specs.Cell.{looks_home, linked}
use Rattle.stages.specs.Changes.{looks}
use Rattle.updates.proofs.UpdateLaws.{kind_tested}
use Rattle.stages.proofs.rules.look.Statement.{statement}
use Rattle.stages.proofs.rules.look.Tie as tie

pub look_spec : {M : Type 1} → statement M
unfolding looks linked
look_spec =
    tie.close
    (tie.spec
    (λ c κs. search rules)
    (λ c. rw (kind_tested looks_home _ _ true c.before.before.next_action-x.ensures (le-leb 3 _ c.if-x-ge3.true)))
    (λ c κs. search rules) (λ c κs. search rules)
    (λ c.
    let t = c.before.before.before in
    rw (
      kind_tested looks_home _ _ false t.before.before.next_action-x.ensures (lt-leb 3 _ t.if-x-ge3.false),
      ← c.before.before.has-u.ensures,
      sym c.before.linked.ensures ∙ c.if-linked.true,
    ))
    (λ c.
    let t = c.before.before.before in
    rw (
      kind_tested looks_home _ _ false t.before.before.next_action-x.ensures (lt-leb 3 _ t.if-x-ge3.false),
      ← c.before.before.has-u.ensures,
      sym c.before.linked.ensures ∙ c.if-linked.false,
    )))
