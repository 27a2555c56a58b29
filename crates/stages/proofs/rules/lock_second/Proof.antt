-- The tests of the meaning, in order.
use mathlib.Core.Path.{ap}
use mathlib.Core.Bool.{true, false}
use Prim.Native.Nat.{ℕ}
use lib.Dec.{eqb}
use borrow.Author.Rules.{rules}
use borrow.Author.Tests.{eq-eqb, ne_eqb, lt-ltb, le-ltb}
use Rattle.stages.specs.Changes.{locks_second}
use Rattle.updates.proofs.UpdateLaws.{kind_test}
use Rattle.stages.proofs.rules.lock_second.Statement.{statement}
use Rattle.stages.proofs.rules.lock_second.Tie as tie

pub lock_second_spec : {M : Type 1} → statement M
unfolding locks_second
lock_second_spec =
    tie.close
    (tie.spec
    (λ c κs. search rules)
    (λ c.
    let e = c.before.before.next_action-x.ensures in
    rw (
      lt-ltb _ _ c.before.before.before.if-q-lt64.true,
      kind_test _ _ 3 true e (eq-eqb _ _ c.if-x-eq3.true),
      kind_test _ _ 2 false e (ap (λ (k : ℕ). eqb k 2) c.if-x-eq3.true),
    ))
    (λ c.
    let e = c.before.before.before.before.next_action-x.ensures in
    rw (
      lt-ltb _ _ c.before.before.before.before.before.if-q-lt64.true,
      kind_test _ _ 3 false e (ne_eqb _ _ c.before.before.if-x-eq3.false),
      kind_test _ _ 2 true e (eq-eqb _ _ c.if-x-eq2.true),
    ))
    (λ c.
    let e = c.before.before.before.before.next_action-x.ensures in
    rw (
      lt-ltb _ _ c.before.before.before.before.before.if-q-lt64.true,
      kind_test _ _ 3 false e (ne_eqb _ _ c.before.before.if-x-eq3.false),
      kind_test _ _ 2 false e (ne_eqb _ _ c.if-x-eq2.false),
    ))
    (λ c. rw (le-ltb _ _ c.if-q-lt64.false)))
