-- The tests of the meaning, in order.
use borrow.Author.Tests.{eq-eqb, ne_eqb}
use Rattle.stages.specs.Changes.{travels}
use Rattle.stages.proofs.rules.travel.Statement.{statement}
use Rattle.stages.proofs.rules.travel.Tie as tie

pub travel_spec : {M : Type 1} → statement M
unfolding travels
travel_spec =
    tie.close
    (tie.spec
    (λ c. rw (eq-eqb _ _ c.if-a-eq4.true))
    (λ c. rw (ne_eqb _ _ c.before.before.if-a-eq4.false, eq-eqb _ _ c.if-a-eq5.true))
    (λ c. rw (ne_eqb _ _ c.before.before.if-a-eq4.false, ne_eqb _ _ c.if-a-eq5.false)))
