-- One test.
use borrow.Author.Tests.{eq-eqb, ne_eqb}
use Rattle.stages.proofs.rules.idle.Statement.{statement}
use Rattle.stages.proofs.rules.idle.Tie as tie

pub idle_spec : {M : Type 1} → statement M
idle_spec =
    tie.close
    (tie.spec
    (λ c. rw (eq-eqb _ _ c.if-s-eq7.true)) (λ c. rw (ne_eqb _ _ c.if-s-eq7.false)))
