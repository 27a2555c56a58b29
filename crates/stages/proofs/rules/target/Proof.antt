-- One test.
use Rattle.table.proofs.Rules.{tests}
use Rattle.stages.proofs.rules.target.Statement.{statement}
use Rattle.stages.proofs.rules.target.Tie as tie

pub target_spec : {M : Type 1} → statement M
target_spec = tie.close (tie.spec (λ c. search tests) (λ c. search tests))
