-- The change is the one that the definition names.
use mathlib.Core.Path.{refl}
use Rattle.stages.proofs.rules.lock_first.Statement.{statement}
use Rattle.stages.proofs.rules.lock_first.Tie as tie

pub lock_first_spec : {M : Type 1} → statement M
lock_first_spec = tie.close (tie.spec (λ c. refl))
