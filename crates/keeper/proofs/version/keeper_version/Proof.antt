-- `keeper_version` meets its contract: the three numbers of the version, computed.
use mathlib.Core.Path.{refl}
use Rattle.keeper.proofs.version.keeper_version.Statement.{statement}
use Rattle.keeper.proofs.version.keeper_version.Tie as tie

returns : tie.Need-returns
returns c = refl

pub keeper_version_spec : {M : Type 1} → statement M
keeper_version_spec = tie.close (tie.spec returns)
