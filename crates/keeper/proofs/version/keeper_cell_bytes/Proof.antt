-- `keeper_cell_bytes` meets its contract: the sum of the fields, computed.
use mathlib.Core.Path.{refl}
use Rattle.keeper.proofs.version.keeper_cell_bytes.Statement.{statement}
use Rattle.keeper.proofs.version.keeper_cell_bytes.Tie as tie

returns : tie.Need-returns
returns c = refl

pub keeper_cell_bytes_spec : {M : Type 1} → statement M
keeper_cell_bytes_spec = tie.close (tie.spec returns)
