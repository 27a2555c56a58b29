-- What a call whether all agents are asleep or done answers, told whether the table is sound and whether they are: `idle_of` is the case where it was told the truth.
use Rattle.std.specs.Prelude.{◌≡◌, Bool, true, false, cond, Ok}
use Rattle.std.proofs.Common.{refl, ap₂}
use Rattle.table.specs.Cell.{cell_of}
use Rattle.table.specs.Sound.{sound}
use Rattle.table.specs.Idle.{idle}
use Rattle.table.specs.declared.Cell.{Cell}
use Rattle.meaning.specs.Answers.{Idled, Idle, Busy}
use Rattle.meaning.specs.Codes.{idle_of}
use Rattle.keeper.specs.Known.{known_idle}

-- at rest is idle, and not at rest is busy
pub rest_told : (b : Bool) → ◌≡◌ {A = Idled} (Ok b) (cond b Idle Busy)
rest_told true = refl
rest_told false = refl

-- told the truth of the table, it is the call
pub idle_told : (t : Cell) (known rest : Bool) → known ≡ sound (cell_of t) → rest ≡ idle (cell_of t) → known_idle known rest ≡ idle_of t
unfolding known_idle idle_of
idle_told t known rest e r = ap₂ known_idle e r
