-- What the tests of a step say of the places, in both directions. Assumes nothing.
use Rattle.std.specs.Prelude.{◌≡◌, ◌≢◌, ℕ}
use Rattle.std.proofs.Math.Bool.{true}
use Rattle.table.specs.Cell.{State, linked}

-- every place but the floor is linked
abbrev pub Whole : State → Type 0
Whole c = (q : ℕ) → c.land.used q ≡ true → q ≢ 0 → linked c.land q ≡ true
