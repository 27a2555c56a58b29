-- What a walk over the agents given asks of each: that it rests. Assumes nothing.
use Rattle.std.specs.Prelude.{◌≡◌, Bool, true, false, cond, ℕ, get_or}
use Rattle.sets.specs.Word.{has}
use Rattle.table.specs.Cell.{no_agent}
use Rattle.table.specs.Idle.{rests_at}
use Rattle.table.specs.declared.Cell.{Cell}

-- agent j rests, if it is given
abbrev pub rests : Cell → ℕ → Bool
rests t j = cond (has t.given.bits j) (rests_at (get_or t.agents j no_agent).stage) true

pub not_given : (t : Cell) (j : ℕ) → has t.given.bits j ≡ false → rests t j ≡ true
not_given t j e = rw e

-- one that is given
pub rests_given : (t : Cell) (j : ℕ) → has t.given.bits j ≡ true → rests t j ≡ rests_at (get_or t.agents j no_agent).stage
rests_given t j e = rw e
