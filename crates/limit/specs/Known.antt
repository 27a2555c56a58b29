-- The call for the ceiling as it is answered by one that was told whether the cell is sound and how many moves are left, and the moves before an agent by the numbers read of it.
use Rattle.std.specs.Prelude.{ℕ, ◌+◌, ◌*◌, ◌-◌, Bool, cond}
use Rattle.sets.specs.Word.{bit, count_of}
use Rattle.sets.specs.Set.{member}
use Rattle.sets.specs.declared.Set.{Set}
use Rattle.table.specs.Cell.{row_end}
use Rattle.meaning.specs.Answers.{Limit, AtMost, Uncounted}
use Rattle.meaning.specs.Refusals.{unsound_table}
use Rattle.meaning.specs.Limit.{is_away}

-- the moves before an agent at this stage, with this action next and so many in its row
abbrev pub moves_at : ℕ → ℕ → ℕ → ℕ
moves_at stage next count = 2 * (row_end count - next) + bit (is_away stage)

-- how many step calls can still change a cell that is sound or not, as told, with these agents given and so many moves before them: 10 first
unfoldable pub known_ceiling : Bool → Set → ℕ → Limit
known_ceiling known given moves = cond known (AtMost (5 * count_of 64 (member given) * (moves + 1) + moves)) (Uncounted unsound_table)
