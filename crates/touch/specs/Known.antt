-- Touch calls as they are made by a caller that was told whether the cell is sound.
use Rattle.std.specs.Prelude.{ℕ, ◌+◌, ◌%◌, Bool, cond, List, leb, get_or, set}
use Rattle.sets.specs.Set.{member}
use Rattle.sets.specs.declared.Set.{Set}
use Rattle.table.specs.Cell.{put_touches}
use Rattle.table.specs.Sound.{most_touches}
use Rattle.table.specs.declared.Cell.{Cell}
use Rattle.soundness.specs.Left.{total_of}
use Rattle.meaning.specs.Answers.{Touching, Count, Untouched}
use Rattle.meaning.specs.declared.Touched.{Touched}
use Rattle.meaning.specs.Refusals.{place_too_large, not_yet_given, unsound_table, too_many_touches}
use Rattle.touch.specs.declared.TouchDecision.{TouchDecision}

-- a refused call: the touches stay
abbrev pub refusing : ℕ → ℕ → TouchDecision
refusing count number = record { count = count; answer = Untouched number }

-- a call that is not refused answers the touches that its place then has
abbrev pub counting : ℕ → TouchDecision
counting count = record { count = count; answer = Count count }

-- the count at a number, where numbers past 63 start from 0 again
abbrev pub count_at : List ℕ → ℕ → ℕ
count_at ts q = get_or ts (q % 64) 0

-- what a touch call does to a cell that is sound or not, as told, with these places in use and these counts
unfoldable pub known_touch : Bool → Set → List ℕ → ℕ → ℕ → TouchDecision
known_touch known used ts q n =
    cond known
    (cond (leb 64 q) (refusing (count_at ts q) place_too_large)
    (cond (member used q)
    (cond (leb (total_of ts used + n) most_touches) (counting (count_at ts q + n)) (refusing (count_at ts q) too_many_touches))
    (refusing (count_at ts q) not_yet_given)))
    (refusing (count_at ts q) unsound_table)

-- the cell with these touches at a number, and the answer
abbrev pub tallied : Cell → ℕ → TouchDecision → Touched
tallied t q d = record { cell = put_touches t (set t.touches (q % 64) d.count); answer = d.answer }

-- the touches of a place of a cell that is sound or not, as told, with these places in use and these counts
unfoldable pub known_touches : Bool → Set → List ℕ → ℕ → Touching
known_touches known used ts q =
    cond known
    (cond (leb 64 q) (Untouched place_too_large)
    (cond (member used q) (Count (get_or ts q 0)) (Untouched not_yet_given)))
    (Untouched unsound_table)
