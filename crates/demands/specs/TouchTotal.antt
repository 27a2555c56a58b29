-- What is claimed of touches (document 02, W3): "The sum over places in use equals all touches loaded and added, after any mixture of calls".
-- Definitions only.
use Rattle.std.specs.Prelude.{◌≡◌, cond, List, [], ◌∷◌, ℕ, zero, suc, ◌+◌, eqb, length, Ok, Err}
use Rattle.table.specs.Cell.{State, cell_of}
use Rattle.table.specs.Sound.{touch_sum}
use Rattle.meaning.specs.File.{byte_at, count_at}
use Rattle.meaning.specs.Run.{Call, step_call, touch_call, commit_call, Reply, step_reply, touch_reply}
use Rattle.demands.specs.AfterCalls.{reached, answered}

-- ---- "touches loaded"

-- the four-byte numbers of all touch records from an offset on, by the lengths of the kinds alone: six bytes for touches (5), three for an
-- agent (2), eleven for a place with keys (6), five for a place (1) or an action (3), and the end (4)
unfoldable pub touches_from : ℕ → List ℕ → ℕ → ℕ
touches_from zero s at = 0
touches_from (suc turns) s at =
    cond (eqb (byte_at s at) 5) (count_at s at + touches_from turns s (at + 6))
    (cond (eqb (byte_at s at) 4) 0
    (cond (eqb (byte_at s at) 2) (touches_from turns s (at + 3))
    (cond (eqb (byte_at s at) 6) (touches_from turns s (at + 11))
    (touches_from turns s (at + 5)))))

-- those of a whole file
unfoldable pub touches_in : List ℕ → ℕ
unfolding touches_from
touches_in s = touches_from (suc (length s)) s 0

-- ---- "and added"

-- what a call adds: the number of a touch call that is not refused
abbrev pub added_by : Call → Reply → ℕ
added_by (step_call agent wish) reply = 0
added_by (touch_call place number) (step_reply answer) = 0
added_by (touch_call place number) (touch_reply (Ok n)) = number
added_by (touch_call place number) (touch_reply (Err refusal)) = 0
added_by (commit_call agent wish word woken place) reply = 0

-- what a list of calls adds
unfoldable pub added : List Call → List Reply → ℕ
added [] replies = 0
added (k ∷ calls) [] = 0
added (k ∷ calls) (r ∷ replies) = added_by k r + added calls replies

-- ---- the claim

-- of a cell c and a list of calls of any kind: the sum grew by what was added
abbrev pub TouchTotal : State → List Call → Type 0
TouchTotal c calls = touch_sum (cell_of (reached c calls)) ≡ touch_sum c + added calls (answered c calls)

-- of a file, its cell c and a list of calls of any kind: the sum is that of all touches loaded and added
abbrev pub AllTouches : List ℕ → State → List Call → Type 0
AllTouches s c calls = touch_sum (cell_of (reached c calls)) ≡ touches_in s + added calls (answered c calls)
