-- Rows on touches (document 02, W3): counts loaded, added and pooled, touch calls and their refusals, and the bound on their sum.
use Rattle.std.specs.Prelude.{List, [], ◌∷◌, ℕ, ◌+◌}
use Rattle.table.specs.Base.{tab}
use Rattle.table.specs.Cell.{bare_table, cell_of, table_of}
use Rattle.table.specs.declared.Cell.{Cell}
use Rattle.meaning.specs.Answers.{Count, Untouched}
use Rattle.meaning.specs.Run.{Call, step_call, touch_call, Reply, step_reply, touch_reply, call_of, run}
use Rattle.meaning.specs.Touch.{touch_of, touches_of}
use Rattle.meaning.specs.Codes.{step_number, touch_number}
use Rattle.meaning.specs.BenchRow.{file, place, agent, enters, opens, touches}
use Rattle.meaning.specs.BenchTables.{Computed, number, bytes, loaded_from, not_used, touched, sample, topmost, checked}

-- `open 7.open 8 | 7[8[]] | 9[enter 6] | 6[]`, with 1, 5, 7, 0 and 3 touches: the floor is place 0, 7 place 1, 8 place 2, 9 place 3, 6 place 4
unfoldable pub crib : Cell
unfolding file
crib = loaded_from (file (touches 0 1 ∷ place 1 0 7 ∷ touches 1 5 ∷ place 2 1 8 ∷ touches 2 7 ∷ agent 0 0 ∷ opens 0 7 ∷ opens 0 8 ∷
    place 3 0 9 ∷ place 4 0 6 ∷ touches 4 3 ∷ agent 1 3 ∷ enters 1 6 ∷ []))

-- the counts of places 0 to 4
abbrev counts_of : Cell → List ℕ
counts_of t = tab (cell_of t).touches 5 0

-- so many steps of an agent with wish 255
steps : ℕ → ℕ → List Call
steps x n = tab (λ i. step_call x 255) n 0

-- what a touch call answers, and the counts after it
abbrev answered : Cell → ℕ → ℕ → ℕ
answered t q n = touch_number (touch_of t q n).answer

abbrev counts_after : Cell → ℕ → ℕ → List ℕ
counts_after t q n = counts_of (touch_of t q n).cell

-- a reply as a number: a step's, or a touch call's with bit 63 set
abbrev replied : Reply → ℕ
replied (step_reply answer) = step_number answer
replied (touch_reply answer) = 0x8000000000000000 + touch_number answer

-- the crib with a sum of 999,999,999,999, and of one more
abbrev nearly : Cell
nearly = table_of (touched 0 999999999984 (cell_of crib))

abbrev topped : Cell
topped = table_of (touched 0 999999999985 (cell_of crib))

unfoldable pub touch_rows : List Computed
unfolding tab steps
touch_rows =
    -- "A place carries a touch count, starting at 0"
    bytes (0 ∷ 0 ∷ 0 ∷ 0 ∷ 0 ∷ []) (counts_of bare_table)
    -- "Record kind 5 gives one", four bytes, low byte first
    ∷ bytes (1 ∷ 5 ∷ 7 ∷ 0 ∷ 3 ∷ []) (counts_of crib)
    ∷ bytes (0x04030201 ∷ 0 ∷ 0 ∷ 0 ∷ 0 ∷ []) (counts_of (loaded_from (5 ∷ 0 ∷ 1 ∷ 2 ∷ 3 ∷ 4 ∷ 4 ∷ [])))
    -- "its count is pooled into the place of the agent that opened it", through two openings; the number that became unused has none
    ∷ bytes (1 ∷ 5 ∷ 7 ∷ 0 ∷ 3 ∷ []) (counts_of (run crib (steps 0 3)))
    ∷ bytes (6 ∷ 0 ∷ 7 ∷ 0 ∷ 3 ∷ []) (counts_of (run crib (steps 0 4)))
    ∷ bytes (13 ∷ 0 ∷ 0 ∷ 0 ∷ 3 ∷ []) (counts_of (run crib (steps 0 8)))
    -- a place that leaves and comes keeps its count
    ∷ bytes (1 ∷ 5 ∷ 7 ∷ 2 ∷ 3 ∷ []) (counts_of (run crib (touch_call 3 2 ∷ steps 1 4)))
    ∷ bytes (1 ∷ 5 ∷ 7 ∷ 2 ∷ 3 ∷ []) (counts_of (run crib (touch_call 3 2 ∷ steps 1 7)))
    -- "A touch call answers the place's new count": from bit 8 on
    ∷ number 0x0500 (touch_number (Count 5))
    ∷ number 0xe8d4a5100000 (touch_number (Count 1000000000000))
    ∷ number 15 (touch_number (Untouched 15))
    ∷ number 0x0900 (answered crib 1 4)
    ∷ bytes (1 ∷ 9 ∷ 7 ∷ 0 ∷ 3 ∷ []) (counts_after crib 1 4)
    -- in a list of calls too, and a step call's answer is told apart
    ∷ number 0x8000000000000900 (replied (call_of crib (touch_call 1 4)).reply)
    ∷ number 0 (replied (call_of crib (step_call 0 255)).reply)
    ∷ bytes (4294967296 ∷ 5 ∷ 7 ∷ 0 ∷ 3 ∷ []) (counts_after crib 0 4294967295)
    -- "or 3 for a place above 63 and 5 for an unused one"; 10 first; a refusal changes nothing
    ∷ number 3 (answered crib 64 4)
    ∷ number 5 (answered crib 9 4)
    ∷ number 10 (answered (table_of (not_used 0 (cell_of crib))) 64 4)
    ∷ bytes (1 ∷ 5 ∷ 7 ∷ 0 ∷ 3 ∷ []) (counts_after crib 64 4)
    ∷ bytes (1 ∷ 5 ∷ 7 ∷ 0 ∷ 3 ∷ []) (counts_after crib 9 4)
    -- "15, last in a touch call, if that call would make it so": at the bound and not one below
    ∷ number 0x0600 (answered nearly 1 1)
    ∷ number 15 (answered nearly 1 2)
    ∷ bytes (999999999984 ∷ 5 ∷ 7 ∷ 0 ∷ 3 ∷ []) (counts_after nearly 1 2)
    ∷ number 0x0500 (answered topped 1 0)
    ∷ number 15 (answered topped 1 1)
    ∷ number 3 (answered topped 64 1)
    ∷ number 5 (answered topped 9 1)
    -- "A table whose sum passes 1,000,000,000,000 is unsound": over places in use
    ∷ number 0 (checked (cell_of topped))
    ∷ number 10 (checked (touched 0 999999999986 (cell_of crib)))
    ∷ number 0 (checked (touched 63 1 (touched 0 1000000000000 sample)))
    ∷ number 0 (checked (touched 63 18446744073709551615 sample))
    -- place 63 counts
    ∷ number 0 (checked (touched 63 1000000000000 topmost))
    ∷ number 10 (checked (touched 63 1000000000001 topmost))
    -- the count of a place, asked for
    ∷ number 0x0700 (touch_number (touches_of crib 2))
    ∷ number 3 (touch_number (touches_of crib 64))
    ∷ number 5 (touch_number (touches_of crib 9))
    ∷ number 10 (touch_number (touches_of (table_of (not_used 0 (cell_of crib))) 2))
    ∷ []
