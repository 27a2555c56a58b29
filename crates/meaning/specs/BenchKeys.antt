-- Rows on keys (document 02, W6): a place of its own key for entering, leaving and opening, in the file, the steps and the listing.
use Rattle.std.specs.Prelude.{List, [], ◌∷◌, ℕ}
use Rattle.table.specs.Cell.{State, cell_of, no_name}
use Rattle.meaning.specs.BenchRow.{Row, row, hex, agents, file, place, agent, enters, exits, opens, keyed}
use Rattle.meaning.specs.BenchTables.{Computed, number, bytes, named, loaded_from, placed_as, checked, sample}

unfoldable pub key_rows : List Row
key_rows =
    -- "A supplier's magazine may enter our bonder but never break it down": the bonder 9 lets in who has 5, out who has 6, and nobody may open it
    row (file (keyed 1 0 9 5 6 0 ∷ place 2 0 7 ∷ agent 0 2 ∷ enters 0 5 ∷ exits 0 6 ∷ [])) (agents "0 0 0 0 0 0 0 0 0 0 0")
    ("start 7[enter 5.exit 6] | 9/5/6/0[]" ∷ "0 looked 0" ∷ "0 took 0" ∷ "0 took 0" ∷ "0 left 0" ∷ "0 took 0" ∷ "0 took 0" ∷ "0 came 0" ∷
    "0 looked 0" ∷ "0 took 0" ∷ "0 took 0" ∷ "0 left 0" ∷ "end 7[] | 9/5/6/0[]" ∷ [])
    -- "the key of its kind": neither the name nor another key enters,
    ∷ row (file (keyed 1 0 9 5 6 8 ∷ place 2 0 7 ∷ agent 0 2 ∷ enters 0 9 ∷ agent 1 2 ∷ enters 1 6 ∷ agent 2 2 ∷ enters 2 8 ∷ []))
    (agents "0 0 0 1 1 1 2 2 2")
    ("start 7[enter 6 | enter 8 | enter 9] | 9/5/6/8[]" ∷ "0 looked 0" ∷ "0 took 0" ∷ "0 slept 0" ∷ "1 looked 0" ∷ "1 took 0" ∷ "1 slept 0" ∷
    "2 looked 0" ∷ "2 took 0" ∷ "2 slept 0" ∷ "end 7[enter 6 | enter 8 | enter 9] | 9/5/6/8[]" ∷ [])
    -- exits
    ∷ row (file (keyed 1 0 9 5 6 8 ∷ place 2 1 7 ∷ agent 0 2 ∷ exits 0 9 ∷ agent 1 2 ∷ exits 1 5 ∷ agent 2 2 ∷ exits 2 8 ∷ []))
    (agents "0 0 0 1 1 1 2 2 2")
    ("start 9/5/6/8[7[exit 5 | exit 8 | exit 9]]" ∷ "0 looked 0" ∷ "0 took 0" ∷ "0 slept 0" ∷ "1 looked 0" ∷ "1 took 0" ∷ "1 slept 0" ∷
    "2 looked 0" ∷ "2 took 0" ∷ "2 slept 0" ∷ "end 9/5/6/8[7[exit 5 | exit 8 | exit 9]]" ∷ [])
    -- or opens
    ∷ row (file (keyed 1 0 9 5 6 8 ∷ agent 0 0 ∷ opens 0 9 ∷ agent 1 0 ∷ opens 1 5 ∷ agent 2 0 ∷ opens 2 6 ∷ agent 3 0 ∷ opens 3 8 ∷ []))
    (agents "0 0 0 1 1 1 2 2 2 3 3 3 3")
    ("start open 5 | open 6 | open 8 | open 9 | 9/5/6/8[]" ∷ "0 looked 0" ∷ "0 took 0" ∷ "0 slept 0" ∷ "1 looked 0" ∷ "1 took 0" ∷ "1 slept 0" ∷
    "2 looked 0" ∷ "2 took 0" ∷ "2 slept 0" ∷ "3 looked 0" ∷ "3 took 0" ∷ "3 took 0" ∷ "3 opened 3" ∷ "end open 5 | open 6 | open 9" ∷ [])
    -- a place of another name may have the key: "first in, first served" among both
    ∷ row (file (keyed 2 0 9 7 0 0 ∷ place 1 0 7 ∷ place 3 0 8 ∷ agent 0 3 ∷ enters 0 7 ∷ [])) (agents "0 0 0 0")
    ("start 7[] | 8[enter 7] | 9/7/0/0[]" ∷ "0 looked 0" ∷ "0 took 0" ∷ "0 took 0" ∷ "0 left 0" ∷ "end 7[] | 9/7/0/0[8[]]" ∷ [])
    -- "A place whose keys all equal its name is listed as before; any other as name and the three keys"
    ∷ row (file (keyed 1 0 7 7 7 7 ∷ keyed 2 0 7 8 7 7 ∷ keyed 3 0 7 7 8 7 ∷ keyed 4 0 7 7 7 8 ∷ keyed 5 4 65535 300 256 0 ∷ [])) []
    ("start 7/7/7/8[65535/300/256/0[]] | 7/7/8/7[] | 7/8/7/7[] | 7[]" ∷ "end 7/7/7/8[65535/300/256/0[]] | 7/7/8/7[] | 7/8/7/7[] | 7[]" ∷ [])
    -- "Kind 6 leaves the unknown kinds and is checked as kind 1 is": 1 where its body is incomplete, whatever its bytes say
    ∷ row (hex "06") [] ("refused 1 0" ∷ [])
    ∷ row (hex "06 40 00 07 00 04") [] ("refused 1 0" ∷ [])
    ∷ row (hex "06 01 00 07 00 07 00 07 00 07") [] ("refused 1 0" ∷ [])
    -- "for a missing end, the file's length"
    ∷ row (hex "06 01 00 07 00 07 00 07 00 07 00") [] ("refused 1 11" ∷ [])
    -- 3, before 13
    ∷ row (hex "06 00 00 07 00 07 00 07 00 07 00 04") [] ("refused 3 0" ∷ [])
    ∷ row (hex "06 40 40 07 00 07 00 07 00 07 00 04") [] ("refused 3 0" ∷ [])
    -- 13, before 4, and 4 of a number that kind 1 gave, before 5: the records before it have 5 and 11 bytes
    ∷ row (hex "01 01 00 07 00 06 01 40 07 00 07 00 07 00 07 00 04") [] ("refused 13 5" ∷ [])
    ∷ row (hex "01 01 00 07 00 06 01 05 00 00 07 00 07 00 07 00 04") [] ("refused 4 5" ∷ [])
    ∷ row (hex "06 01 00 07 00 07 00 07 00 07 00 01 01 00 07 00 04") [] ("refused 4 11" ∷ [])
    -- 5, before 6
    ∷ row (hex "06 01 05 00 00 07 00 07 00 07 00 04") [] ("refused 5 0" ∷ [])
    -- 6 for the name only: the keys may all be 0
    ∷ row (hex "06 01 00 00 00 07 00 07 00 07 00 04") [] ("refused 6 0" ∷ [])
    ∷ row (hex "06 01 00 07 00 00 00 00 00 00 00 04") [] ("start 7/0/0/0[]" ∷ "end 7/0/0/0[]" ∷ [])
    ∷ []

-- a place's name and keys
abbrev keys_in : State → ℕ → List ℕ
keys_in c q = (c.land.place q).name.name ∷ (c.land.place q).name.entering ∷ (c.land.place q).name.exiting ∷ (c.land.place q).name.opening ∷ []

unfoldable pub key_numbers : List Computed
unfolding file
key_numbers =
    -- "Kind 1 sets all three to the name"; kind 6 gives them, low byte first
    bytes (8 ∷ 8 ∷ 8 ∷ 8 ∷ []) (keys_in sample 2)
    ∷ bytes (0x0201 ∷ 0x0403 ∷ 0x0605 ∷ 0x0807 ∷ []) (keys_in (cell_of (loaded_from (6 ∷ 1 ∷ 0 ∷ 1 ∷ 2 ∷ 3 ∷ 4 ∷ 5 ∷ 6 ∷ 7 ∷ 8 ∷ 4 ∷ []))) 1)
    -- "the floor's are 0", and soundness asks for it
    ∷ bytes (0 ∷ 0 ∷ 0 ∷ 0 ∷ []) (keys_in sample 0)
    ∷ number 0 (checked (placed_as 0 no_name 0 1 sample))
    ∷ number 10 (checked (placed_as 0 (named 0 1 0 0) 0 1 sample))
    ∷ number 10 (checked (placed_as 0 (named 0 0 1 0) 0 1 sample))
    ∷ number 10 (checked (placed_as 0 (named 0 0 0 1) 0 1 sample))
    -- of another place it asks for a name and nothing of the keys
    ∷ number 0 (checked (placed_as 3 (named 9 0 0 0) 0 0 sample))
    ∷ number 0 (checked (placed_as 3 (named 9 65535 1 0) 0 0 sample))
    ∷ number 10 (checked (placed_as 3 (named 0 9 9 9) 0 0 sample))
    ∷ []
