-- Rows on where a place is (document 02, W10): the nearest enclosing place of a name, the innermost that holds or is both of two, places on their way,
-- none, and the refusals.
use Rattle.std.specs.Prelude.{List, [], ◌∷◌, ℕ, suc}
use Rattle.table.specs.Base.{tab}
use Rattle.table.specs.Cell.{cell_of, table_of}
use Rattle.table.specs.declared.Cell.{Cell}
use Rattle.meaning.specs.Answers.{At, Nowhere, Unfound}
use Rattle.meaning.specs.Run.{step_call, run}
use Rattle.meaning.specs.Where.{nearest_of, common_of}
use Rattle.meaning.specs.Codes.{found_number}
use Rattle.meaning.specs.BenchRow.{file, place, keyed, agent, enters}
use Rattle.meaning.specs.BenchTables.{Computed, number, loaded_from, not_used}

-- `20[70/71/72/73[9[]]] | 30[enter 20 | 50[50[9[]]] | 50[]]`: bonder 20 is place 1 and holder 30 place 2; trays 50 are places 3 and 6 in the holder and
-- place 4 in place 3; place 5 is in place 4; place 7 in the bonder is named 70, with other keys, and holds place 8
unfoldable pub hall : Cell
unfolding file
hall = loaded_from (file (place 1 0 20 ∷ place 2 0 30 ∷ place 3 2 50 ∷ place 4 3 50 ∷ place 5 4 9 ∷ place 6 2 50 ∷ keyed 7 1 70 71 72 73 ∷ place 8 7 9 ∷
    agent 0 2 ∷ enters 0 20 ∷ []))

-- the holder has left for the bonder; it has come
abbrev leaving : Cell
leaving = run hall (tab (λ i. step_call 0 255) 4 0)

abbrev arrived : Cell
arrived = run hall (tab (λ i. step_call 0 255) 7 0)

-- the floor is not in use: unsound
abbrev damaged : Cell
damaged = table_of (not_used 0 (cell_of hall))

-- as deep as places can stand: 1 to 63, each in the one before and named by its number
unfoldable pub shaft : Cell
unfolding file tab
shaft = loaded_from (file (tab (λ i. place (suc i) i (suc i)) 63 0))

-- what the two questions answer
abbrev nearest_to : Cell → ℕ → ℕ → ℕ
nearest_to t q n = found_number (nearest_of t q n)

abbrev common_to : Cell → ℕ → ℕ → ℕ
common_to t q r = found_number (common_of t q r)

unfoldable pub where_rows : List Computed
unfolding file tab
where_rows =
    -- as a number: the place in bits 8 to 15, 255 for none, or the refusal's number
    number 0x3f00 (found_number (At 63))
    ∷ number 0 (found_number (At 0))
    ∷ number 0xff00 (found_number Nowhere)
    ∷ number 5 (found_number (Unfound 5))
    -- "the nearest enclosing place of a given name": one place outwards, and three
    ∷ number 0x0200 (nearest_to hall 3 30)
    ∷ number 0x0200 (nearest_to hall 5 30)
    -- the nearest of two of that name; "the place itself not counted", in another of its name and in none
    ∷ number 0x0400 (nearest_to hall 5 50)
    ∷ number 0x0300 (nearest_to hall 4 50)
    ∷ number 0xff00 (nearest_to hall 3 50)
    -- "a place on its way read at its destination": in no bonder before it left, in the bonder then and when it has come; so what it holds
    ∷ number 0xff00 (nearest_to hall 2 20)
    ∷ number 0x0100 (nearest_to leaving 2 20)
    ∷ number 0x0100 (nearest_to leaving 5 20)
    ∷ number 0x0100 (nearest_to arrived 5 20)
    -- "none exactly if no enclosing place has that name"
    ∷ number 0xff00 (nearest_to hall 5 40)
    -- name 0 is the floor's; nothing encloses the floor
    ∷ number 0 (nearest_to hall 5 0)
    ∷ number 0 (nearest_to hall 1 0)
    ∷ number 0xff00 (nearest_to hall 0 0)
    ∷ number 0xff00 (nearest_to hall 0 20)
    -- by the name, and by no key
    ∷ number 0x0700 (nearest_to hall 8 70)
    ∷ number 0xff00 (nearest_to hall 8 71)
    ∷ number 0xff00 (nearest_to hall 8 72)
    ∷ number 0xff00 (nearest_to hall 8 73)
    -- "After 10, a place number above 63 is 3, then an unused one is 5"
    ∷ number 3 (nearest_to hall 64 30)
    ∷ number 5 (nearest_to hall 63 30)
    ∷ number 10 (nearest_to damaged 3 30)
    ∷ number 10 (nearest_to damaged 64 30)
    -- "the innermost place that holds or is both": of two in one holder, one of them deeper, either way round
    ∷ number 0x0200 (common_to hall 3 6)
    ∷ number 0x0200 (common_to hall 5 6)
    ∷ number 0x0200 (common_to hall 6 5)
    -- of a place and one inside it, either way round; of a place and itself
    ∷ number 0x0300 (common_to hall 3 5)
    ∷ number 0x0300 (common_to hall 5 3)
    ∷ number 0x0500 (common_to hall 5 5)
    -- "the floor if nothing deeper", and with the floor itself
    ∷ number 0 (common_to hall 5 8)
    ∷ number 0 (common_to hall 0 5)
    ∷ number 0 (common_to hall 5 0)
    ∷ number 0 (common_to hall 0 0)
    -- one of them on its way, or in a place on its way
    ∷ number 0x0100 (common_to leaving 2 8)
    ∷ number 0x0100 (common_to leaving 7 5)
    ∷ number 0x0200 (common_to leaving 5 6)
    ∷ number 0x0100 (common_to arrived 5 8)
    -- 3 for either, also where the other is unused; 5 for either; 10 first
    ∷ number 3 (common_to hall 64 3)
    ∷ number 3 (common_to hall 3 64)
    ∷ number 3 (common_to hall 64 63)
    ∷ number 3 (common_to hall 63 64)
    ∷ number 5 (common_to hall 63 3)
    ∷ number 5 (common_to hall 3 63)
    ∷ number 10 (common_to damaged 3 6)
    ∷ number 10 (common_to damaged 64 63)
    -- from the deepest place outwards
    ∷ number 0x0100 (nearest_to shaft 63 1)
    ∷ number 0 (nearest_to shaft 63 0)
    ∷ number 0 (common_to shaft 63 0)
    ∷ []
