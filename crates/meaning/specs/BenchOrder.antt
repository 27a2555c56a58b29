-- Rows on the order of places (document 02, W5): who is taken first, and what a load and each kind of step make of the row.
use Rattle.std.specs.Prelude.{List, [], ◌∷◌, ◌++◌, ℕ, drop, set}
use Rattle.order.specs.Row.{counting_row}
use Rattle.table.specs.Cell.{State, bare_table, cell_of, table_of}
use Rattle.meaning.specs.Update.{with_land, with_order}
use Rattle.meaning.specs.Run.{step_of}
use Rattle.meaning.specs.BenchRow.{Row, row, hex, agents, file, place, agent, enters, exits, opens}
use Rattle.meaning.specs.BenchTables.{Computed, bytes, number, placed, sample, entering, exiting, opening, going6, checked}

unfoldable pub first_rows : List Row
first_rows =
    -- "Loaded places count in file order": place 2, which the file gives before place 1, is entered
    row (file (place 3 0 7 ∷ place 2 0 4 ∷ place 1 0 4 ∷ place 4 1 6 ∷ agent 0 3 ∷ enters 0 4 ∷ [])) (agents "0 0 0 0")
    ("start 4[6[]] | 4[] | 7[enter 4]" ∷ "0 looked 0" ∷ "0 took 0" ∷ "0 took 0" ∷ "0 left 0" ∷ "end 4[6[]] | 4[7[]]" ∷ [])
    -- and opened
    ∷ row (file (place 2 0 4 ∷ place 1 0 4 ∷ place 3 2 6 ∷ agent 0 0 ∷ opens 0 4 ∷ [])) (agents "0 0 0 0")
    ("start open 4 | 4[6[]] | 4[]" ∷ "0 looked 0" ∷ "0 took 0" ∷ "0 took 0" ∷ "0 opened 0" ∷ "end 4[] | 6[]" ∷ [])
    -- "A fitting wish still decides": the younger one
    ∷ row (file (place 3 0 7 ∷ place 2 0 4 ∷ place 1 0 4 ∷ place 4 1 6 ∷ agent 0 3 ∷ enters 0 4 ∷ [])) (hex "00 ff 00 ff 00 01 00 ff")
    ("start 4[6[]] | 4[] | 7[enter 4]" ∷ "0 looked 0" ∷ "0 took 0" ∷ "0 took 0" ∷ "0 left 0" ∷ "end 4[6[] | 7[]] | 4[]" ∷ [])
    -- a wish for a place that does not qualify is passed over: the elder one
    ∷ row (file (place 3 0 7 ∷ place 2 0 4 ∷ place 1 0 4 ∷ place 4 1 6 ∷ agent 0 3 ∷ enters 0 4 ∷ [])) (hex "00 ff 00 ff 00 03 00 ff")
    ("start 4[6[]] | 4[] | 7[enter 4]" ∷ "0 looked 0" ∷ "0 took 0" ∷ "0 took 0" ∷ "0 left 0" ∷ "end 4[6[]] | 4[7[]]" ∷ [])
    -- "A place that comes is the latest": tray 1 leaves, comes to 9, leaves it and comes back; then tray 2 is entered
    ∷ row (file (place 1 0 4 ∷ place 2 0 4 ∷ place 3 0 9 ∷ place 4 0 7 ∷ place 5 1 6 ∷ agent 0 1 ∷ enters 0 9 ∷ exits 0 9 ∷ agent 1 4 ∷ enters 1 4 ∷ []))
    (agents "0 0 0 0 0 0 0 0 0 0 0 0 0 0 1 1 1 1")
    ("start 4[] | 4[enter 9.exit 9 | 6[]] | 7[enter 4] | 9[]" ∷ "0 looked 0" ∷ "0 took 0" ∷ "0 took 0" ∷ "0 left 0" ∷ "0 took 0" ∷ "0 took 0" ∷ "0 came 0" ∷
    "0 looked 0" ∷ "0 took 0" ∷ "0 took 0" ∷ "0 left 0" ∷ "0 took 0" ∷ "0 took 0" ∷ "0 came 0" ∷ "1 looked 0" ∷ "1 took 0" ∷ "1 took 0" ∷
    "1 left 0" ∷ "end 4[6[]] | 4[7[]] | 9[]" ∷ [])
    -- a place on its way keeps its position until it comes: tray 1 leaves first and comes last, so tray 2 is entered
    ∷ row (file (place 1 0 4 ∷ place 2 0 4 ∷ place 3 0 9 ∷ place 4 3 7 ∷ place 5 1 6 ∷ agent 0 1 ∷ enters 0 9 ∷ agent 1 2 ∷ enters 1 9 ∷ agent 2 4 ∷ enters 2 4 ∷ []))
    (agents "0 0 0 0 1 1 1 1 1 1 1 0 0 0 2 2 2 2")
    ("start 4[enter 9 | 6[]] | 4[enter 9] | 9[7[enter 4]]" ∷ "0 looked 0" ∷ "0 took 0" ∷ "0 took 0" ∷ "0 left 0" ∷ "1 looked 0" ∷ "1 took 0" ∷ "1 took 0" ∷
    "1 left 0" ∷ "1 took 0" ∷ "1 took 0" ∷ "1 came 0" ∷ "0 took 0" ∷ "0 took 0" ∷ "0 came 0" ∷ "2 looked 0" ∷ "2 took 0" ∷ "2 took 0" ∷
    "2 left 0" ∷ "end 9[4[6[]] | 4[7[]]]" ∷ [])
    -- "children freed by an opening become the latest": place 3, which the file gives after them, is opened before them
    ∷ row (file (place 5 0 8 ∷ place 2 5 4 ∷ place 1 5 4 ∷ place 3 0 4 ∷ place 6 3 13 ∷ place 7 2 12 ∷ place 8 1 11 ∷ agent 0 0 ∷ opens 0 8 ∷
    opens 0 4 ∷ [])) (agents "0 0 0 0 0 0 0 0")
    ("start open 8.open 4 | 4[13[]] | 8[4[11[]] | 4[12[]]]" ∷ "0 looked 0" ∷ "0 took 0" ∷ "0 took 0" ∷ "0 opened 0" ∷ "0 looked 0" ∷ "0 took 0" ∷
    "0 took 0" ∷ "0 opened 0" ∷ "end 13[] | 4[11[]] | 4[12[]]" ∷ [])
    -- "and keep their order among themselves": then place 2, which the file gives before place 1
    ∷ row (file (place 5 0 8 ∷ place 2 5 4 ∷ place 1 5 4 ∷ place 3 0 4 ∷ place 6 3 13 ∷ place 7 2 12 ∷ place 8 1 11 ∷ agent 0 0 ∷ opens 0 8 ∷
    opens 0 4 ∷ opens 0 4 ∷ [])) (agents "0 0 0 0 0 0 0 0 0 0 0 0")
    ("start open 8.open 4.open 4 | 4[13[]] | 8[4[11[]] | 4[12[]]]" ∷ "0 looked 0" ∷ "0 took 0" ∷ "0 took 0" ∷ "0 opened 0" ∷ "0 looked 0" ∷
    "0 took 0" ∷ "0 took 0" ∷ "0 opened 0" ∷ "0 looked 0" ∷ "0 took 0" ∷ "0 took 0" ∷ "0 opened 0" ∷ "end 12[] | 13[] | 4[11[]]" ∷ [])
    ∷ []

-- a cell whose places stand in this row
abbrev ordered : List ℕ → State → State
ordered row c = with_land c (with_order c.land row)

-- the last four of a cell's row
abbrev lasts : State → List ℕ
lasts c = drop 60 c.land.order

-- the cell after a step of agent x with wish 255
abbrev after : ℕ → State → State
after x c = cell_of (step_of (table_of c) x 255).cell

unfoldable pub order_rows : List Computed
order_rows =
    -- the bare floor's row, and the row of a loaded cell: places 1, 2 and 3 have come, in this order
    bytes (60 ∷ 61 ∷ 62 ∷ 63 ∷ []) (lasts (cell_of bare_table))
    ∷ bytes (63 ∷ 1 ∷ 2 ∷ 3 ∷ []) (lasts sample)
    -- left changes nothing; came: place 1 is the latest; opened: place 2 has no children
    ∷ bytes (63 ∷ 1 ∷ 2 ∷ 3 ∷ []) (lasts (after 0 entering))
    ∷ bytes (63 ∷ 1 ∷ 2 ∷ 3 ∷ []) (lasts (after 2 exiting))
    ∷ bytes (63 ∷ 2 ∷ 3 ∷ 1 ∷ []) (lasts (after 0 going6))
    ∷ bytes (63 ∷ 1 ∷ 2 ∷ 3 ∷ []) (lasts (after 1 opening))
    -- nor has a number that is not in use, whatever the table has there
    ∷ bytes (63 ∷ 1 ∷ 2 ∷ 3 ∷ []) (lasts (after 1 (placed 9 5 2 0 opening)))
    -- sound: every number stands in the row, in whatever order
    ∷ number 0 (checked (ordered counting_row sample))
    ∷ number 0 (checked (ordered (set (set counting_row 0 63) 63 0) sample))
    -- not sound: a number missing, in use or not; a number above 63
    ∷ number 10 (checked (ordered (set counting_row 1 2) sample))
    ∷ number 10 (checked (ordered (set counting_row 63 0) sample))
    ∷ number 10 (checked (ordered (set counting_row 0 1) (cell_of bare_table)))
    ∷ number 10 (checked (ordered (set counting_row 63 64) sample))
    ∷ number 10 (checked (ordered (counting_row ++ (64 ∷ [])) sample))
    ∷ []
