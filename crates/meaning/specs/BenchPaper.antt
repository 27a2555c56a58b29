-- The rows of document 01: the worked example of `walk`, the bench cases that are marked P, and the slips that the moves invite.
use Rattle.std.specs.Prelude.{List, [], ◌∷◌}
use Rattle.meaning.specs.BenchRow.{Row, row, hex, agents, file, place, agent, enters, exits, opens}

unfoldable pub paper_rows : List Row
paper_rows =
    -- the worked example of `walk`
    row (hex "01 01 00 07 00 01 02 00 09 00 02 00 01 03 00 01 09 00 02 01 02 03 01 02 07 00 04") (agents "0 1 0 1 0 0 1 1 0 0 0 0 1")
    ("start 7[enter 9] | 9[exit 7]" ∷ "0 looked 0" ∷ "1 looked 0" ∷ "0 took 0" ∷ "1 held 0" ∷ "0 took 0" ∷ "0 left 0" ∷ "1 took 0" ∷ "1 slept 0" ∷
    "0 took 0" ∷ "0 took 0" ∷ "0 came 1" ∷ "0 done 0" ∷ "1 looked 0" ∷ "end 9[exit 7 | 7[]]" ∷ [])
    -- "The empty-file row of the bench cases changes to accepted with listing `0`" (document 02, W1), whatever the order
    ∷ row [] [] ("start 0" ∷ "end 0" ∷ [])
    ∷ row [] (agents "0") ("start 0" ∷ "0 refused 11" ∷ "end 0" ∷ [])
    -- "A file that begins and lacks its end is still cut short"
    ∷ row (hex "01") [] ("refused 1 0" ∷ [])
    -- "`04`: accepted, `0`"
    ∷ row (hex "04") [] ("start 0" ∷ "end 0" ∷ [])
    -- "`04 04`: 9 at 1"
    ∷ row (hex "04 04") [] ("refused 9 1" ∷ [])
    -- "`01 01 00 07 00`: 1 at 5"
    ∷ row (hex "01 01 00 07 00") [] ("refused 1 5" ∷ [])
    -- "`01 05 05 07 00 04`: 5 at 0"
    ∷ row (hex "01 05 05 07 00 04") [] ("refused 5 0" ∷ [])
    -- "`01 01 00 00 00 04`: 6 at 0"
    ∷ row (hex "01 01 00 00 00 04") [] ("refused 6 0" ∷ [])
    -- "`01 40 00 07 00 04`: 3 at 0; with `3F`: accepted"
    ∷ row (hex "01 40 00 07 00 04") [] ("refused 3 0" ∷ [])
    ∷ row (hex "01 3f 00 07 00 04") [] ("start 7[]" ∷ "end 7[]" ∷ [])
    -- "`7[enter 7]` sleeps: a place isn't its own sibling"
    ∷ row (file (place 1 0 7 ∷ agent 0 1 ∷ enters 0 7 ∷ [])) (agents "0 0 0 0")
    ("start 7[enter 7]" ∷ "0 looked 0" ∷ "0 took 0" ∷ "0 slept 0" ∷ "0 asleep 0" ∷ "end 7[enter 7]" ∷ [])
    -- "`7[enter 7] | 7[]` ends `7[7[]]`, agent in place 1"
    ∷ row (file (place 1 0 7 ∷ place 2 0 7 ∷ agent 0 1 ∷ enters 0 7 ∷ [])) (agents "0 0 0 0 0 0 0 0")
    ("start 7[] | 7[enter 7]" ∷ "0 looked 0" ∷ "0 took 0" ∷ "0 took 0" ∷ "0 left 0" ∷ "0 took 0" ∷ "0 took 0" ∷ "0 came 0" ∷ "0 done 0" ∷
    "end 7[7[]]" ∷ [])
    -- "`9[exit 9]` sleeps"
    ∷ row (file (place 1 0 9 ∷ agent 0 1 ∷ exits 0 9 ∷ [])) (agents "0 0 0 0")
    ("start 9[exit 9]" ∷ "0 looked 0" ∷ "0 took 0" ∷ "0 slept 0" ∷ "0 asleep 0" ∷ "end 9[exit 9]" ∷ [])
    -- "`9[7[exit 9]]` ends `9[] | 7[]`"
    ∷ row (file (place 1 0 9 ∷ place 2 1 7 ∷ agent 0 2 ∷ exits 0 9 ∷ [])) (agents "0 0 0 0 0 0 0 0")
    ("start 9[7[exit 9]]" ∷ "0 looked 0" ∷ "0 took 0" ∷ "0 took 0" ∷ "0 left 0" ∷ "0 took 0" ∷ "0 took 0" ∷ "0 came 0" ∷ "0 done 0" ∷
    "end 7[] | 9[]" ∷ [])
    -- "`open 7 | 7[8[]]` ends `8[]`"
    ∷ row (file (place 1 0 7 ∷ place 2 1 8 ∷ agent 0 0 ∷ opens 0 7 ∷ [])) (agents "0 0 0 0 0")
    ("start open 7 | 7[8[]]" ∷ "0 looked 0" ∷ "0 took 0" ∷ "0 took 0" ∷ "0 opened 0" ∷ "0 done 0" ∷ "end 8[]" ∷ [])
    ∷ []

unfoldable pub slip_rows : List Row
slip_rows =
    -- "On coming, not waking those asleep on the destination's parent": agent 0, asleep because something is on its way to its target, is woken
    -- when it comes, and looks anew
    row (file (place 1 0 1 ∷ place 2 0 2 ∷ agent 0 0 ∷ opens 0 1 ∷ agent 1 2 ∷ enters 1 1 ∷ [])) (agents "1 1 1 1 0 0 0 1 1 1 0 0 0 0 0")
    ("start open 1 | 1[] | 2[enter 1]" ∷ "1 looked 0" ∷ "1 took 0" ∷ "1 took 0" ∷ "1 left 0" ∷ "0 looked 0" ∷ "0 took 0" ∷ "0 slept 0" ∷
    "1 took 0" ∷ "1 took 0" ∷ "1 came 1" ∷ "0 looked 0" ∷ "0 took 0" ∷ "0 took 0" ∷ "0 opened 0" ∷ "0 done 0" ∷ "end 2[]" ∷ [])
    -- "Fixing an exit's destination at stage 2: the parent's holder may be opened meanwhile"
    ∷ row (file (place 1 0 5 ∷ place 2 1 6 ∷ place 3 2 7 ∷ agent 0 0 ∷ opens 0 5 ∷ agent 1 3 ∷ exits 1 6 ∷ [])) (agents "1 1 1 0 0 0 0 1 1 1 1 1")
    ("start open 5 | 5[6[7[exit 6]]]" ∷ "1 looked 0" ∷ "1 took 0" ∷ "1 took 0" ∷ "0 looked 0" ∷ "0 took 0" ∷ "0 took 0" ∷ "0 opened 0" ∷
    "1 left 0" ∷ "1 took 0" ∷ "1 took 0" ∷ "1 came 0" ∷ "1 done 0" ∷ "end 6[] | 7[]" ∷ [])
    -- "Opening a place that something is on its way to", though its opener holds both locks: back
    ∷ row (file (place 1 0 1 ∷ place 2 1 2 ∷ place 3 2 3 ∷ agent 0 0 ∷ opens 0 1 ∷ agent 1 3 ∷ exits 1 2 ∷ []))
    (agents "0 0 0 1 1 1 1 0 1 1 1 0 0 0 0")
    ("start open 1 | 1[2[3[exit 2]]]" ∷ "0 looked 0" ∷ "0 took 0" ∷ "0 took 0" ∷ "1 looked 0" ∷ "1 took 0" ∷ "1 took 0" ∷ "1 left 0" ∷ "0 back 0" ∷
    "1 took 0" ∷ "1 took 0" ∷ "1 came 0" ∷ "0 looked 0" ∷ "0 took 0" ∷ "0 took 0" ∷ "0 opened 0" ∷ "end 2[] | 3[]" ∷ [])
    ∷ []
