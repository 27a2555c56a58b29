-- Rows on one step (document 01, "One step"): each word, what it does to others, and the number woken.
use Rattle.std.specs.Prelude.{List, [], ◌∷◌}
use Rattle.meaning.specs.BenchRow.{Row, row, hex, agents, file, place, agent, enters, exits, opens}

unfoldable pub step_rows : List Row
step_rows =
    -- "Enter and open choose the wished place if it qualifies": place 3, by the wish at stage 2 alone
    row (file (place 1 0 3 ∷ place 2 0 4 ∷ place 3 0 4 ∷ place 4 0 5 ∷ place 5 3 6 ∷ agent 0 1 ∷ enters 0 4 ∷ [])) (hex "00 02 00 02 00 03 00 02")
    ("start 3[enter 4] | 4[6[]] | 4[] | 5[]" ∷ "0 looked 0" ∷ "0 took 0" ∷ "0 took 0" ∷ "0 left 0" ∷ "end 4[3[] | 6[]] | 4[] | 5[]" ∷ [])
    -- else "the qualifying place that has been under this parent longest" (document 02, W5), here the one that the file gives first: a wish for
    -- an unfit place
    ∷ row (file (place 1 0 3 ∷ place 2 0 4 ∷ place 3 0 4 ∷ place 4 0 5 ∷ place 5 3 6 ∷ agent 0 1 ∷ enters 0 4 ∷ [])) (hex "00 03 00 03 00 04 00 03")
    ("start 3[enter 4] | 4[6[]] | 4[] | 5[]" ∷ "0 looked 0" ∷ "0 took 0" ∷ "0 took 0" ∷ "0 left 0" ∷ "end 4[3[]] | 4[6[]] | 5[]" ∷ [])
    -- "Other wishes are passed over": 67 is not 3
    ∷ row (file (place 1 0 3 ∷ place 2 0 4 ∷ place 3 0 4 ∷ place 4 0 5 ∷ place 5 3 6 ∷ agent 0 1 ∷ enters 0 4 ∷ [])) (hex "00 03 00 03 00 43 00 03")
    ("start 3[enter 4] | 4[6[]] | 4[] | 5[]" ∷ "0 looked 0" ∷ "0 took 0" ∷ "0 took 0" ∷ "0 left 0" ∷ "end 4[3[]] | 4[6[]] | 5[]" ∷ [])
    -- a wish for its own place
    ∷ row (file (place 3 0 4 ∷ place 1 0 4 ∷ place 2 0 4 ∷ place 4 2 6 ∷ agent 0 3 ∷ enters 0 4 ∷ [])) (hex "00 ff 00 ff 00 03 00 ff")
    ("start 4[6[]] | 4[] | 4[enter 4]" ∷ "0 looked 0" ∷ "0 took 0" ∷ "0 took 0" ∷ "0 left 0" ∷ "end 4[4[]] | 4[6[]]" ∷ [])
    -- open: the wished place
    ∷ row (file (place 1 0 4 ∷ place 2 0 4 ∷ agent 0 0 ∷ opens 0 4 ∷ opens 0 4 ∷ place 3 2 6 ∷ [])) (hex "00 ff 00 ff 00 02 00 ff")
    ("start open 4.open 4 | 4[6[]] | 4[]" ∷ "0 looked 0" ∷ "0 took 0" ∷ "0 took 0" ∷ "0 opened 0" ∷ "end open 4 | 4[] | 6[]" ∷ [])
    -- open: the one that the file gives first, and then "only an agent's next action counts"
    ∷ row (file (place 1 0 4 ∷ place 2 0 4 ∷ agent 0 0 ∷ opens 0 4 ∷ opens 0 6 ∷ place 3 2 6 ∷ [])) (agents "0 0 0 0 0 0 0")
    ("start open 4.open 6 | 4[6[]] | 4[]" ∷ "0 looked 0" ∷ "0 took 0" ∷ "0 took 0" ∷ "0 opened 0" ∷ "0 looked 0" ∷ "0 took 0" ∷ "0 slept 0" ∷
    "end open 6 | 4[6[]]" ∷ [])
    -- left: "wake all asleep on p or its own place", agents 1 and 2; came: ".. its own place, the destination, or the place that the destination
    -- is linked to", agents 1 to 4
    ∷ row (file (place 1 0 7 ∷ place 2 0 9 ∷ place 3 2 4 ∷ agent 0 1 ∷ enters 0 9 ∷ agent 1 2 ∷ enters 1 5 ∷ agent 2 1 ∷ opens 2 5 ∷ agent 3 2 ∷
    opens 3 5 ∷ agent 4 3 ∷ exits 4 5 ∷ agent 5 3 ∷ opens 5 5 ∷ []))
    (agents "1 1 1 2 2 2 3 3 3 4 4 4 5 5 5 0 0 0 0 1 2 3 4 5 1 1 2 2 0 0 0 1 2 3 4 5")
    ("start 7[enter 9 | open 5] | 9[enter 5 | open 5 | 4[exit 5 | open 5]]" ∷ "1 looked 0" ∷ "1 took 0" ∷ "1 slept 0" ∷ "2 looked 0" ∷ "2 took 0" ∷
    "2 slept 0" ∷ "3 looked 0" ∷ "3 took 0" ∷ "3 slept 0" ∷ "4 looked 0" ∷ "4 took 0" ∷ "4 slept 0" ∷ "5 looked 0" ∷ "5 took 0" ∷ "5 slept 0" ∷
    "0 looked 0" ∷ "0 took 0" ∷ "0 took 0" ∷ "0 left 2" ∷ "1 looked 0" ∷ "2 looked 0" ∷ "3 asleep 0" ∷ "4 asleep 0" ∷ "5 asleep 0" ∷ "1 took 0" ∷
    "1 slept 0" ∷ "2 took 0" ∷ "2 slept 0" ∷ "0 took 0" ∷ "0 took 0" ∷ "0 came 4" ∷ "1 looked 0" ∷ "2 looked 0" ∷ "3 looked 0" ∷ "4 looked 0" ∷
    "5 asleep 0" ∷ "end 9[enter 5 | open 5 | 4[exit 5 | open 5] | 7[open 5]]" ∷ [])
    -- ".. if any": a destination on its way wakes nobody further on
    ∷ row (file (place 1 0 1 ∷ place 2 0 2 ∷ place 3 0 3 ∷ agent 0 1 ∷ enters 0 2 ∷ agent 1 2 ∷ enters 1 3 ∷ agent 2 3 ∷ opens 2 9 ∷ []))
    (agents "0 0 0 0 1 1 1 1 2 2 2 0 0 0 2 1 1 1")
    ("start 1[enter 2] | 2[enter 3] | 3[open 9]" ∷ "0 looked 0" ∷ "0 took 0" ∷ "0 took 0" ∷ "0 left 0" ∷ "1 looked 0" ∷ "1 took 0" ∷ "1 took 0" ∷
    "1 left 0" ∷ "2 looked 0" ∷ "2 took 0" ∷ "2 slept 0" ∷ "0 took 0" ∷ "0 took 0" ∷ "0 came 0" ∷ "2 asleep 0" ∷ "1 took 0" ∷ "1 took 0" ∷
    "1 came 1" ∷ "end 3[open 9 | 2[1[]]]" ∷ [])
    -- opened: "wake all asleep on p or on it", moved or not: agents 1, 2, 3, 4; agent 5 "that remembered it at stage 1" looks anew and is not
    -- counted; 6 stays done, 7 asleep elsewhere
    ∷ row (file (place 1 0 1 ∷ place 2 1 2 ∷ place 3 0 3 ∷ place 4 3 4 ∷ agent 0 0 ∷ opens 0 1 ∷ enters 0 3 ∷ agent 1 0 ∷ opens 1 5 ∷ agent 2 1 ∷
    opens 2 5 ∷ agent 3 1 ∷ enters 3 5 ∷ agent 4 2 ∷ enters 4 5 ∷ agent 5 2 ∷ enters 5 8 ∷ agent 6 1 ∷ agent 7 4 ∷ enters 7 5 ∷ []))
    (agents "1 1 1 2 2 2 3 3 3 4 4 4 7 7 7 5 0 0 0 0 1 2 3 4 5 6 7 0")
    ("start open 1.enter 3 | open 5 | 1[enter 5 | open 5 | 2[enter 5 | enter 8]] | 3[4[enter 5]]" ∷ "1 looked 0" ∷ "1 took 0" ∷ "1 slept 0" ∷
    "2 looked 0" ∷ "2 took 0" ∷ "2 slept 0" ∷ "3 looked 0" ∷ "3 took 0" ∷ "3 slept 0" ∷ "4 looked 0" ∷ "4 took 0" ∷ "4 slept 0" ∷ "7 looked 0" ∷
    "7 took 0" ∷ "7 slept 0" ∷ "5 looked 0" ∷ "0 looked 0" ∷ "0 took 0" ∷ "0 took 0" ∷ "0 opened 4" ∷ "1 looked 0" ∷ "2 looked 0" ∷ "3 slept 0" ∷
    "4 looked 0" ∷ "5 looked 0" ∷ "6 done 0" ∷ "7 asleep 0" ∷ "0 slept 0" ∷
    "end enter 3 | enter 5 | open 5 | open 5 | 2[enter 5 | enter 8] | 3[4[enter 5]]" ∷ [])
    -- "the moved agents that aren't done go to stage 0", from stage 1 too; not counted
    ∷ row (file (place 1 0 1 ∷ agent 0 0 ∷ opens 0 1 ∷ agent 1 1 ∷ exits 1 5 ∷ agent 2 1 ∷ opens 2 5 ∷ [])) (agents "1 2 0 0 0 0 1 2")
    ("start open 1 | 1[exit 5 | open 5]" ∷ "1 looked 0" ∷ "2 looked 0" ∷ "0 looked 0" ∷ "0 took 0" ∷ "0 took 0" ∷ "0 opened 0" ∷ "1 slept 0" ∷
    "2 looked 0" ∷ "end exit 5 | open 5" ∷ [])
    -- "a lock that one of them held at stage 2 being released": agent 3 takes it
    ∷ row (file (place 1 0 2 ∷ place 2 1 1 ∷ agent 0 0 ∷ opens 0 1 ∷ agent 1 2 ∷ exits 1 2 ∷ agent 2 2 ∷ enters 2 2 ∷ agent 3 1 ∷ opens 3 5 ∷ []))
    (agents "2 1 1 1 1 1 1 1 2 3 3 0 0 0 0 3 2")
    ("start open 1 | 2[open 5 | 1[enter 2 | exit 2]]" ∷ "2 looked 0" ∷ "1 looked 0" ∷ "1 took 0" ∷ "1 took 0" ∷ "1 left 0" ∷ "1 took 0" ∷
    "1 took 0" ∷ "1 came 0" ∷ "2 took 0" ∷ "3 looked 0" ∷ "3 held 0" ∷ "0 looked 0" ∷ "0 took 0" ∷ "0 took 0" ∷ "0 opened 0" ∷ "3 took 0" ∷
    "2 slept 0" ∷ "end enter 2 | 2[open 5]" ∷ [])
    -- 2: "its place is no longer linked to p: release, back, stage 0"
    ∷ row (file (place 1 0 1 ∷ place 2 0 1 ∷ agent 0 1 ∷ enters 0 1 ∷ agent 1 1 ∷ exits 1 1 ∷ [])) (agents "0 1 0 0 0 0 0 0 1 1 1 1 1 1")
    ("start 1[] | 1[enter 1 | exit 1]" ∷ "0 looked 0" ∷ "1 looked 0" ∷ "0 took 0" ∷ "0 took 0" ∷ "0 left 0" ∷ "0 took 0" ∷ "0 took 0" ∷ "0 came 0" ∷
    "1 took 0" ∷ "1 back 0" ∷ "1 looked 0" ∷ "1 took 0" ∷ "1 took 0" ∷ "1 left 0" ∷ "end 1[] | 1[]" ∷ [])
    -- 0: "With no linked parent: slept, stage 7 on its own place": enter and exit on the floor
    ∷ row (file (place 1 0 7 ∷ agent 0 0 ∷ enters 0 7 ∷ agent 1 0 ∷ exits 1 7 ∷ [])) (agents "0 0 1 1")
    ("start enter 7 | exit 7 | 7[]" ∷ "0 slept 0" ∷ "0 asleep 0" ∷ "1 slept 0" ∷ "1 asleep 0" ∷ "end enter 7 | exit 7 | 7[]" ∷ [])
    -- and in a place on its way; it is woken when that comes
    ∷ row (file (place 1 0 7 ∷ place 2 0 9 ∷ agent 0 1 ∷ enters 0 9 ∷ exits 0 9 ∷ agent 1 1 ∷ exits 1 5 ∷ [])) (agents "0 0 0 0 1 1 0 0 0 1 0")
    ("start 7[enter 9.exit 9 | exit 5] | 9[]" ∷ "0 looked 0" ∷ "0 took 0" ∷ "0 took 0" ∷ "0 left 0" ∷ "1 slept 0" ∷ "1 asleep 0" ∷ "0 took 0" ∷
    "0 took 0" ∷ "0 came 1" ∷ "1 looked 0" ∷ "0 looked 0" ∷ "end 9[7[exit 5 | exit 9]]" ∷ [])
    -- at stages 1, 2, 4 and 5: "took .. or held"; "'Held' means the lock it needs belongs to another agent; nothing changes"
    ∷ row (file (place 1 0 7 ∷ place 2 0 9 ∷ agent 0 1 ∷ enters 0 9 ∷ agent 1 1 ∷ opens 1 5 ∷ agent 2 2 ∷ opens 2 5 ∷ agent 3 2 ∷ exits 3 5 ∷ []))
    (agents "1 1 0 0 0 3 3 1 0 0 1 1 0 1 0 2 2 0 2 0 0")
    ("start 7[enter 9 | open 5] | 9[exit 5 | open 5]" ∷ "1 looked 0" ∷ "1 took 0" ∷ "0 looked 0" ∷ "0 took 0" ∷ "0 held 0" ∷ "3 looked 0" ∷
    "3 held 0" ∷ "1 slept 0" ∷ "0 took 0" ∷ "0 left 1" ∷ "1 looked 0" ∷ "1 took 0" ∷ "0 held 0" ∷ "1 slept 0" ∷ "0 took 0" ∷ "2 looked 0" ∷
    "2 took 0" ∷ "0 held 0" ∷ "2 slept 0" ∷ "0 took 0" ∷ "0 came 2" ∷ "end 9[exit 5 | open 5 | 7[open 5]]" ∷ [])
    -- exit: "if p is named n and p is linked": p on its way, slept on p, woken when p comes
    ∷ row (file (place 1 0 9 ∷ place 2 1 7 ∷ place 3 0 8 ∷ agent 0 1 ∷ enters 0 8 ∷ agent 1 2 ∷ exits 1 9 ∷ [])) (agents "0 0 0 0 1 1 1 0 0 0 1")
    ("start 8[] | 9[enter 8 | 7[exit 9]]" ∷ "0 looked 0" ∷ "0 took 0" ∷ "0 took 0" ∷ "0 left 0" ∷ "1 looked 0" ∷ "1 took 0" ∷ "1 slept 0" ∷
    "0 took 0" ∷ "0 took 0" ∷ "0 came 1" ∷ "1 looked 0" ∷ "end 8[9[7[exit 9]]]" ∷ [])
    -- enter: "another place linked to p": one on its way to p is none, until it comes
    ∷ row (file (place 1 0 1 ∷ place 2 1 2 ∷ place 3 0 3 ∷ agent 0 2 ∷ exits 0 1 ∷ agent 1 3 ∷ enters 1 2 ∷ []))
    (agents "0 0 0 0 1 1 1 0 0 0 1 1 1 1")
    ("start 1[2[exit 1]] | 3[enter 2]" ∷ "0 looked 0" ∷ "0 took 0" ∷ "0 took 0" ∷ "0 left 0" ∷ "1 looked 0" ∷ "1 took 0" ∷ "1 slept 0" ∷
    "0 took 0" ∷ "0 took 0" ∷ "0 came 1" ∷ "1 looked 0" ∷ "1 took 0" ∷ "1 took 0" ∷ "1 left 0" ∷ "end 1[] | 2[3[]]" ∷ [])
    -- open: "a place linked to p": one on its way to p is none
    ∷ row (file (place 1 0 1 ∷ place 2 1 2 ∷ agent 0 2 ∷ exits 0 1 ∷ agent 1 0 ∷ opens 1 2 ∷ [])) (agents "0 0 0 0 1 1 1 0 0 0 1 1 1 1")
    ("start open 2 | 1[2[exit 1]]" ∷ "0 looked 0" ∷ "0 took 0" ∷ "0 took 0" ∷ "0 left 0" ∷ "1 looked 0" ∷ "1 took 0" ∷ "1 slept 0" ∷ "0 took 0" ∷
    "0 took 0" ∷ "0 came 1" ∷ "1 looked 0" ∷ "1 took 0" ∷ "1 took 0" ∷ "1 opened 0" ∷ "end 1[]" ∷ [])
    -- the highest numbers: place 63 is on its way to 61, which agent 63 is to open: back, slept, woken when it comes
    ∷ row (file (place 61 0 1 ∷ place 62 61 2 ∷ place 63 62 3 ∷ agent 63 0 ∷ opens 63 1 ∷ agent 62 63 ∷ exits 62 2 ∷ []))
    (hex "3f ff 3f ff 3f ff 3e ff 3e ff 3e ff 3e ff 3f ff 3f ff 3f ff 3f ff 3e ff 3e ff 3e ff 3f ff 3f ff 3f ff 3f ff")
    ("start open 1 | 1[2[3[exit 2]]]" ∷ "63 looked 0" ∷ "63 took 0" ∷ "63 took 0" ∷ "62 looked 0" ∷ "62 took 0" ∷ "62 took 0" ∷ "62 left 0" ∷
    "63 back 0" ∷ "63 looked 0" ∷ "63 took 0" ∷ "63 slept 0" ∷ "62 took 0" ∷ "62 took 0" ∷ "62 came 1" ∷ "63 looked 0" ∷ "63 took 0" ∷ "63 took 0" ∷
    "63 opened 0" ∷ "end 2[] | 3[]" ∷ [])
    -- opened wakes agent 63 too
    ∷ row (file (place 1 0 7 ∷ agent 0 0 ∷ opens 0 7 ∷ agent 63 0 ∷ opens 63 5 ∷ [])) (hex "3f ff 3f ff 3f ff 00 ff 00 ff 00 ff 00 ff")
    ("start open 5 | open 7 | 7[]" ∷ "63 looked 0" ∷ "63 took 0" ∷ "63 slept 0" ∷ "0 looked 0" ∷ "0 took 0" ∷ "0 took 0" ∷ "0 opened 1" ∷
    "end open 5" ∷ [])
    -- and place 63 is entered
    ∷ row (file (place 1 0 7 ∷ place 63 0 9 ∷ agent 0 1 ∷ enters 0 9 ∷ [])) (agents "0 0 0 0")
    ("start 7[enter 9] | 9[]" ∷ "0 looked 0" ∷ "0 took 0" ∷ "0 took 0" ∷ "0 left 0" ∷ "end 9[7[]]" ∷ [])
    ∷ []
