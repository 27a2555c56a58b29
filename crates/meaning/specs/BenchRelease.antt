-- Rows on release (document 02, W11): what walk writes of a place put out; soundness, the table after put, ask and commit, all numbers in use, and
-- what the calculus permits.
use Rattle.std.specs.Prelude.{cond, List, [], ◌∷◌, ℕ, ltb, length, drop}
use Rattle.sets.specs.Word.{bit}
use Rattle.table.specs.Base.{tab}
use Rattle.table.specs.Cell.{State, plain_name, cell_of, table_of, fresh_number}
use Rattle.table.specs.declared.Cell.{Cell}
use Rattle.meaning.specs.Update.{linked_place, with_places, with_used, with_land}
use Rattle.meaning.specs.Run.{Call, step_call, step_of, run, answers}
use Rattle.meaning.specs.Ask.{ask_of, commit_of}
use Rattle.meaning.specs.Codes.{ask_number, step_number, idle_of, idle_number}
use Rattle.meaning.specs.Calculus.{Tree, next_of, permits, move}
use Rattle.meaning.specs.Plain.{Plain, tree_of, plain_of, plain_run}
use Rattle.meaning.specs.BenchRow.{Row, row, hex, agents, file, many_places, place, agent, enters, opens, releases}
use Rattle.meaning.specs.BenchTables.{Computed, number, bytes, holds, fails, not_used, locked, staged, touched, loaded_from, checked}

-- ---- what walk writes

unfoldable pub release_rows : List Row
release_rows =
    -- a semaphore: "acquire by opening and release by putting out an empty place"; put "wakes those asleep on its own place", here the opener
    row (file (agent 0 0 ∷ opens 0 7 ∷ agent 1 0 ∷ releases 1 7 ∷ [])) (agents "0 0 0 1 1 1 1 0 0 0 0 0")
    ("start open 7 | release 7" ∷ "0 looked 0" ∷ "0 took 0" ∷ "0 slept 0" ∷ "1 looked 0" ∷ "1 took 0" ∷ "1 put 1" ∷ "1 done 0" ∷ "0 looked 0" ∷
    "0 took 0" ∷ "0 took 0" ∷ "0 opened 0" ∷ "0 done 0" ∷ "end 0" ∷ [])
    -- "a put place is the latest", though its number, 1, is the smallest: place 3 is entered
    ∷ row (file (place 2 0 5 ∷ place 3 0 9 ∷ place 4 3 6 ∷ agent 0 2 ∷ enters 0 9 ∷ agent 1 0 ∷ releases 1 9 ∷ [])) (agents "1 1 1 0 0 0 0")
    ("start release 9 | 5[enter 9] | 9[6[]]" ∷ "1 looked 0" ∷ "1 took 0" ∷ "1 put 0" ∷ "0 looked 0" ∷ "0 took 0" ∷ "0 took 0" ∷ "0 left 0" ∷
    "end 9[5[] | 6[]] | 9[]" ∷ [])
    -- "Numbers that openings freed are given again": the wish for place 1, which was the 5 that is opened, is one for the 6 put out
    ∷ row (file (place 1 0 5 ∷ place 2 0 7 ∷ place 3 0 6 ∷ place 4 3 8 ∷ agent 0 0 ∷ opens 0 5 ∷ releases 0 6 ∷ agent 1 2 ∷ enters 1 6 ∷ []))
    (hex "00 ff 00 ff 00 ff 00 ff 00 ff 00 ff 00 ff 01 ff 01 ff 01 01 01 ff")
    ("start open 5.release 6 | 5[] | 6[8[]] | 7[enter 6]" ∷ "0 looked 0" ∷ "0 took 0" ∷ "0 took 0" ∷ "0 opened 0" ∷ "0 looked 0" ∷ "0 took 0" ∷
    "0 put 0" ∷ "1 looked 0" ∷ "1 took 0" ∷ "1 took 0" ∷ "1 left 0" ∷ "end 6[7[]] | 6[8[]]" ∷ [])
    -- "held", while another agent has the lock of its own place; in a place on its way it puts out all the same
    ∷ row (file (place 1 0 7 ∷ place 2 0 9 ∷ agent 0 1 ∷ enters 0 9 ∷ agent 1 1 ∷ releases 1 5 ∷ [])) (agents "0 0 0 1 1 0 1 1")
    ("start 7[enter 9 | release 5] | 9[]" ∷ "0 looked 0" ∷ "0 took 0" ∷ "0 took 0" ∷ "1 looked 0" ∷ "1 held 0" ∷ "0 left 0" ∷ "1 took 0" ∷ "1 put 0" ∷
    "end 9[7[5[]]]" ∷ [])
    ∷ []

-- ---- a cell with release agents

-- `7[open 8 | release 5 | 8[]] | 9[enter 7 | release 6]`: places 1 and 3 stand on the floor, 4 in 1; agents 0 (release 5) and 1 (open 8) live in 1,
-- agents 2 (release 6) and 3 (enter 7) in 3. The smallest unused number is 2
unfoldable pub carrier : State
unfolding file
carrier = cell_of (loaded_from (file (place 1 0 7 ∷ place 3 0 9 ∷ place 4 1 8 ∷ agent 0 1 ∷ releases 0 5 ∷ agent 1 1 ∷ opens 1 8 ∷ agent 2 3 ∷ releases 2 6 ∷
    agent 3 3 ∷ enters 3 7 ∷ [])))

-- agent 0 at stage 2
abbrev releasing : State
releasing = locked 1 0 (staged 0 2 1 0 carrier)

-- every number in use: those that were not are places named 1 on the floor
abbrev crowded : State → State
crowded c = with_land c (with_used (with_places c.land (λ q. cond (c.land.used q) (c.land.place q) (linked_place (plain_name 1) 0))) (λ q. ltb q 64))

-- agent 1, which opens, at stage 3, while agent 2 sleeps on no place and all numbers are in use
abbrev emptying : State
emptying = locked 1 1 (locked 4 1 (staged 1 3 1 4 (staged 2 7 64 0 (crowded carrier))))

-- a file with 63 places, and an agent on the floor with `release 5`, after three of its steps
unfoldable pub rested : Cell
unfolding file
rested = run (loaded_from (many_places 63 (file (agent 0 0 ∷ releases 0 5 ∷ [])))) (step_call 0 255 ∷ step_call 0 255 ∷ step_call 0 255 ∷ [])

-- what a step of agent x answers, and the cell after it
abbrev answer : ℕ → State → ℕ
answer x c = step_number (step_of (table_of c) x 255).answer

abbrev after : ℕ → State → State
after x c = cell_of (step_of (table_of c) x 255).cell

-- what an ask tells, and what a commit of its three answers
abbrev asks : State → ℕ → ℕ
asks c x = ask_number (ask_of (table_of c) x 255)

abbrev commits : State → ℕ → ℕ → ℕ → ℕ → ℕ
commits c x word woken place = step_number (commit_of (table_of c) x 255 word woken place).answer

-- place 2: in use or not, its name and keys, parent and way, lock and touches
abbrev place_in : State → List ℕ
place_in c = bit (c.land.used 2) ∷ (c.land.place 2).name.name ∷ (c.land.place 2).name.entering ∷ (c.land.place 2).name.exiting ∷
    (c.land.place 2).name.opening ∷ (c.land.place 2).parent ∷ (c.land.place 2).way ∷ c.lock 2 ∷ c.touches 2 ∷ []

-- an agent's stage, remembered and chosen place, and the first of its actions that is unused
abbrev agent_in : State → ℕ → List ℕ
agent_in c x = (c.agent x).stage ∷ (c.agent x).remembered ∷ (c.agent x).chosen ∷ (c.agent x).next ∷ []

-- of a tree, place 2: in use or not, its name and opening key, where it stands; and how many actions agent 0 has left
abbrev tree_in : Tree → List ℕ
tree_in t = bit (t.used 2) ∷ (t.name 2).name ∷ (t.name 2).opening ∷ t.parent 2 ∷ length (t.unused 0) ∷ []

-- the plain tree after calls of agent 0
abbrev ran : List Call → Plain
ran calls = plain_run (plain_of carrier) calls (answers (table_of carrier) calls)

unfoldable pub release_numbers : List Computed
unfolding tab
release_numbers =
    -- "a release agent is held to the opener's rule": at stages 1 and 2 it remembers its home
    number 0 (checked carrier)
    ∷ number 0 (checked (staged 0 1 1 0 carrier))
    ∷ number 0 (checked releasing)
    ∷ number 10 (checked (staged 0 1 0 0 carrier))
    ∷ number 10 (checked (locked 0 0 (staged 0 2 0 0 carrier)))
    -- "and is never at stage 3", where an opener that has the two locks may be
    ∷ number 0 (checked (locked 1 1 (locked 4 1 (staged 1 3 1 4 carrier))))
    ∷ number 10 (checked (locked 1 0 (locked 4 0 (staged 0 3 1 4 carrier))))
    ∷ number 10 (checked (locked 1 0 (staged 0 3 1 4 carrier)))
    -- "asleep it, and no other agent, may remember no place": not an opener, not one that enters, and not a release agent that is awake
    ∷ number 0 (checked (staged 0 7 64 0 carrier))
    ∷ number 10 (checked (staged 1 7 64 0 carrier))
    ∷ number 10 (checked (staged 3 7 64 0 carrier))
    ∷ number 10 (checked (staged 0 1 64 0 carrier))
    -- no place is 64; asleep it may remember a place in use, as any, and no other number
    ∷ number 0 (checked (staged 0 7 3 0 carrier))
    ∷ number 10 (checked (staged 0 7 2 0 carrier))
    ∷ number 10 (checked (staged 0 7 65 0 carrier))
    -- "the smallest unused number", and none "with all numbers in use"
    ∷ number 2 (fresh_number carrier.land.used)
    ∷ number 64 (fresh_number (crowded carrier).land.used)
    -- "the agent looks at its own place, locks it"
    ∷ bytes (1 ∷ 1 ∷ 0 ∷ 0 ∷ []) (agent_in (after 0 carrier) 0)
    ∷ bytes (2 ∷ 1 ∷ 0 ∷ 0 ∷ []) (agent_in (after 0 (staged 0 1 1 0 carrier)) 0)
    -- "answers put", waking nobody; one asleep on its own place; one asleep elsewhere, and one on no place, sleep on
    ∷ number 0x000800 (answer 0 releasing)
    ∷ number 0x010800 (answer 0 (staged 1 7 1 0 releasing))
    ∷ bytes (0 ∷ 0 ∷ 0 ∷ 0 ∷ []) (agent_in (after 0 (staged 1 7 1 0 releasing)) 1)
    ∷ number 0x000800 (answer 0 (staged 3 7 0 0 (staged 2 7 64 0 (staged 1 7 3 0 releasing))))
    -- "a new place named n there, under the smallest unused number, with no agents, touches 0 and all keys n", whatever lock and touches that number had
    ∷ bytes (0 ∷ 0 ∷ 0 ∷ 0 ∷ 0 ∷ 0 ∷ 0 ∷ 64 ∷ 0 ∷ []) (place_in releasing)
    ∷ bytes (1 ∷ 5 ∷ 5 ∷ 5 ∷ 5 ∷ 1 ∷ 0 ∷ 64 ∷ 0 ∷ []) (place_in (after 0 releasing))
    ∷ bytes (1 ∷ 5 ∷ 5 ∷ 5 ∷ 5 ∷ 1 ∷ 0 ∷ 64 ∷ 0 ∷ []) (place_in (after 0 (locked 2 1 (touched 2 77 releasing))))
    -- "releases the lock", "the action used up and the stage then as after opened"
    ∷ bytes (64 ∷ 64 ∷ 64 ∷ 64 ∷ []) (tab (after 0 releasing).lock 4 0)
    ∷ bytes (8 ∷ 0 ∷ 0 ∷ 1 ∷ []) (agent_in (after 0 releasing) 0)
    -- "a put place is the latest of W5"
    ∷ bytes (63 ∷ 1 ∷ 3 ∷ 4 ∷ []) (drop 60 releasing.land.order)
    ∷ bytes (1 ∷ 3 ∷ 4 ∷ 2 ∷ []) (drop 60 (after 0 releasing).land.order)
    -- "With all numbers in use it releases the lock and sleeps (slept, on no place)"
    ∷ number 0 (checked (crowded releasing))
    ∷ number 0x000400 (answer 0 (crowded releasing))
    ∷ bytes (7 ∷ 64 ∷ 0 ∷ 0 ∷ []) (agent_in (after 0 (crowded releasing)) 0)
    ∷ bytes (64 ∷ 64 ∷ 64 ∷ 64 ∷ []) (tab (after 0 (crowded releasing)).lock 4 0)
    -- "until any opening, which wakes all such sleepers", here one in place 1 of an agent that lives in place 3
    ∷ number 0x010700 (answer 1 emptying)
    ∷ bytes (0 ∷ 0 ∷ 0 ∷ 0 ∷ []) (agent_in (after 1 emptying) 2)
    ∷ number 4 (fresh_number (after 1 emptying).land.used)
    -- "When all agents are asleep or done, a release may be an agent's next action, and then only with 64 places in use"
    ∷ number 0x0100 (idle_number (idle_of rested))
    ∷ number 0x000900 (step_number (step_of rested 0 255).answer)
    ∷ bytes (7 ∷ 64 ∷ 0 ∷ 0 ∷ []) (agent_in (cell_of rested) 0)
    ∷ bytes (4 ∷ 64 ∷ []) ((next_of (tree_of (cell_of rested)) 0).kind ∷ fresh_number (cell_of rested).land.used ∷ [])
    -- an ask of a release tells no place; a commit of what it tells is the step, one of the new place is refused
    ∷ number 0xff000800 (asks releasing 0)
    ∷ number 0xff000400 (asks (crowded releasing) 0)
    ∷ number 0x000800 (commits releasing 0 8 0 255)
    ∷ number 18 (commits releasing 0 8 0 2)
    -- "a move of the calculus, permitted while a number is unused", under the smallest; not an action of another kind
    ∷ holds (permits (tree_of carrier) 0 2)
    ∷ fails (permits (tree_of carrier) 0 5)
    ∷ fails (permits (tree_of carrier) 1 2)
    ∷ fails (permits (tree_of (crowded carrier)) 0 2)
    ∷ fails (permits (tree_of (crowded carrier)) 0 64)
    ∷ holds (permits (tree_of (not_used 63 (crowded carrier))) 0 63)
    -- "`release n.P` becomes `n[] | P`"
    ∷ bytes (0 ∷ 0 ∷ 0 ∷ 0 ∷ 1 ∷ []) (tree_in (tree_of carrier))
    ∷ bytes (1 ∷ 5 ∷ 5 ∷ 1 ∷ 0 ∷ []) (tree_in (move (tree_of carrier) 0 2))
    ∷ bytes (0 ∷ 0 ∷ 1 ∷ 0 ∷ 1 ∷ []) (tab (move (tree_of carrier) 0 2).parent 5 0)
    ∷ bytes (1 ∷ 1 ∷ 3 ∷ 3 ∷ []) (tab (move (tree_of carrier) 0 2).home 4 0)
    -- "The plain tree .. takes one such move for each put", and none before it
    ∷ bytes (0 ∷ 0 ∷ 0 ∷ 0 ∷ 1 ∷ []) (tree_in (ran (step_call 0 255 ∷ step_call 0 255 ∷ [])).tree)
    ∷ bytes (1 ∷ 5 ∷ 5 ∷ 1 ∷ 0 ∷ []) (tree_in (ran (step_call 0 255 ∷ step_call 0 255 ∷ step_call 0 255 ∷ [])).tree)
    ∷ bytes (1 ∷ 3 ∷ 4 ∷ 2 ∷ []) (drop 60 (ran (step_call 0 255 ∷ step_call 0 255 ∷ step_call 0 255 ∷ [])).order)
    ∷ []
