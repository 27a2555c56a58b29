-- Rows on the table that a load and each kind of step leave: what the agent remembers, where its place stands, and which locks are held.
use Rattle.std.specs.Prelude.{List, [], ◌∷◌, ℕ, get_or}
use Rattle.table.specs.Base.{tab}
use Rattle.table.specs.Cell.{State, no_action, bare_table, cell_of, table_of}
use Rattle.meaning.specs.Run.{step_of}
use Rattle.meaning.specs.BenchTables.{Computed, bytes, placed, locked, staged, acting, sample, found, holding, entering, exiting, opening}
use Rattle.meaning.specs.BenchTables.{going, going5, going6}

-- an agent's home, stage, remembered and chosen place
abbrev agent_in : State → ℕ → List ℕ
agent_in c x = (c.agent x).home ∷ (c.agent x).stage ∷ (c.agent x).remembered ∷ (c.agent x).chosen ∷ []

-- the first of its actions that is unused, how many were given, and the kind and name of its action at j
abbrev actions_in : State → ℕ → ℕ → List ℕ
actions_in c x j =
    (c.agent x).next ∷ (c.agent x).count ∷ (get_or (c.agent x).actions j no_action).kind ∷ (get_or (c.agent x).actions j no_action).name ∷ []

-- a place's name, parent and way
abbrev place_in : State → ℕ → List ℕ
place_in c q = (c.land.place q).name.name ∷ (c.land.place q).parent ∷ (c.land.place q).way ∷ []

-- the holders of the locks of places 0 to 3; 64 is none
abbrev locks_in : State → List ℕ
locks_in c = tab c.lock 4 0

-- the cell after a step of agent x with wish 255
abbrev after : ℕ → State → State
after x c = cell_of (step_of (table_of c) x 255).cell

unfoldable pub after_rows : List Computed
unfolding tab
after_rows =
    -- the bare floor: "name 0, no parent", not linked; an unused place, an agent that no record gave, free locks
    bytes (0 ∷ 0 ∷ 1 ∷ []) (place_in (cell_of bare_table) 0)
    ∷ bytes (0 ∷ 0 ∷ 0 ∷ []) (place_in (cell_of bare_table) 1)
    ∷ bytes (0 ∷ 8 ∷ 0 ∷ 0 ∷ []) (agent_in (cell_of bare_table) 0)
    ∷ bytes (0 ∷ 0 ∷ 0 ∷ 0 ∷ []) (actions_in (cell_of bare_table) 0 0)
    ∷ bytes (64 ∷ 64 ∷ 64 ∷ 64 ∷ []) (locks_in (cell_of bare_table))
    -- a loaded place and agent
    ∷ bytes (8 ∷ 1 ∷ 0 ∷ []) (place_in sample 2)
    ∷ bytes (2 ∷ 0 ∷ 0 ∷ 0 ∷ []) (agent_in sample 2)
    ∷ bytes (0 ∷ 2 ∷ 2 ∷ 7 ∷ []) (actions_in sample 2 1)
    -- 0: "Enter or exit: remember the parent; looked, stage 1", "Open: remember its own place"
    ∷ bytes (1 ∷ 1 ∷ 0 ∷ 0 ∷ []) (agent_in (after 0 sample) 0)
    ∷ bytes (1 ∷ 1 ∷ 1 ∷ 0 ∷ []) (agent_in (after 1 sample) 1)
    ∷ bytes (64 ∷ 64 ∷ 64 ∷ 64 ∷ []) (locks_in (after 1 sample))
    -- "With no linked parent: slept, stage 7 on its own place"
    ∷ bytes (1 ∷ 7 ∷ 1 ∷ 0 ∷ []) (agent_in (after 1 (acting 1 0 2 5 going)) 1)
    -- 1: "Lock the remembered place p: took, stage 2"
    ∷ bytes (1 ∷ 2 ∷ 0 ∷ 0 ∷ []) (agent_in (after 0 found) 0)
    ∷ bytes (0 ∷ 64 ∷ 64 ∷ 64 ∷ []) (locks_in (after 0 found))
    -- 2: "lock the second place: took, stage 3": its own for enter and exit, the chosen one for open; an exit chooses nothing
    ∷ bytes (1 ∷ 3 ∷ 0 ∷ 3 ∷ []) (agent_in (after 0 holding) 0)
    ∷ bytes (0 ∷ 0 ∷ 64 ∷ 64 ∷ []) (locks_in (after 0 holding))
    ∷ bytes (2 ∷ 3 ∷ 1 ∷ 0 ∷ []) (agent_in (after 2 (locked 1 2 (staged 2 2 1 0 sample))) 2)
    ∷ bytes (64 ∷ 2 ∷ 2 ∷ 64 ∷ []) (locks_in (after 2 (locked 1 2 (staged 2 2 1 0 sample))))
    ∷ bytes (1 ∷ 3 ∷ 1 ∷ 2 ∷ []) (agent_in (after 1 (locked 1 1 (staged 1 2 1 0 sample))) 1)
    ∷ bytes (64 ∷ 1 ∷ 1 ∷ 64 ∷ []) (locks_in (after 1 (locked 1 1 (staged 1 2 1 0 sample))))
    -- 2: "release, slept, stage 7 on p"; "release, back, stage 0"
    ∷ bytes (1 ∷ 7 ∷ 0 ∷ 0 ∷ []) (agent_in (after 0 (acting 0 0 1 5 holding)) 0)
    ∷ bytes (64 ∷ 64 ∷ 64 ∷ 64 ∷ []) (locks_in (after 0 (acting 0 0 1 5 holding)))
    ∷ bytes (1 ∷ 0 ∷ 0 ∷ 0 ∷ []) (agent_in (after 0 (placed 1 7 3 0 holding)) 0)
    ∷ bytes (64 ∷ 64 ∷ 64 ∷ 64 ∷ []) (locks_in (after 0 (placed 1 7 3 0 holding)))
    -- a place that is not in use is not entered, and is not on its way to the one to be opened
    ∷ bytes (1 ∷ 7 ∷ 0 ∷ 0 ∷ []) (agent_in (after 0 (placed 9 5 0 0 (acting 0 0 1 5 holding))) 0)
    ∷ bytes (1 ∷ 8 ∷ 0 ∷ 0 ∷ []) (agent_in (after 1 (placed 9 5 2 1 opening)) 1)
    -- 3: "unlink its place; the destination is the chosen place, or p's parent", "release both", "left, stage 4"
    ∷ bytes (1 ∷ 4 ∷ 0 ∷ 0 ∷ []) (agent_in (after 0 entering) 0)
    ∷ bytes (7 ∷ 3 ∷ 1 ∷ []) (place_in (after 0 entering) 1)
    ∷ bytes (64 ∷ 64 ∷ 64 ∷ 64 ∷ []) (locks_in (after 0 entering))
    ∷ bytes (2 ∷ 4 ∷ 0 ∷ 0 ∷ []) (agent_in (after 2 exiting) 2)
    ∷ bytes (8 ∷ 0 ∷ 1 ∷ []) (place_in (after 2 exiting) 2)
    -- 3: opened, "or 8 if no action is left"; a moved agent is at stage 0 in p; "release both"
    ∷ bytes (1 ∷ 8 ∷ 0 ∷ 0 ∷ []) (agent_in (after 1 opening) 1)
    ∷ bytes (1 ∷ 0 ∷ 0 ∷ 0 ∷ []) (agent_in (after 1 (staged 2 1 3 0 opening)) 2)
    ∷ bytes (64 ∷ 64 ∷ 64 ∷ 64 ∷ []) (locks_in (after 1 opening))
    -- "its number becomes unused": nothing is left of the place
    ∷ bytes (0 ∷ 0 ∷ 0 ∷ []) (place_in (after 1 opening) 2)
    -- 4 and 5: "Lock its own place: took, stage 5"; "Lock the destination: took, stage 6"
    ∷ bytes (1 ∷ 5 ∷ 0 ∷ 0 ∷ []) (agent_in (after 0 going) 0)
    ∷ bytes (64 ∷ 0 ∷ 64 ∷ 64 ∷ []) (locks_in (after 0 going))
    ∷ bytes (1 ∷ 6 ∷ 0 ∷ 0 ∷ []) (agent_in (after 0 going5) 0)
    ∷ bytes (64 ∷ 0 ∷ 64 ∷ 0 ∷ []) (locks_in (after 0 going5))
    -- 6: "Link; release both", came; "Waking sets an agent to stage 0", and it remembers nothing
    ∷ bytes (1 ∷ 8 ∷ 0 ∷ 0 ∷ []) (agent_in (after 0 going6) 0)
    ∷ bytes (7 ∷ 3 ∷ 0 ∷ []) (place_in (after 0 going6) 1)
    ∷ bytes (64 ∷ 64 ∷ 64 ∷ 64 ∷ []) (locks_in (after 0 going6))
    ∷ bytes (2 ∷ 0 ∷ 0 ∷ 0 ∷ []) (agent_in (after 0 (staged 2 7 1 0 going6)) 2)
    ∷ []
