-- Rows on soundness (document 01, refusal 10): each clause of "A table is sound when", broken once, and what soundness does not ask.
use Rattle.std.specs.Prelude.{List, [], ◌∷◌}
use Rattle.table.specs.Cell.{bare_table, cell_of}
use Rattle.meaning.specs.BenchTables.{Computed, number, named, placed_as, placed, not_used, locked, staged, lives, counted, acting, sample, found, holding}
use Rattle.meaning.specs.BenchTables.{entering, exiting, opening, going, going5, going6, topmost, checked}

unfoldable pub sound_rows : List Computed
sound_rows =
    -- sound at each stage
    number 0 (checked sample)
    ∷ number 0 (checked found)
    ∷ number 0 (checked holding)
    ∷ number 0 (checked entering)
    ∷ number 0 (checked exiting)
    ∷ number 0 (checked opening)
    ∷ number 0 (checked going)
    ∷ number 0 (checked going5)
    ∷ number 0 (checked going6)
    -- "the floor is as above": in use, name 0, no parent, not linked
    ∷ number 10 (checked (not_used 0 sample))
    ∷ number 10 (checked (not_used 0 (cell_of bare_table)))
    ∷ number 10 (checked (placed 0 1 0 1 sample))
    ∷ number 10 (checked (placed_as 0 (named 1 0 0 0) 0 1 sample))
    ∷ number 10 (checked (placed 0 0 1 1 sample))
    ∷ number 10 (checked (placed 0 0 0 0 sample))
    ∷ number 0 (checked (placed 0 0 0 2 sample))
    -- "every parent, destination, home and remembered place is in use"
    ∷ number 10 (checked (placed 2 8 9 0 sample))
    ∷ number 10 (checked (placed 1 7 9 1 going))
    ∷ number 10 (checked (lives 2 4 sample))
    ∷ number 10 (checked (staged 0 1 9 0 sample))
    ∷ number 10 (checked (staged 0 7 9 0 sample))
    -- a sleeper may sleep on any place in use
    ∷ number 0 (checked (staged 1 7 3 0 sample))
    -- "names, actions and stages are in range"
    ∷ number 10 (checked (placed 3 0 0 0 sample))
    ∷ number 10 (checked (acting 0 0 5 9 sample))
    ∷ number 10 (checked (acting 2 1 0 9 sample))
    ∷ number 10 (checked (acting 2 1 2 0 sample))
    ∷ number 10 (checked (counted 0 16 17 sample))
    ∷ number 10 (checked (counted 0 2 1 (staged 0 8 0 0 sample)))
    ∷ number 10 (checked (counted 0 1 1 (staged 0 9 0 0 sample)))
    -- a used-up action is not asked
    ∷ number 0 (checked (counted 2 1 2 (acting 2 0 0 0 sample)))
    -- "following parents or destinations leads each place to the floor"
    ∷ number 10 (checked (placed 1 7 2 0 sample))
    ∷ number 10 (checked (placed 3 9 3 0 sample))
    -- "a place on its way has exactly one of its agents at stages 4 to 6, the floor and a linked place none"
    ∷ number 10 (checked (placed 3 9 0 1 sample))
    ∷ number 10 (checked (staged 1 4 0 0 going))
    ∷ number 10 (checked (placed 1 7 3 0 going))
    ∷ number 10 (checked (lives 2 0 (staged 2 4 0 0 sample)))
    -- an agent that is not given does not count
    ∷ number 10 (checked (placed 3 9 0 1 (lives 9 3 (staged 9 4 0 0 sample))))
    ∷ number 10 (checked (locked 1 9 (staged 9 2 1 0 sample)))
    -- "each lock is held just by the agent whose stage says so": by no stage, and by none or another than the stage's
    ∷ number 10 (checked (locked 2 0 sample))
    ∷ number 10 (checked (locked 0 64 holding))
    ∷ number 10 (checked (locked 0 1 holding))
    ∷ number 10 (checked (locked 0 64 entering))
    ∷ number 10 (checked (locked 1 64 entering))
    ∷ number 10 (checked (locked 2 64 exiting))
    ∷ number 10 (checked (locked 2 64 opening))
    ∷ number 10 (checked (locked 1 64 going5))
    ∷ number 10 (checked (locked 1 64 going6))
    ∷ number 10 (checked (locked 3 64 going6))
    -- "an agent at stage 3 has its place, and for enter its chosen place too, linked under the held parent (open: its target)"
    ∷ number 10 (checked (placed 1 7 3 0 entering))
    ∷ number 10 (checked (staged 0 3 0 2 entering))
    ∷ number 10 (checked (placed 2 8 3 0 exiting))
    ∷ number 10 (checked (placed 2 8 3 0 opening))
    -- "an agent at stages 0 to 3 or 7 has an action left, one at 8 has none"
    ∷ number 10 (checked (counted 0 1 1 sample))
    ∷ number 10 (checked (counted 0 1 1 found))
    ∷ number 10 (checked (counted 0 1 1 holding))
    ∷ number 10 (checked (counted 0 1 1 entering))
    ∷ number 10 (checked (counted 0 1 1 (staged 0 7 0 0 sample)))
    ∷ number 10 (checked (staged 0 8 0 0 sample))
    ∷ number 0 (checked (counted 0 1 1 (staged 0 8 0 0 sample)))
    -- "an opener at stages 1 to 3 remembers its home"
    ∷ number 10 (checked (staged 1 1 0 0 sample))
    ∷ number 10 (checked (locked 0 1 (staged 1 2 0 0 sample)))
    ∷ number 10 (checked (locked 0 1 (locked 3 1 (staged 1 3 0 3 sample))))
    -- of agent 63 and place 63 too
    ∷ number 0 (checked topmost)
    ∷ number 10 (checked (staged 63 9 0 0 topmost))
    ∷ number 10 (checked (placed 63 0 0 0 topmost))
    ∷ number 10 (checked (placed 63 7 63 0 topmost))
    ∷ number 10 (checked (locked 63 63 topmost))
    ∷ number 0 (checked (locked 0 63 (staged 63 2 0 0 topmost)))
    ∷ number 0 (checked (placed 63 7 0 1 (staged 63 4 0 0 topmost)))
    -- nothing is asked of what is not in use
    ∷ number 0 (checked (locked 9 200 (placed 9 0 200 3 (staged 9 200 200 200 sample))))
    ∷ []
