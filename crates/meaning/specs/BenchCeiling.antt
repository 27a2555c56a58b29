-- Rows on the ceiling (document 02, W12): of loaded cells, of tables with agents on their way or done, and the refusal.
use Rattle.std.specs.Prelude.{List, [], ◌∷◌, ◌++◌, ℕ}
use Rattle.table.specs.Base.{tab}
use Rattle.table.specs.Cell.{bare_table, table_of}
use Rattle.table.specs.declared.Cell.{Cell}
use Rattle.meaning.specs.Answers.{AtMost, Uncounted}
use Rattle.meaning.specs.Run.{step_call, run}
use Rattle.meaning.specs.Codes.{limit_number}
use Rattle.meaning.specs.Limit.{ceiling_of}
use Rattle.meaning.specs.BenchRow.{hex, file, many_opens, place, agent, enters, exits, releases}
use Rattle.meaning.specs.BenchTables.{Computed, number, loaded_from, not_used, counted, sample, holding, entering, going, going5, going6, topmost}

-- the worked example of `walk`: `7[enter 9] | 9[exit 7]`
unfoldable pub worked : Cell
unfolding file
worked = loaded_from (file (place 1 0 7 ∷ place 2 0 9 ∷ agent 0 1 ∷ enters 0 9 ∷ agent 1 2 ∷ exits 1 7 ∷ []))

-- `release 9`
unfoldable pub lone : Cell
unfolding file
lone = loaded_from (file (agent 0 0 ∷ releases 0 9 ∷ []))

-- so many steps of agent 0 with wish 255
abbrev after : ℕ → Cell → Cell
after n t = run t (tab (λ i. step_call 0 255) n 0)

-- what the call answers
abbrev told : Cell → ℕ
told t = limit_number (ceiling_of t)

unfoldable pub ceiling_rows : List Computed
unfolding tab file
ceiling_rows =
    -- as a number: from bit 8 on, or the refusal's number
    number 0x3600 (limit_number (AtMost 54))
    ∷ number 0xa598000 (limit_number (AtMost 678272))
    ∷ number 10 (limit_number (Uncounted 10))
    -- "5 × G × (2 × A + 1) + 2 × A": G and A are 2 and 2, 3 and 4, 1 and 1, 1 and 0, 0 and 0
    ∷ number 0x3600 (told worked)
    ∷ number 0x8f00 (told (table_of sample))
    ∷ number 0x1100 (told lone)
    ∷ number 0x0500 (told (loaded_from (file (agent 0 0 ∷ []))))
    ∷ number 0 (told bare_table)
    -- sixteen actions, the most: G and A are 1 and 16
    ∷ number 0xc500 (told (loaded_from (agent 0 0 ++ many_opens 16 (hex "04"))))
    -- agent 63 counts; an agent that is not given does not, whatever actions the table has there
    ∷ number 0x1100 (told (table_of topmost))
    ∷ number 0x8f00 (told (table_of (counted 9 0 4 sample)))
    -- locks and stages 0 to 3 play no part
    ∷ number 0x8f00 (told (table_of holding))
    ∷ number 0x8f00 (told (table_of entering))
    -- at stages 4 to 6 the action is used up, and the agent has still to come
    ∷ number 0x7f00 (told (table_of going))
    ∷ number 0x7f00 (told (table_of going5))
    ∷ number 0x7f00 (told (table_of going6))
    -- left, came and put
    ∷ number 0x3600 (told (after 3 worked))
    ∷ number 0x2b00 (told (after 4 worked))
    ∷ number 0x2000 (told (after 7 worked))
    ∷ number 0x1100 (told (after 2 lone))
    ∷ number 0x0500 (told (after 3 lone))
    -- the floor is not in use: 10
    ∷ number 10 (told (table_of (not_used 0 sample)))
    ∷ []
