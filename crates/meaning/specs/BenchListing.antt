-- Rows on the listing and on what `walk` writes (document 01, "The listing").
use Rattle.std.specs.Prelude.{List, [], ◌∷◌}
use Rattle.meaning.specs.BenchRow.{Row, row, hex, agents, file, place, agent, enters, exits, opens, keyed}

unfoldable pub listing_rows : List Row
listing_rows =
    -- "the agents with unused actions .., then places .., joined by ` | `"; "its unused actions, such as `enter 9.exit 9`"
    row (file (place 5 0 1234 ∷ place 4 0 20 ∷ place 6 4 3 ∷ agent 10 4 ∷ enters 10 9 ∷ exits 10 9 ∷ agent 7 4 ∷ opens 7 65535 ∷ agent 9 4 ∷ []))
    []
    ("start 1234[] | 20[enter 9.exit 9 | open 65535 | 3[]]" ∷ "end 1234[] | 20[enter 9.exit 9 | open 65535 | 3[]]" ∷ [])
    -- "agents come first, then places, each group in byte order of its own text" (document 02, W7): `open 10` before `open 9`, `70[]` before
    -- `7[]`, for a digit is below the bracket, and a place with keys before one without, for the slash is
    ∷ row (file (place 1 0 7 ∷ place 2 0 70 ∷ keyed 3 0 7 1 1 1 ∷ agent 0 0 ∷ opens 0 9 ∷ agent 1 0 ∷ opens 1 10 ∷ agent 2 0 ∷ enters 2 9 ∷ [])) []
    ("start enter 9 | open 10 | open 9 | 7/1/1/1[] | 70[] | 7[]" ∷ "end enter 9 | open 10 | open 9 | 7/1/1/1[] | 70[] | 7[]" ∷ [])
    -- "a shorter text before any that continues it"
    ∷ row (file (agent 0 0 ∷ opens 0 1 ∷ exits 0 2 ∷ agent 1 0 ∷ opens 1 12 ∷ agent 2 0 ∷ opens 2 1 ∷ [])) []
    ("start open 1 | open 1.exit 2 | open 12" ∷ "end open 1 | open 1.exit 2 | open 12" ∷ [])
    -- places of one name, by their contents: `]` is below `e`
    ∷ row (file (place 1 0 7 ∷ agent 0 1 ∷ enters 0 7 ∷ place 2 0 7 ∷ [])) []
    ("start 7[] | 7[enter 7]" ∷ "end 7[] | 7[enter 7]" ∷ [])
    -- "Two hosts numbered the same carriers differently": one listing
    ∷ row (file (place 1 0 9 ∷ place 2 1 8 ∷ place 3 1 7 ∷ place 4 3 5 ∷ agent 0 2 ∷ exits 0 9 ∷ agent 1 3 ∷ exits 1 9 ∷ [])) []
    ("start 9[7[exit 9 | 5[]] | 8[exit 9]]" ∷ "end 9[7[exit 9 | 5[]] | 8[exit 9]]" ∷ [])
    ∷ row (file (place 9 0 9 ∷ place 3 9 7 ∷ place 2 3 5 ∷ place 1 9 8 ∷ agent 7 3 ∷ exits 7 9 ∷ agent 5 1 ∷ exits 5 9 ∷ [])) []
    ("start 9[7[exit 9 | 5[]] | 8[exit 9]]" ∷ "end 9[7[exit 9 | 5[]] | 8[exit 9]]" ∷ [])
    -- nine levels
    ∷ row (file (place 1 0 1 ∷ place 2 1 2 ∷ place 3 2 3 ∷ place 4 3 4 ∷ place 5 4 5 ∷ place 6 5 6 ∷ place 7 6 7 ∷ place 8 7 8 ∷ place 9 8 9 ∷
    agent 0 9 ∷ exits 0 9 ∷ [])) []
    ("start 1[2[3[4[5[6[7[8[9[exit 9]]]]]]]]]" ∷ "end 1[2[3[4[5[6[7[8[9[exit 9]]]]]]]]]" ∷ [])
    -- "An empty floor is `0`": an agent without actions is not listed, and is done
    ∷ row (file (agent 12 0 ∷ [])) (hex "0c ff")
    ("start 0" ∷ "12 done 0" ∷ "end 0" ∷ [])
    -- "A place on its way stands in its destination"
    ∷ row (file (place 1 0 7 ∷ place 2 0 9 ∷ agent 0 1 ∷ enters 0 9 ∷ exits 0 9 ∷ [])) (agents "0 0 0 0")
    ("start 7[enter 9.exit 9] | 9[]" ∷ "0 looked 0" ∷ "0 took 0" ∷ "0 took 0" ∷ "0 left 0" ∷ "end 9[7[exit 9]]" ∷ [])
    -- "11 no such agent": "a refused step gives agent, `refused`, number", and the next call is made; "An odd last byte" is passed over
    ∷ row (file (agent 0 0 ∷ enters 0 7 ∷ [])) (hex "01 ff 40 ff ff ff 00 ff 00")
    ("start enter 7" ∷ "1 refused 11" ∷ "64 refused 11" ∷ "255 refused 11" ∷ "0 slept 0" ∷ "end enter 7" ∷ [])
    ∷ []
