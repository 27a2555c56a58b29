-- Rows on the plain tree and the calculus (document 01, "The plain tree"): what a run of calls makes of it, what the calculus permits in a small
-- tree, what its moves make, which answers tell of one, and the listing of a tree.
use Rattle.std.specs.Prelude.{false, List, [], ◌∷◌, map, ℕ, length, drop}
use Rattle.sets.specs.Word.{bit}
use Rattle.table.specs.Base.{tab}
use Rattle.table.specs.Cell.{bare_table, cell_of, table_of, plain_name}
use Rattle.meaning.specs.declared.Word.{Word}
use Rattle.meaning.specs.declared.Word.TheVariants.{Looked, Took, Held, Back, Slept, Left, Came, Opened, Put, Asleep, Done}
use Rattle.meaning.specs.Answers.{Did, Refused, Count}
use Rattle.meaning.specs.Run.{Call, step_call, touch_call, commit_call, agent_of, wish_of, step_reply, touch_reply, answers}
use Rattle.meaning.specs.Calculus.{Tree, with_tree_used, with_tree_names, with_tree_parents, with_tree_homes, with_tree_unused, next_of, stands_at, permits, move}
use Rattle.meaning.specs.Plain.{Plain, tree_of, plain_of, land_in, plain_word, plain_step, plain_run, says_move}
use Rattle.meaning.specs.Text.{ascii}
use Rattle.meaning.specs.TreeListing.{tree_listing}
use Rattle.meaning.specs.BenchRow.{file, place, agent, enters, keyed}
use Rattle.meaning.specs.BenchTables.{Computed, bytes, holds, fails, loaded_from, not_used, lives, counted, acting, sample, topmost}

-- ---- what is read of a tree

-- for places 1, 2 and 3: in use or not, the name, and where it stands
abbrev places_in : Tree → List ℕ
places_in t =
    bit (t.used 1) ∷ (t.name 1).name ∷ t.parent 1 ∷
    bit (t.used 2) ∷ (t.name 2).name ∷ t.parent 2 ∷
    bit (t.used 3) ∷ (t.name 3).name ∷ t.parent 3 ∷ []

-- an agent's home, how many actions it has left, and the kind and name of the next
abbrev agent_in : Tree → ℕ → List ℕ
agent_in t x = t.home x ∷ length (t.unused x) ∷ (next_of t x).kind ∷ (next_of t x).name ∷ []

-- place 2: in use or not, its name, where it stands; and agent 2: its home, and how many actions it has left
abbrev parts_in : Tree → List ℕ
parts_in t = bit (t.used 2) ∷ (t.name 2).name ∷ t.parent 2 ∷ t.home 2 ∷ length (t.unused 2) ∷ []

-- the pick of agent 0, and whether place 1 travels
abbrev pick_in : Plain → List ℕ
pick_in t = t.pick 0 ∷ bit (t.travels 1) ∷ []

-- ---- a run

-- `7[enter 9] | 9[5/5/5/0[]]`: places 1 and 2 stand on the floor, 3 in 2; agent 0 lives in 1. Nobody may open place 3
abbrev magazine : List ℕ
magazine = file (place 1 0 7 ∷ place 2 0 9 ∷ keyed 3 2 5 5 5 0 ∷ agent 0 1 ∷ enters 0 9 ∷ [])

-- the plain tree after calls on the cell of that file
abbrev ran : List Call → Plain
ran calls = plain_run (plain_of (cell_of (loaded_from magazine))) calls (answers (loaded_from magazine) calls)

-- a step call of agent 0 with wish 255
abbrev steps : List Call → List Call
steps more = step_call 0 255 ∷ more

-- after looked, took and took; then left; then took; then took and came
abbrev held : Plain
held = ran (steps (steps (steps [])))

abbrev gone : Plain
gone = ran (steps (steps (steps (steps []))))

abbrev on_its_way : Plain
on_its_way = ran (steps (steps (steps (steps (steps [])))))

abbrev arrived : Plain
arrived = ran (steps (steps (steps (steps (steps (steps (steps [])))))))

-- the plain tree of the sample after calls of agent 1, which opens: looked and took; then took and opened
abbrev opener : List Call → Plain
opener calls = plain_run (plain_of sample) calls (answers (table_of sample) calls)

abbrev picked : Plain
picked = opener (step_call 1 255 ∷ step_call 1 255 ∷ [])

abbrev emptied : Plain
emptied = opener (step_call 1 255 ∷ step_call 1 255 ∷ step_call 1 255 ∷ step_call 1 255 ∷ [])

-- ---- which words tell of a move

-- 1 for each word that does
abbrev told_by : List Word → List ℕ
told_by words = map (λ w. bit (says_move (step_reply (Did w 0)))) words

unfoldable pub plain_rows : List Computed
unfolding file tab
plain_rows =
    -- "It starts as the file says, with nothing travelling and no picks"
    bytes (1 ∷ 7 ∷ 0 ∷ 1 ∷ 9 ∷ 0 ∷ 1 ∷ 5 ∷ 2 ∷ []) (places_in (ran []).tree)
    ∷ bytes (1 ∷ 1 ∷ 1 ∷ 9 ∷ []) (agent_in (ran []).tree 0)
    ∷ bytes (64 ∷ 0 ∷ []) (pick_in (ran []))
    -- as stage 2 reads it: the floor is not linked, any other place is
    ∷ bytes (1 ∷ 0 ∷ []) (((land_in (ran [])).place 0).way ∷ ((land_in (ran [])).place 1).way ∷ [])
    -- "took: the agent's pick becomes the place that stage 2 would choose here"
    ∷ bytes (2 ∷ 0 ∷ []) (pick_in held)
    -- "left: its own place now stands in the pick (enter) .. and travels; the action is used up"
    ∷ bytes (1 ∷ 7 ∷ 2 ∷ 1 ∷ 9 ∷ 0 ∷ 1 ∷ 5 ∷ 2 ∷ []) (places_in gone.tree)
    ∷ bytes (1 ∷ 0 ∷ 0 ∷ 0 ∷ []) (agent_in gone.tree 0)
    ∷ bytes (2 ∷ 1 ∷ []) (pick_in gone)
    -- "if any": a took with no action left makes the pick none, though place 3, now beside its own, has the opening key 0
    ∷ bytes (64 ∷ 1 ∷ []) (pick_in on_its_way)
    ∷ bytes (1 ∷ 7 ∷ 2 ∷ 1 ∷ 9 ∷ 0 ∷ 1 ∷ 5 ∷ 2 ∷ []) (places_in on_its_way.tree)
    -- "came: its own place travels no more", and it is the latest
    ∷ bytes (64 ∷ 0 ∷ []) (pick_in arrived)
    ∷ bytes (63 ∷ 1 ∷ 2 ∷ 3 ∷ []) (drop 60 on_its_way.order)
    ∷ bytes (63 ∷ 2 ∷ 3 ∷ 1 ∷ []) (drop 60 arrived.order)
    -- "(open: its own place)"; "opened: places and agents in the pick go to its own place, the pick's number becomes unused"
    ∷ bytes (2 ∷ 1 ∷ []) (picked.pick 1 ∷ bit (picked.tree.used 2) ∷ [])
    ∷ bytes (1 ∷ 7 ∷ 0 ∷ 0 ∷ 0 ∷ 0 ∷ 1 ∷ 9 ∷ 0 ∷ []) (places_in emptied.tree)
    ∷ bytes (1 ∷ 2 ∷ 2 ∷ 7 ∷ []) (agent_in emptied.tree 2)
    -- "Any other word, or a refusal: nothing", the pick least of all; "touch calls .., which the plain tree passes over", name no agent and no wish
    ∷ bytes (2 ∷ 1 ∷ []) (pick_in (plain_word gone 0 255 Looked))
    ∷ bytes (2 ∷ 1 ∷ []) (pick_in (plain_word gone 0 255 Held))
    ∷ bytes (2 ∷ 1 ∷ []) (pick_in (plain_word gone 0 255 Back))
    ∷ bytes (2 ∷ 1 ∷ []) (pick_in (plain_word gone 0 255 Slept))
    ∷ bytes (2 ∷ 1 ∷ []) (pick_in (plain_word gone 0 255 Asleep))
    ∷ bytes (2 ∷ 1 ∷ []) (pick_in (plain_word gone 0 255 Done))
    ∷ bytes (2 ∷ 1 ∷ []) (pick_in (plain_step gone (step_call 0 255) (step_reply (Refused 11))))
    ∷ bytes (2 ∷ 1 ∷ []) (pick_in (plain_step gone (touch_call 0 5) (touch_reply (Count 5))))
    ∷ bytes (64 ∷ 64 ∷ []) (agent_of (touch_call 0 5) ∷ wish_of (touch_call 0 5) ∷ [])
    ∷ bytes (1 ∷ 2 ∷ []) (agent_of (commit_call 1 2 3 4 5) ∷ wish_of (commit_call 1 2 3 4 5) ∷ [])
    -- a call without an answer: nothing
    ∷ bytes (2 ∷ 1 ∷ []) (pick_in (plain_run gone (steps []) []))
    -- what is not in use has no name and stands at 0, and an agent that is not given is at 0 without actions, whatever the table has there
    ∷ bytes (1 ∷ 7 ∷ 0 ∷ 0 ∷ 0 ∷ 0 ∷ 1 ∷ 9 ∷ 0 ∷ []) (places_in (tree_of (not_used 2 sample)))
    ∷ bytes (0 ∷ 0 ∷ 0 ∷ 0 ∷ []) (agent_in (tree_of (lives 9 3 (counted 9 0 1 (acting 9 0 1 5 sample)))) 9)
    -- "enter n if another place named n stands beside the agent's own": 9, not its own place and not the 8 inside it
    ∷ holds (permits (tree_of sample) 0 3)
    ∷ fails (permits (tree_of sample) 0 1)
    ∷ fails (permits (tree_of sample) 0 2)
    ∷ fails (permits (tree_of (acting 0 0 1 7 sample)) 0 1)
    -- "exit n if its own stands in a place named n": 7, not the floor
    ∷ holds (permits (tree_of sample) 2 1)
    ∷ fails (permits (tree_of sample) 2 0)
    -- "open n if a place named n stands in its own": 8, not the 9 beside it
    ∷ holds (permits (tree_of sample) 1 2)
    ∷ fails (permits (tree_of sample) 1 3)
    -- the floor stands in none
    ∷ fails (stands_at (tree_of sample) 0 0)
    -- with no action left, nothing
    ∷ fails (permits gone.tree 0 3)
    ∷ fails (permits gone.tree 0 4)
    -- `7[enter 9 | open 8 | 8[exit 7.exit 7]] | 9[]` after agent 0 entered 9
    ∷ bytes (1 ∷ 7 ∷ 3 ∷ 1 ∷ 8 ∷ 1 ∷ 1 ∷ 9 ∷ 0 ∷ []) (places_in (move (tree_of sample) 0 3))
    ∷ bytes (1 ∷ 0 ∷ 0 ∷ 0 ∷ []) (agent_in (move (tree_of sample) 0 3) 0)
    -- after agent 2 left 7: it has one action more
    ∷ bytes (1 ∷ 7 ∷ 0 ∷ 1 ∷ 8 ∷ 0 ∷ 1 ∷ 9 ∷ 0 ∷ []) (places_in (move (tree_of sample) 2 1))
    ∷ bytes (2 ∷ 1 ∷ 2 ∷ 7 ∷ []) (agent_in (move (tree_of sample) 2 1) 2)
    -- after agent 1 opened 8: the number 2 is not in use, and agent 2 lives in 7
    ∷ bytes (1 ∷ 7 ∷ 0 ∷ 0 ∷ 0 ∷ 0 ∷ 1 ∷ 9 ∷ 0 ∷ []) (places_in (move (tree_of sample) 1 2))
    ∷ bytes (1 ∷ 2 ∷ 2 ∷ 7 ∷ []) (agent_in (move (tree_of sample) 1 2) 2)
    -- one part of a tree written anew, and the others as they were
    ∷ bytes (1 ∷ 8 ∷ 1 ∷ 2 ∷ 2 ∷ []) (parts_in (tree_of sample))
    ∷ bytes (0 ∷ 8 ∷ 1 ∷ 2 ∷ 2 ∷ []) (parts_in (with_tree_used (tree_of sample) (λ q. false)))
    ∷ bytes (1 ∷ 5 ∷ 1 ∷ 2 ∷ 2 ∷ []) (parts_in (with_tree_names (tree_of sample) (λ q. plain_name 5)))
    ∷ bytes (1 ∷ 8 ∷ 3 ∷ 2 ∷ 2 ∷ []) (parts_in (with_tree_parents (tree_of sample) (λ q. 3)))
    ∷ bytes (1 ∷ 8 ∷ 1 ∷ 3 ∷ 2 ∷ []) (parts_in (with_tree_homes (tree_of sample) (λ x. 3)))
    ∷ bytes (1 ∷ 8 ∷ 1 ∷ 2 ∷ 0 ∷ []) (parts_in (with_tree_unused (tree_of sample) (λ x. [])))
    -- "one calculus move for each call answered left or opened", and put: of the words looked to done; not a refusal, not a touch call
    ∷ bytes (0 ∷ 0 ∷ 0 ∷ 0 ∷ 0 ∷ 1 ∷ 0 ∷ 1 ∷ 1 ∷ 0 ∷ 0 ∷ []) (told_by (Looked ∷ Took ∷ Held ∷ Back ∷ Slept ∷ Left ∷ Came ∷ Opened ∷ Put ∷ Asleep ∷ Done ∷ []))
    ∷ fails (says_move (step_reply (Refused 11)))
    ∷ fails (says_move (touch_reply (Count 5)))
    -- the listing of a tree: agents with actions, then places; an empty floor; the highest numbers
    ∷ bytes (ascii "7[enter 9 | open 8 | 8[exit 7.exit 7]] | 9[]") (tree_listing (tree_of sample))
    ∷ bytes (ascii "7[open 8 | 8[exit 7.exit 7]] | 9[]") (tree_listing (tree_of (counted 0 1 1 sample)))
    ∷ bytes (ascii "0") (tree_listing (tree_of (cell_of bare_table)))
    ∷ bytes (ascii "7[exit 9]") (tree_listing (tree_of topmost))
    ∷ []
