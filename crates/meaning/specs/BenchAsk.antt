-- Rows on ask and commit (document 02, W9): what an ask tells at each stage of enter, exit and open, commits that go through and commits that are
-- refused, and the commit of an ask's number.
use Rattle.std.specs.Prelude.{List, [], ◌∷◌, ℕ}
use Rattle.sets.specs.Word.{bit}
use Rattle.table.specs.Cell.{State, cell_of, table_of}
use Rattle.table.specs.declared.Cell.{Cell}
use Rattle.meaning.specs.declared.Word.TheVariants.{Left, Opened, Done}
use Rattle.meaning.specs.Answers.{Would, Unasked}
use Rattle.meaning.specs.Run.{Call, step_call, commit_call, run, answers}
use Rattle.meaning.specs.Ask.{ask_of, commit_of, handed_of}
use Rattle.meaning.specs.Codes.{ask_number, step_number, word_in, woken_in, place_in}
use Rattle.meaning.specs.Plain.{Plain, plain_of, plain_run}
use Rattle.meaning.specs.BenchRow.{file, place, agent, enters}
use Rattle.meaning.specs.BenchTables.{Computed, number, bytes, loaded_from, placed, not_used, locked, staged, counted, acting}
use Rattle.meaning.specs.BenchTables.{sample, found, holding, entering, exiting, opening, going, going5, going6}

-- `3[enter 4] | 4[enter 5] | 4[] | 5[]`: places 1 to 4 stand on the floor, agent 0 lives in 1, agent 1 in 2
unfoldable pub yard : Cell
unfolding file
yard = loaded_from (file (place 1 0 3 ∷ place 2 0 4 ∷ place 3 0 4 ∷ place 4 0 5 ∷ agent 0 1 ∷ enters 0 4 ∷ agent 1 2 ∷ enters 1 5 ∷ []))

-- what an ask, a commit and the commit of a number answer
abbrev asked : Cell → ℕ → ℕ → ℕ
asked t x wish = ask_number (ask_of t x wish)

abbrev asks : State → ℕ → ℕ
asks c x = asked (table_of c) x 255

abbrev commits : Cell → ℕ → ℕ → ℕ → ℕ → ℕ → ℕ
commits t x wish word woken place = step_number (commit_of t x wish word woken place).answer

abbrev handed : Cell → ℕ → ℕ → ℕ
handed t x n = step_number (handed_of t x 255 n).answer

-- of a table: the stages of agents 0 and 1, the holders of the locks of places 0 and 1, where place 1 stands, and its way
abbrev seen : Cell → List ℕ
seen t = ((cell_of t).agent 0).stage ∷ ((cell_of t).agent 1).stage ∷ (cell_of t).lock 0 ∷ (cell_of t).lock 1 ∷
    ((cell_of t).land.place 1).parent ∷ ((cell_of t).land.place 1).way ∷ []

-- of a plain tree: the pick of agent 0, where place 1 stands, and whether it travels
abbrev pick_in : Plain → List ℕ
pick_in t = t.pick 0 ∷ t.tree.parent 1 ∷ bit (t.travels 1) ∷ []

-- the yard after calls, and the plain tree after them
abbrev after : List Call → Cell
after calls = run yard calls

abbrev plainly : List Call → Plain
plainly calls = plain_run (plain_of (cell_of yard)) calls (answers yard calls)

-- agent 0 at stage 2; both agents at stage 1, and then agent 1 at stage 2
abbrev choosing : Cell
choosing = after (step_call 0 255 ∷ step_call 0 255 ∷ [])

abbrev looked : Cell
looked = after (step_call 0 255 ∷ step_call 1 255 ∷ [])

abbrev overtaken : Cell
overtaken = after (step_call 0 255 ∷ step_call 1 255 ∷ step_call 1 255 ∷ [])

-- agent 0 looks, takes the floor, tries a commit for place 2 with the wish 3, commits to place 3 and leaves
abbrev parked : List Call
parked = step_call 0 255 ∷ commit_call 0 255 1 0 255 ∷ commit_call 0 3 1 0 2 ∷ commit_call 0 3 1 0 3 ∷ commit_call 0 255 5 0 3 ∷ []

-- agent 1 at stage 2; agent 2, an opener at stage 2, has the lock of the place that agent 1 is to open; and agent 1 has that of agent 0's place
abbrev to_open : State
to_open = locked 1 1 (staged 1 2 1 0 sample)

abbrev inside : State
inside = locked 2 2 (staged 2 2 2 0 (acting 2 0 3 5 to_open))

abbrev occupied : State
occupied = locked 1 1 (staged 1 2 1 0 holding)

-- agent 1 asleep on the place that leaves; agent 2 asleep in the one that is opened
abbrev waking_one : State
waking_one = staged 1 7 1 0 entering

abbrev opened_one : State
opened_one = staged 2 7 3 0 opening

-- agent 0 asleep; done
abbrev sleeping : State
sleeping = staged 0 7 0 0 sample

abbrev through : State
through = counted 0 1 1 (staged 0 8 0 0 sample)

unfoldable pub ask_rows : List Computed
unfolding file
ask_rows =
    -- an ask's number: the word in bits 8 to 15, the number woken in bits 16 to 23, the place in bits 24 to 31; or the refusal's number
    number 0x033f0500 (ask_number (Would Left 63 3))
    ∷ number 0x3f000700 (ask_number (Would Opened 0 63))
    ∷ number 0xff000a00 (ask_number (Would Done 0 255))
    ∷ number 11 (ask_number (Unasked 11))
    -- enter, stages 0 to 6: "the chosen place (for enter and open at stages 2 and 3 ..), else 255"
    ∷ number 0xff000000 (asks sample 0)
    ∷ number 0xff000100 (asks found 0)
    ∷ number 0x03000100 (asks holding 0)
    ∷ number 0x03000500 (asks entering 0)
    ∷ number 0xff000100 (asks going 0)
    ∷ number 0xff000100 (asks going5 0)
    ∷ number 0xff000600 (asks going6 0)
    -- with held it is told too; "while the action fires": not with slept; "and the word isn't back", at stages 2 and 3
    ∷ number 0x03000200 (asks occupied 0)
    ∷ number 0xff000400 (asks (acting 0 0 1 5 holding) 0)
    ∷ number 0xff000300 (asks (placed 1 7 3 0 holding) 0)
    ∷ number 0xff000300 (asks (placed 3 5 0 0 entering) 0)
    -- the number woken
    ∷ number 0x03010500 (asks waking_one 0)
    -- asleep and done
    ∷ number 0xff000900 (asks sleeping 0)
    ∷ number 0xff000a00 (asks through 0)
    -- exit tells none, at no stage
    ∷ number 0xff000000 (asks sample 2)
    ∷ number 0xff000100 (asks (staged 2 1 1 0 sample) 2)
    ∷ number 0xff000100 (asks (locked 1 2 (staged 2 2 1 0 sample)) 2)
    ∷ number 0xff000200 (asks (staged 2 1 1 0 to_open) 2)
    ∷ number 0xff000500 (asks exiting 2)
    -- open, stages 0 to 3, held, back, and somebody woken
    ∷ number 0xff000000 (asks sample 1)
    ∷ number 0xff000100 (asks (staged 1 1 1 0 sample) 1)
    ∷ number 0x02000100 (asks to_open 1)
    ∷ number 0x02000200 (asks inside 1)
    ∷ number 0xff000400 (asks (acting 1 0 3 5 to_open) 1)
    ∷ number 0x02000700 (asks opening 1)
    ∷ number 0xff000300 (asks (placed 2 5 1 0 opening) 1)
    ∷ number 0x02010700 (asks opened_one 1)
    -- the place that is chosen and not the wish: the one that came first, the wished one if it qualifies, not its own place and not 67
    ∷ number 0x02000100 (asked choosing 0 255)
    ∷ number 0x03000100 (asked choosing 0 3)
    ∷ number 0x02000100 (asked choosing 0 1)
    ∷ number 0x02000100 (asked choosing 0 4)
    ∷ number 0x02000100 (asked choosing 0 67)
    -- 10, then 11
    ∷ number 10 (asks (not_used 0 sample) 0)
    ∷ number 10 (asks (not_used 0 sample) 9)
    ∷ number 11 (asks sample 9)
    -- a commit of what is told goes through, and the place leaves; the choice of another wish is another place
    ∷ number 0x000500 (commits (table_of entering) 0 255 5 0 3)
    ∷ bytes (4 ∷ 0 ∷ 64 ∷ 64 ∷ 3 ∷ 1 ∷ []) (seen (commit_of (table_of entering) 0 255 5 0 3).cell)
    ∷ number 0x010500 (commits (table_of waking_one) 0 255 5 1 3)
    ∷ number 0x010700 (commits (table_of opened_one) 1 255 7 1 2)
    ∷ number 0x000500 (commits (table_of exiting) 2 255 5 0 255)
    ∷ number 0x000100 (commits choosing 0 255 1 0 2)
    ∷ number 0x000100 (commits choosing 0 3 1 0 3)
    ∷ number 3 ((cell_of (commit_of choosing 0 3 1 0 3).cell).agent 0).chosen
    -- "18 if the answer would differ": another place, another number woken, another word, words that do not exist
    ∷ number 18 (commits (table_of entering) 0 255 5 0 2)
    ∷ number 18 (commits (table_of entering) 0 255 5 0 255)
    ∷ number 18 (commits (table_of entering) 0 255 5 1 3)
    ∷ number 18 (commits (table_of waking_one) 0 255 5 0 3)
    ∷ number 18 (commits (table_of entering) 0 255 3 0 3)
    ∷ number 18 (commits (table_of entering) 0 255 8 0 3)
    ∷ number 18 (commits (table_of entering) 0 255 11 0 3)
    ∷ number 18 (commits (table_of exiting) 2 255 5 0 0)
    ∷ number 18 (commits choosing 0 3 1 0 2)
    -- with nothing changed
    ∷ bytes (3 ∷ 0 ∷ 0 ∷ 0 ∷ 0 ∷ 0 ∷ []) (seen (commit_of (table_of entering) 0 255 5 0 2).cell)
    -- a commit of held, asleep or done goes through and changes nothing
    ∷ number 0x000200 (commits (table_of occupied) 0 255 2 0 3)
    ∷ bytes (2 ∷ 2 ∷ 0 ∷ 1 ∷ 0 ∷ 0 ∷ []) (seen (commit_of (table_of occupied) 0 255 2 0 3).cell)
    ∷ number 0x000900 (commits (table_of sleeping) 0 255 9 0 255)
    ∷ number 0x000a00 (commits (table_of through) 0 255 10 0 255)
    -- "after 10 and 11"
    ∷ number 10 (commits (table_of (not_used 0 sample)) 0 255 8 0 0)
    ∷ number 10 (commits (table_of (not_used 0 sample)) 9 255 8 0 0)
    ∷ number 11 (commits (table_of sample) 9 255 8 0 0)
    -- a stale ask: agent 0 would take the floor, and agent 1 takes it first
    ∷ number 0xff000100 (asked looked 0 255)
    ∷ number 0x000100 (commits looked 0 255 1 0 255)
    ∷ number 0xff000200 (asked overtaken 0 255)
    ∷ number 18 (commits overtaken 0 255 1 0 255)
    ∷ bytes (1 ∷ 2 ∷ 1 ∷ 64 ∷ 0 ∷ 0 ∷ []) (seen (commit_of overtaken 0 255 1 0 255).cell)
    -- the very number that an ask gave; another place, another number woken, another word, other bits
    ∷ number 0x000500 (handed (table_of entering) 0 0x03000500)
    ∷ bytes (4 ∷ 0 ∷ 64 ∷ 64 ∷ 3 ∷ 1 ∷ []) (seen (handed_of (table_of entering) 0 255 0x03000500).cell)
    ∷ number 3 ((cell_of (handed_of choosing 0 3 0x03000100).cell).agent 0).chosen
    ∷ number 18 (handed (table_of entering) 0 0x02000500)
    ∷ number 18 (handed (table_of entering) 0 0x03010500)
    ∷ number 18 (handed (table_of entering) 0 0x03000800)
    ∷ number 18 (handed (table_of entering) 0 0x0300050b)
    ∷ number 18 (handed (table_of entering) 0 0x8000000003000500)
    ∷ number 18 (handed (table_of entering) 0 11)
    ∷ number 11 (handed (table_of sample) 9 11)
    ∷ number 10 (handed (table_of (not_used 0 sample)) 9 11)
    -- word, number woken and place in the bits of a number, whatever stands above and below them
    ∷ bytes (255 ∷ 254 ∷ 253 ∷ []) (word_in 0x01fdfeff01 ∷ woken_in 0x01fdfeff01 ∷ place_in 0x01fdfeff01 ∷ [])
    -- "A commit that goes through is a step call": in a list of calls, and beside it the plain tree, which passes over the refused one
    ∷ bytes (4 ∷ 0 ∷ 64 ∷ 64 ∷ 3 ∷ 1 ∷ []) (seen (after parked))
    ∷ bytes (3 ∷ 3 ∷ 1 ∷ []) (pick_in (plainly parked))
    ∷ []
