-- Rows on what no file gives and soundness rules out: the definitions answer there too, and these are the answers.
use Rattle.std.specs.Prelude.{true, List, [], ◌∷◌, ℕ, length}
use Rattle.table.specs.Base.{tab}
use Rattle.table.specs.Cell.{State, plain_name, no_action, bare_table, fresh_agent, table_of, linked, enter_kind, exit_kind, unused, has_unused}
use Rattle.table.specs.Cell.{put_places, put_locks, put_agents, put_used, put_given, put_touches, put_order}
use Rattle.table.specs.declared.Place.{Place}
use Rattle.table.specs.declared.Agent.{Agent}
use Rattle.table.specs.declared.Cell.{Cell}
use Rattle.table.specs.Sound.{stands_in, lock_is}
use Rattle.meaning.specs.Update.{linked_place, with_parent, with_way, with_home, with_stage, with_remembered, with_chosen, with_next, with_count, with_actions, use_up}
use Rattle.meaning.specs.Update.{with_places, with_used, with_order}
use Rattle.meaning.specs.File.{byte_at, bare_progress, load_from, loaded}
use Rattle.meaning.specs.Step.{qualifies, choose, dissolve_lock}
use Rattle.meaning.specs.StepCall.{step_of}
use Rattle.meaning.specs.Touch.{touch_of}
use Rattle.meaning.specs.Calculus.{permits}
use Rattle.meaning.specs.Text.{ascii, decimal}
use Rattle.meaning.specs.Plain.{tree_of}
use Rattle.meaning.specs.Listing.{lists_in, contents_text}
use Rattle.meaning.specs.TreeListing.{acts_in, tree_contents}
use Rattle.meaning.specs.Where.{outwards, common}
use Rattle.meaning.specs.Codes.{load_number}
use Rattle.meaning.specs.BenchRow.{hex}
use Rattle.meaning.specs.BenchTables.{Computed, number, bytes, holds, fails, locked, staged, lives, counted, acting, sample}

-- agent 2, which lives in place 2, at stage 2
abbrev waiting : State
waiting = staged 2 2 1 0 sample

-- of a table: how many places, locks and agents, which places are in use and which agents given, how many counts of touches, how long the row is
abbrev sizes : Cell → List ℕ
sizes t = length t.places ∷ length t.locks ∷ length t.agents ∷ t.used.bits ∷ t.given.bits ∷ length t.touches ∷ length t.order ∷ []

-- an agent with another number in each field, and the numbers in an agent's fields
abbrev someone : Agent
someone = record { home = 1; stage = 2; remembered = 3; chosen = 4; next = 5; count = 6; actions = [] }

abbrev fields_of : Agent → List ℕ
fields_of a = a.home ∷ a.stage ∷ a.remembered ∷ a.chosen ∷ a.next ∷ a.count ∷ length a.actions ∷ []

-- a place's name, parent and way
abbrev place_in : Place → List ℕ
place_in x = x.name.name ∷ x.parent ∷ x.way ∷ []

unfoldable pub unsound_rows : List Computed
unfolding tab
unsound_rows =
    -- a place that is not in use, whatever the table has there: not linked, standing in none, its lock nobody's
    fails (linked sample.land 9)
    ∷ number 64 (stands_in sample.land 9)
    ∷ fails (lock_is (locked 9 0 sample) 0 9)
    -- past 63 no wish qualifies, whatever stands there
    ∷ number 64 (choose (with_order (with_used (with_places sample.land (λ q. linked_place (plain_name 5) 0)) (λ q. true)) []) enter_kind 5 1 0 70)
    -- the floor does not leave itself, whatever name is asked for
    ∷ fails (permits (tree_of (lives 2 0 (acting 2 0 exit_kind 0 sample))) 2 0)
    -- an exit fires on p and on no other place
    ∷ holds (qualifies sample.land exit_kind 7 2 1 1)
    ∷ fails (qualifies sample.land exit_kind 7 2 1 3)
    -- "a row of sixteen actions at most": of seventeen counted, sixteen are unused; from the seventeenth on there are none
    ∷ number 16 (length (unused ((counted 0 0 17 sample).agent 0)))
    ∷ fails (has_unused ((counted 0 16 17 sample).agent 0))
    -- an agent without unused actions has no text, not even an empty one
    ∷ fails (lists_in true fresh_agent 0)
    ∷ fails (acts_in (tree_of sample) 9 0)
    -- where no action is left there is nothing to use up
    ∷ number 0 (use_up fresh_agent).next
    -- "a lock that one of them held at stage 2": of an agent that is not given, and of a number that is not in use, it stays
    ∷ number 64 (dissolve_lock (locked 1 2 waiting) 2 1)
    ∷ number 9 (dissolve_lock (locked 1 9 (lives 9 2 (staged 9 2 1 0 sample))) 2 1)
    ∷ number 2 (dissolve_lock (locked 9 2 waiting) 2 9)
    -- one field of an agent or a place written anew, and the others as they were
    ∷ bytes (9 ∷ 2 ∷ 3 ∷ 4 ∷ 5 ∷ 6 ∷ 0 ∷ []) (fields_of (with_home someone 9))
    ∷ bytes (1 ∷ 9 ∷ 3 ∷ 4 ∷ 5 ∷ 6 ∷ 0 ∷ []) (fields_of (with_stage someone 9))
    ∷ bytes (1 ∷ 2 ∷ 9 ∷ 4 ∷ 5 ∷ 6 ∷ 0 ∷ []) (fields_of (with_remembered someone 9))
    ∷ bytes (1 ∷ 2 ∷ 3 ∷ 9 ∷ 5 ∷ 6 ∷ 0 ∷ []) (fields_of (with_chosen someone 9))
    ∷ bytes (1 ∷ 2 ∷ 3 ∷ 4 ∷ 9 ∷ 6 ∷ 0 ∷ []) (fields_of (with_next someone 9))
    ∷ bytes (1 ∷ 2 ∷ 3 ∷ 4 ∷ 5 ∷ 9 ∷ 0 ∷ []) (fields_of (with_count someone 9))
    ∷ bytes (1 ∷ 2 ∷ 3 ∷ 4 ∷ 5 ∷ 6 ∷ 1 ∷ []) (fields_of (with_actions someone (no_action ∷ [])))
    ∷ bytes (7 ∷ 3 ∷ 1 ∷ []) (place_in (with_parent (with_way (linked_place (plain_name 7) 2) 1) 3))
    ∷ bytes (7 ∷ 2 ∷ 1 ∷ []) (place_in (with_way (linked_place (plain_name 7) 2) 1))
    -- one array or set of a table written anew, and the others as they were
    ∷ bytes (64 ∷ 64 ∷ 64 ∷ 15 ∷ 7 ∷ 64 ∷ 64 ∷ []) (sizes (table_of sample))
    ∷ bytes (0 ∷ 64 ∷ 64 ∷ 15 ∷ 7 ∷ 64 ∷ 64 ∷ []) (sizes (put_places (table_of sample) []))
    ∷ bytes (64 ∷ 0 ∷ 64 ∷ 15 ∷ 7 ∷ 64 ∷ 64 ∷ []) (sizes (put_locks (table_of sample) []))
    ∷ bytes (64 ∷ 64 ∷ 0 ∷ 15 ∷ 7 ∷ 64 ∷ 64 ∷ []) (sizes (put_agents (table_of sample) []))
    ∷ bytes (64 ∷ 64 ∷ 64 ∷ 5 ∷ 7 ∷ 64 ∷ 64 ∷ []) (sizes (put_used (table_of sample) (record { bits = 5 })))
    ∷ bytes (64 ∷ 64 ∷ 64 ∷ 15 ∷ 5 ∷ 64 ∷ 64 ∷ []) (sizes (put_given (table_of sample) (record { bits = 5 })))
    ∷ bytes (64 ∷ 64 ∷ 64 ∷ 15 ∷ 7 ∷ 0 ∷ 64 ∷ []) (sizes (put_touches (table_of sample) []))
    ∷ bytes (64 ∷ 64 ∷ 64 ∷ 15 ∷ 7 ∷ 64 ∷ 0 ∷ []) (sizes (put_order (table_of sample) []))
    -- "a refusal changes nothing", not even a table whose locks are missing
    ∷ number 0 (length (step_of (put_locks bare_table []) 0 255).cell.locks)
    ∷ number 0 (length (touch_of (put_locks bare_table []) 0 5).cell.locks)
    -- twenty digits hold every number of 64 bits
    ∷ bytes (ascii "18446744073709551615") (decimal 18446744073709551615)
    -- past the end of a file 0 is read
    ∷ number 0 (byte_at (hex "04") 1)
    -- a file for which the turns run out is cut short at its length
    ∷ number 0x0101 (load_number (loaded bare_table (load_from 0 bare_progress (hex "04") 0)).verdict)
    -- so many levels deep, none: no contents, of a cell and of a tree
    ∷ number 0 (length (contents_text 0 sample 0))
    ∷ number 0 (length (tree_contents 0 (tree_of sample) 0))
    -- outwards from 5, where no place is left to look at: none; a number past 63 holds nothing
    ∷ number 64 (outwards 0 (λ q. 0) (λ q. true) 5)
    ∷ number 0 (common (λ q. 0) 64 5)
    ∷ []
