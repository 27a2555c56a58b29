-- The action records of one agent that follow one another, which the reader takes at once.
use Rattle.std.specs.Prelude.{ℕ, zero, suc, ◌+◌, ◌-◌, true, false, cond, List, ltb, eqb, length}
use Rattle.table.specs.declared.Agent.{Agent}
use Rattle.meaning.specs.declared.Record.{Record}
use Rattle.meaning.specs.declared.Record.TheVariants.{PlaceRecord, AgentRecord, ActionRecord, EndRecord, TouchRecord, Faulty}
use Rattle.meaning.specs.File.{byte_at, name_at, action_record, with_action}
use Rattle.reader.specs.declared.rows.Reached.{Reached}

-- the record that starts at `at`, where it is an action of agent n, which was given and has room; otherwise the row ends
unfoldable pub own_record : List ℕ → ℕ → ℕ → Record
own_record s at n =
    cond (ltb (length s - at) 5) EndRecord
    (cond (eqb (byte_at s at) 3) (cond (eqb (byte_at s (at + 1)) n) (action_record true false n (byte_at s (at + 2)) (name_at s at)) EndRecord) EndRecord)

-- where the record at `at` is an action, the agent gets it, and the rest of the row follows; otherwise the row ends there
unfoldable pub after_record : (ℕ → Agent → Reached) → ℕ → Agent → Record → Reached
after_record rest at a (ActionRecord n kind name) = rest (at + 5) (with_action a kind name)
after_record rest at a (PlaceRecord n p name) = record { agent = a; at = at }
after_record rest at a (AgentRecord n h) = record { agent = a; at = at }
after_record rest at a EndRecord = record { agent = a; at = at }
after_record rest at a (TouchRecord n m) = record { agent = a; at = at }
after_record rest at a (Faulty n) = record { agent = a; at = at }

-- agent n, so far a, with the actions of its own records from `at` on, as many as follow one another and have room
unfoldable pub with_row : ℕ → List ℕ → ℕ → ℕ → Agent → Reached
unfolding after_record own_record
with_row zero s n at a = record { agent = a; at = at }
with_row (suc room) s n at a = after_record (λ next b. with_row room s n next b) at a (own_record s at n)
