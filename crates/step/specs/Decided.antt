-- What a call does to a cell: the decision, of what was seen of the cell, and what it makes of a table.
use Rattle.std.specs.Prelude.{ℕ, ◌%◌, Bool, ◌&&◌, cond, ltb, eqb, get_or, set, Option, Some, None}
use Rattle.sets.specs.Set.{member}
use Rattle.table.specs.Cell.{none, no_agent, cell_of, land_of, kind_of, chooses, put_locks, put_agents, holding_both}
use Rattle.table.specs.declared.Agent.{Agent}
use Rattle.table.specs.declared.Cell.{Cell}
use Rattle.soundness.specs.declared.sound.Seen.{Seen}
use Rattle.meaning.specs.declared.Word.{Word}
use Rattle.meaning.specs.declared.Word.TheVariants.{Took, Held, Left, Came, Opened}
use Rattle.meaning.specs.declared.Word.TheVariants as words
use Rattle.meaning.specs.Answers.{Answer, Did, Refused}
use Rattle.meaning.specs.declared.Stepped.{Stepped}
use Rattle.meaning.specs.Refusals.{unsound_table, no_such_agent}
use Rattle.meaning.specs.Update.{at_stage}
use Rattle.meaning.specs.Run.{made}
use Rattle.meaning.specs.Ask.{none_told}
use Rattle.moves.specs.Motions.{shifted}
use Rattle.moves.specs.declared.Motion.{Motion}
use Rattle.moves.specs.declared.Motion.TheVariants.{Leave, Arrive, Dissolve, Put}
use Rattle.stages.specs.Changes.{change_at}
use Rattle.stages.specs.declared.Change.{Change}
use Rattle.stages.specs.declared.Change.TheVariants.{Still, Turn, Take, Release, Move}
use Rattle.step.specs.declared.Decision.{Decision}

-- ---- decisions

-- the chosen place of agent a as an ask tells it; exit and release have none
abbrev pub told_by : Agent → ℕ → ℕ
told_by a chosen = cond (chooses (kind_of a)) chosen none_told

-- no place moves: the agent's stage, remembered and chosen place, the lock of two places, the answer and the place that an ask tells
abbrev pub becoming : ℕ → ℕ → ℕ → ℕ → ℕ → ℕ → Answer → ℕ → Decision
becoming stage remembered choice first second lock answer q =
    record { motion = None; stage = stage; remembered = remembered; choice = choice; first = first; second = second; lock = lock; answer = answer; chosen = q }

-- nothing changes
abbrev pub staying : Agent → Answer → ℕ → Decision
staying a answer q = becoming a.stage a.remembered a.chosen none none none answer q

-- the call is no step, since its agent is not given or the table is not sound
abbrev pub refusing : Bool → Agent → Decision
refusing sound a = cond sound (staying a (Refused no_such_agent) none_told) (staying a (Refused unsound_table) none_told)

-- the word that a motion answers
abbrev pub motion_word : Motion → Word
motion_word (Leave d) = Left
motion_word (Arrive d) = Came
motion_word Dissolve = Opened
motion_word (Put q) = words.Put

-- the chosen place, of which the agent is about to lock the second lock, or which it enters or opens; exit has none, whatever is said here, and release none
abbrev pub locked_choice : ℕ → ℕ → ℕ
locked_choice stage chosen = cond (eqb stage holding_both) chosen none_told

abbrev pub motion_choice : Motion → Agent → ℕ
motion_choice (Leave d) a = a.chosen
motion_choice (Arrive d) a = none_told
motion_choice Dissolve a = a.chosen
motion_choice (Put q) a = none_told

-- a place moves, and the agent and the locks are as they were; how many agents it wakes is known when it is carried out
abbrev pub going : Motion → Agent → Decision
going m a =
    record { motion = Some m; stage = a.stage; remembered = a.remembered; choice = a.chosen; first = none; second = none; lock = none; answer = Did (motion_word m) 0; chosen = told_by a (motion_choice m a) }

-- the place whose lock a change asks for
abbrev pub wanted_by : Change → ℕ
wanted_by (Still w) = none
wanted_by (Turn stage remembered w) = none
wanted_by (Take q stage remembered chosen) = q
wanted_by (Release p q stage remembered w) = none
wanted_by (Move m) = none

-- what a change of agent x makes of the agent, which is a, and of the locks, of which the one that is read at the place it asks for is this
abbrev pub settling : Change → ℕ → Agent → ℕ → Decision
settling (Still w) x a lock = staying a (Did w 0) none_told
settling (Turn stage remembered w) x a lock = becoming stage remembered 0 none none none (Did w 0) none_told
settling (Take q stage remembered chosen) x a lock =
    cond (ltb q 64 && eqb lock none)
    (becoming stage remembered chosen q none x (Did Took 0) (told_by a (locked_choice stage chosen)))
    (staying a (Did Held 0) (told_by a (locked_choice stage chosen)))
settling (Release p q stage remembered w) x a lock = becoming stage remembered 0 p q none (Did w 0) none_told
settling (Move m) x a lock = going m a

-- what the step of agent a changes in a table
abbrev pub change_in : Cell → Agent → ℕ → Change
change_in t a wish = change_at a.stage (land_of t.places t.used t.order) a wish

-- what a change of agent x, which is a, makes of it and of the locks of a table; past 63 places are numbered from 0 again
abbrev pub settling_in : Cell → ℕ → Agent → Change → Decision
settling_in t x a k = settling k x a (get_or t.locks (wanted_by k % 64) 0)

-- what a call does to a table of which this was seen: refusal 10, then 11, then the change of the agent's stage
unfoldable pub decided : Seen → Cell → ℕ → ℕ → Decision
decided s t x wish = cond (s.sound && member t.given x) (settling_in t x s.agent (change_in t s.agent wish)) (refusing s.sound s.agent)

-- ---- carried out

-- agent x of a table; past 63 agents are numbered from 0 again
abbrev pub agent_at : Cell → ℕ → Agent
agent_at t x = get_or t.agents (x % 64) no_agent

-- the table with the stage and the places of agent x that were decided
abbrev pub staged_at : Cell → ℕ → Decision → Cell
staged_at t x d = put_agents t (set t.agents (x % 64) (at_stage (agent_at t x) d.stage d.remembered d.choice))

-- the table with the lock of place q; past 63 there is none
abbrev pub locked_at : Cell → ℕ → ℕ → Cell
locked_at t q lock = put_locks t (set t.locks q lock)

-- the table with what was decided for agent x where no place moves
abbrev pub settled : Cell → ℕ → Decision → Cell
settled t x d = locked_at (locked_at (staged_at t x d) d.first d.lock) d.second d.lock

-- what a decision for agent x makes of a table
abbrev pub carried_by : Cell → ℕ → Decision → Option Motion → Stepped
carried_by t x d (Some m) = made (shifted (cell_of t) x (agent_at t x) m)
carried_by t x d None = record { cell = settled t x d; answer = d.answer }

unfoldable pub carried_out : Cell → ℕ → Decision → Stepped
carried_out t x d = carried_by t x d d.motion
