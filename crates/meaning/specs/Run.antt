-- Any call that may change a cell, a step, a commit or a touch, and a run of calls of any kind one after the other.
use Rattle.std.specs.Prelude.{ℕ, Bool, true, false, not, ◌&&◌, cond, List, [], ◌∷◌, eqb, Ok, Err}
use Rattle.table.specs.Cell.{State, none, travels}
use Rattle.table.specs.Base.{all_below}
use Rattle.table.specs.declared.Cell.{Cell}
use Rattle.meaning.specs.declared.Word.{Word}
use Rattle.meaning.specs.declared.Word.TheVariants.{Looked, Took, Held, Back, Slept, Left, Came, Opened, Put, Asleep, Done}
use Rattle.meaning.specs.Answers.{Answer, Touching}
use Rattle.meaning.specs.declared.Stepped.{Stepped}
use Rattle.meaning.specs.declared.Touched.{Touched}
use Rattle.meaning.specs.Ask.{commit_of}
use Rattle.meaning.specs.Touch.{touch_of}
-- the step call, handed on
unfoldable pub use Rattle.meaning.specs.StepCall.{made, turned_away, step_of}

-- ---- any call that may change a cell

-- a step call: "A call names an agent and a wish, a byte"; a touch call "adds a four-byte number to a place" (document 02, W3); "Commit takes
-- agent, wish and these three", the word by its number, the number woken and the place (W9)
pub data Call : Type 0 where
  step_call : ℕ → ℕ → Call
  touch_call : ℕ → ℕ → Call
  commit_call : ℕ → ℕ → ℕ → ℕ → ℕ → Call

-- the agent that a call names, none where it names none, and the wish
abbrev pub agent_of : Call → ℕ
agent_of (step_call agent wish) = agent
agent_of (touch_call place number) = none
agent_of (commit_call agent wish word woken place) = agent

abbrev pub wish_of : Call → ℕ
wish_of (step_call agent wish) = wish
wish_of (touch_call place number) = none
wish_of (commit_call agent wish word woken place) = wish

-- what a call answers
pub data Reply : Type 0 where
  step_reply : Answer → Reply
  touch_reply : Touching → Reply

-- the table after a call, and its reply
pub record Called : Type 0 where
  pub cell : Cell
  pub reply : Reply

-- a step call's or a touch call's result as that of any call; a commit's is a step's: "A commit that goes through is a step call for every
-- statement about cells" (document 02, W9)
abbrev pub by_step : Stepped → Called
by_step s = record { cell = s.cell; reply = step_reply s.answer }

abbrev pub by_touch : Touched → Called
by_touch s = record { cell = s.cell; reply = touch_reply s.answer }

-- a call on a table
unfoldable pub call_of : Cell → Call → Called
call_of t (step_call agent wish) = by_step (step_of t agent wish)
call_of t (touch_call place number) = by_touch (touch_of t place number)
call_of t (commit_call agent wish word woken place) = by_step (commit_of t agent wish word woken place)

-- ---- a run

-- "each call gets the cell as the one before left it": the table after a list of calls
unfoldable pub run : Cell → List Call → Cell
unfolding call_of
run t [] = t
run t (k ∷ calls) = run (call_of t k).cell calls

-- the reply to each of the calls
unfoldable pub answers : Cell → List Call → List Reply
unfolding call_of
answers t [] = []
answers t (k ∷ calls) = (call_of t k).reply ∷ answers (call_of t k).cell calls

-- ---- what can be said of a cell

-- "A cell is settled when no lock is held and nothing is on its way"
unfoldable pub settled : State → Bool
settled c = all_below (λ q. cond (c.land.used q) (eqb (c.lock q) none && not (travels c.land q)) true) 64

-- the words of an agent at rest
abbrev pub is_rest : Word → Bool
is_rest Looked = false
is_rest Took = false
is_rest Held = false
is_rest Back = false
is_rest Slept = false
is_rest Left = false
is_rest Came = false
is_rest Opened = false
is_rest Put = false
is_rest Asleep = true
is_rest Done = true

-- the answer says that the agent is asleep or done
abbrev pub says_rest : Answer → Bool
says_rest (Ok o) = is_rest o.word
says_rest (Err number) = false

-- "An agent is asleep, or done, when a step call for it would answer that word"
unfoldable pub rests : Cell → ℕ → Bool
unfolding step_of
rests t x = says_rest (step_of t x 0).answer
