-- What an ask tells, of the step that was decided, and the decision carried out if that is still so.
use Rattle.std.specs.Prelude.{ℕ, Bool, true, cond, Option, Some, None, Ok, Err}
use Rattle.table.specs.Cell.{State, cell_of}
use Rattle.table.specs.declared.Agent.{Agent}
use Rattle.table.specs.declared.Cell.{Cell}
use Rattle.meaning.specs.Answers.{Answer, Asked, Would, Unasked}
use Rattle.meaning.specs.declared.Stepped.{Stepped}
use Rattle.meaning.specs.Ask.{hands_back}
use Rattle.meaning.specs.Refusals.{answer_differs}
use Rattle.meaning.specs.Run.{made, turned_away}
use Rattle.moves.specs.Motions.{shifted, woken_in}
use Rattle.moves.specs.declared.Motion.{Motion}
use Rattle.step.specs.Decided.{agent_at, settled, carried_out}
use Rattle.step.specs.declared.Decision.{Decision}

-- how many agents the step of agent a would wake: none where no place moves
abbrev pub woken_where : State → Agent → Option Motion → ℕ
woken_where c a (Some m) = woken_in c a m
woken_where c a None = 0

abbrev pub woken_by : State → Agent → Decision → ℕ
woken_by c a d = woken_where c a d.motion

-- an answer as an ask tells it
abbrev pub tell_of : Answer → ℕ → ℕ → Asked
tell_of (Ok o) woken place = Would o.word woken place
tell_of (Err number) woken place = Unasked number

-- what an ask tells of the decision d for agent a on a table
unfoldable pub asked_of : Cell → Agent → Decision → Asked
asked_of t a d = tell_of d.answer (woken_by (cell_of t) a d) d.chosen

-- the decision for agent x carried out, if what was told is still so
unfoldable pub made_if : Bool → Cell → ℕ → Decision → Stepped
made_if same t x d = cond same (carried_out t x d) (turned_away t answer_differs)

-- an answer and a place, as an ask tells them
abbrev pub say_of : Answer → ℕ → Asked
say_of (Ok o) place = Would o.word o.woken place
say_of (Err number) place = Unasked number

-- a step that answers so, with this place, goes on: any does, or the one of which an ask gives the number n
abbrev pub goes_on : Bool → Answer → ℕ → ℕ → Bool
goes_on any said place n = cond any true (hands_back (say_of said place) n)

-- a step that was decided and made, if it goes on; 18 otherwise
abbrev pub only_if : Cell → Decision → Bool → ℕ → Stepped → Stepped
only_if t d any n s = cond (goes_on any s.answer d.chosen n) s (turned_away t answer_differs)

-- so the motion of a decision for agent x, the agent and the locks, and the decision carried out
unfoldable pub moved_if : Cell → ℕ → Decision → Motion → Bool → ℕ → Stepped
moved_if t x d m any n = only_if t d any n (made (shifted (cell_of t) x (agent_at t x) m))

unfoldable pub settled_if : Cell → ℕ → Decision → Bool → ℕ → Stepped
settled_if t x d any n = only_if t d any n (record { cell = settled t x d; answer = d.answer })

unfoldable pub carried_if : Cell → ℕ → Decision → Bool → ℕ → Stepped
carried_if t x d any n = only_if t d any n (carried_out t x d)
