-- What a call does to a cell, where a decision tells apart whether a place moves and which motion that is; and the decision carried out if that is
-- still so.
use Rattle.std.specs.Prelude.{ℕ, ◌%◌, Bool, cond, set}
use Rattle.table.specs.Cell.{cell_of, put_agents}
use Rattle.table.specs.declared.Cell.{Cell}
use Rattle.meaning.specs.Answers.{Answer}
use Rattle.meaning.specs.declared.Stepped.{Stepped}
use Rattle.meaning.specs.Refusals.{answer_differs}
use Rattle.meaning.specs.Run.{made, turned_away}
use Rattle.meaning.specs.Update.{at_stage}
use Rattle.moves.specs.Motions.{shifted}
use Rattle.moves.specs.declared.Motion.{Motion}
use Rattle.step.specs.Decided.{agent_at, locked_at}
use Rattle.asking.specs.Asked.{goes_on}

-- what a call does to a cell: a place moves; or none does, and the agent's stage, its remembered place and its chosen one (`choice`), the lock of
-- two places (64: of none) and the answer become these. Chosen: the place that an ask tells, 255 for none
pub record Decision : Type 0 where
  pub moves : Bool
  pub motion : Motion
  pub stage : ℕ
  pub remembered : ℕ
  pub choice : ℕ
  pub first : ℕ
  pub second : ℕ
  pub lock : ℕ
  pub answer : Answer
  pub chosen : ℕ

-- the table with the stage and the places of agent x that were decided
abbrev pub staged_at : Cell → ℕ → Decision → Cell
staged_at t x d = put_agents t (set t.agents (x % 64) (at_stage (agent_at t x) d.stage d.remembered d.choice))

-- the table with what was decided for agent x where no place moves
abbrev pub settled : Cell → ℕ → Decision → Cell
settled t x d = locked_at (locked_at (staged_at t x d) d.first d.lock) d.second d.lock

-- what a decision for agent x makes of a table
unfoldable pub carried_out : Cell → ℕ → Decision → Stepped
carried_out t x d = cond d.moves (made (shifted (cell_of t) x (agent_at t x) d.motion)) (record { cell = settled t x d; answer = d.answer })

-- a step that was decided and made, if it goes on; 18 otherwise
abbrev pub only_if : Cell → Decision → Bool → ℕ → Stepped → Stepped
only_if t d any n s = cond (goes_on any s.answer d.chosen n) s (turned_away t answer_differs)

-- so the motion of a decision for agent x
unfoldable pub moved_if : Cell → ℕ → Decision → Bool → ℕ → Stepped
moved_if t x d any n = only_if t d any n (made (shifted (cell_of t) x (agent_at t x) d.motion))

-- the agent and the locks
unfoldable pub settled_if : Cell → ℕ → Decision → Bool → ℕ → Stepped
settled_if t x d any n = only_if t d any n (record { cell = settled t x d; answer = d.answer })

-- and the decision carried out
unfoldable pub carried_if : Cell → ℕ → Decision → Bool → ℕ → Stepped
carried_if t x d any n = only_if t d any n (carried_out t x d)
