-- A decision that tells apart whether a place moves and which motion that is, carried out if that is still so. Assumes nothing.
use Rattle.std.specs.Prelude.{◌≡◌, Bool, true, false, ℕ}
use Rattle.std.proofs.Math.Path.{sym, ap}
use Rattle.std.proofs.Math.Bool.{cond}
use Rattle.table.specs.Cell.{cell_of}
use Rattle.table.specs.declared.Cell.{Cell}
use Rattle.meaning.specs.declared.Stepped.{Stepped}
use Rattle.meaning.specs.Run.{made}
use Rattle.moves.specs.Motions.{shifted}
use Rattle.step.specs.Decided.{agent_at}
use Rattle.walked.specs.Decisions.{Decision, settled, carried_out, only_if, moved_if, settled_if, carried_if}

-- where a place moves, the motion is what is carried out; where none does, the agent and the locks
module _ (t : Cell) (x : ℕ) (d : Decision) (any : Bool) (n : ℕ) where
  -- by whether a place moves
  abbrev by_moves : Bool → Stepped
  by_moves y = only_if t d any n (cond y (made (shifted (cell_of t) x (agent_at t x) d.motion)) (record { cell = settled t x d; answer = d.answer }))

  -- a place moves
  pub carried_moved : d.moves ≡ true → moved_if t x d any n ≡ carried_if t x d any n
  unfolding moved_if carried_if carried_out
  carried_moved e = sym (ap by_moves e)

  -- none does
  pub carried_settled : d.moves ≡ false → settled_if t x d any n ≡ carried_if t x d any n
  unfolding settled_if carried_if carried_out
  carried_settled e = sym (ap by_moves e)
