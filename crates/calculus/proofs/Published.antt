-- The moves of a formed tree are the reductions of its term in the published calculus, both ways: `published`.
-- Idea: one move by MovesReduce and ReductionsMove; any number of them by (Red Struct), since the tree reached has the term reached up to
-- equivalence.
use Rattle.std.proofs.Common.{subst}
use Rattle.std.specs.Prelude.{ℕ, ◌<◌, ltb}
use Rattle.meaning.specs.Calculus.{Tree, Move}
use Rattle.calculus.specs.Formed.{Formed}
use Rattle.calculus.proofs.MoveFormed.{move_formed, mover_below_64}
use Rattle.calculus.specs.Terms.{Term, ◌≅◌, struct_refl, struct_symm, Reduces, room, ◌⟶◌, red_struct, ◌⟶*◌, red_none, red_then}
use Rattle.calculus.specs.TermOf.{term}
use Rattle.calculus.proofs.Weights.{weigh_same}
use Rattle.calculus.proofs.MovesReduce.{move_reduces}
use Rattle.calculus.proofs.ReductionsMove.{Matched, reduction_moves}
use Rattle.calculus.specs.Moves.{Moves, moves_none, moves_then}

-- moves that lead to a tree whose term is P up to equivalence
pub record Reached (t : Tree) (P : Term) : Type 0 where
  pub after : Tree
  pub moves : Moves t after
  pub same : P ≅ term after

-- ---- one move

-- a move of the tree is a reduction of its term
pub published_reduces : {t u : Tree} {a : ℕ} → Formed t → Move t a u → term t ⟶ term u
published_reduces w v = move_reduces w v

-- a reduction of its term is, up to equivalence, a move of the tree
pub published_moves : {t : Tree} {P : Term} → Formed t → term t ⟶ P → Matched t P
published_moves w r = reduction_moves w r

-- a tree that permits no move has a blocked term
pub published_blocked : {t : Tree} → Formed t → ((a : ℕ) (u : Tree) → Move t a u → ⊥) → (P : Term) → term t ⟶ P → ⊥
published_blocked w stuck P r = let m = reduction_moves w r in stuck m.who m.after m.move

-- ---- any number of them

-- moves of the tree are reductions of its term
pub published_run : {t u : Tree} → Formed t → Moves t u → term t ⟶* term u
published_run w moves_none = red_none
published_run w (moves_then v m) = red_then (move_reduces w v) (published_run (move_formed w v) m)

reached : {t : Tree} {P R : Term} → Formed t → P ≅ term t → P ⟶* R → Reached t R
reached {t} w e red_none = record { after = t; moves = moves_none; same = e }
reached {t} {P} w e (red_then {Q} r s) =
    let same : Reduces (room (term t)) P Q = subst (λ (n : ℕ). Reduces (ltb n 63) P Q) (weigh_same 0 1 e) r in
    let m = reduction_moves w (red_struct (struct_symm e) same struct_refl) in
    let z = reached {t = m.after} (move_formed w m.move) m.same s in
    record { after = z.after; moves = moves_then m.move z.moves; same = z.same }

-- reductions of its term are, up to equivalence, moves of the tree
pub published_reached : {t : Tree} {P : Term} → Formed t → term t ⟶* P → Reached t P
published_reached w s = reached w struct_refl s

-- ---- all of it

-- what ties the plain tree to the published calculus
pub record Published : Type 0 where
  -- a move keeps a tree formed
  pub formed : {t u : Tree} {a : ℕ} → Formed t → Move t a u → Formed u
  -- only agents 0 to 63 move
  pub mover : {t u : Tree} {a : ℕ} → Formed t → Move t a u → a < 64
  -- each move is a reduction
  pub reduces : {t u : Tree} {a : ℕ} → Formed t → Move t a u → term t ⟶ term u
  -- each reduction is a move
  pub moves : {t : Tree} {P : Term} → Formed t → term t ⟶ P → Matched t P
  -- each row of moves is a row of reductions
  pub run : {t u : Tree} → Formed t → Moves t u → term t ⟶* term u
  -- each row of reductions is a row of moves
  pub reaches : {t : Tree} {P : Term} → Formed t → term t ⟶* P → Reached t P

-- all of it is so
pub published : Published
published = record {
  formed = move_formed;
  mover = mover_below_64;
  reduces = published_reduces;
  moves = published_moves;
  run = published_run;
  reaches = published_reached;
}
