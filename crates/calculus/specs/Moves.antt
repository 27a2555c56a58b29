-- Rows of moves of a plain tree.
use Rattle.std.specs.Prelude.{ℕ}
use Rattle.meaning.specs.Calculus.{Tree, Move}

-- any number of moves, one after the other, from t to u
pub data Moves : Tree → Tree → Type 0 where
  moves_none : {t : Tree} → Moves t t
  moves_then : {t u v : Tree} {a : ℕ} → Move t a u → Moves u v → Moves t v
