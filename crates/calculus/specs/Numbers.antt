-- The names, keys and numbers of a tree have 16 bits; moves keep it so (proofs/TreeNumbers.antt).
use Rattle.std.specs.Prelude.{List, ℕ, ◌<◌}
use Rattle.table.specs.Bounds.{Name16}
use Rattle.table.specs.declared.Action.{Action}
use Rattle.meaning.specs.Calculus.{Tree}
use Rattle.meaning.specs.Every.{Every}

-- the numbers of a row of actions have 16 bits
abbrev pub Row16 : List Action → Type 0
Row16 l = Every (λ x. x.name < 65536) l

-- "two-byte" names, keys and numbers
pub record Numbers16 (t : Tree) : Type 0 where
  pub names : (q : ℕ) → Name16 (t.name q)
  pub actions : (x : ℕ) → Row16 (t.unused x)
