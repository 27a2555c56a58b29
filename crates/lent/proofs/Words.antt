-- What the two words of a lent cell tell, before any element of it is read: every number in use, and every agent given, is below 64.
-- A walk over a lent cell reads the two words first; the sizes of its arrays are known only where an element is read, and nothing that the walks
-- over agents and places do asks for them.
use Rattle.std.specs.Prelude.{◌≡◌, true, ℕ, ◌^◌, ◌<◌}
use Rattle.sets.specs.Word.{has}
use Rattle.sets.proofs.WordLaws.{has_lt}
use Rattle.table.specs.declared.Cell.{Cell}

-- the words of the table t have 64 bits
pub record Words (t : Cell) : Type 0 where
  pub used : t.used.bits < 2 ^ 64
  pub given : t.given.bits < 2 ^ 64

-- a place in use is below 64
pub in_use : (t : Cell) → Words t → (q : ℕ) → has t.used.bits q ≡ true → q < 64
in_use t z q e = has_lt 64 t.used.bits q z.used e
