-- The machine has not left the language exactly while some text of the language begins with what it has read.
use Rattle.std.specs.Prelude.{◌↔◌, take}
use Prim.Native.Nat.{ℕ, ◌≤◌}
use Rattle.std.proofs.Math.ListN.{length}
use Rattle.language.specs.Grammar.{Text, Viable}

-- "the first byte that no text of it could continue (the text's length if it stops early)": just the first i bytes of the text begin some
-- text of the language, and no more
pub record LongestViable (s : Text) (i : ℕ) : Type 0 where
  pub within : i ≤ length s
  pub exactly : (j : ℕ) → j ≤ length s → Viable (take j s) ↔ (j ≤ i)
