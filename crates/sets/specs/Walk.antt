-- A loop that takes the members of a set in order, lowest first, until none is left. Assumes nothing.
use Rattle.std.specs.Prelude.{◌≡◌, Bool, ◌&&◌, ℕ, ◌^◌, ◌≤◌, ◌<◌, leb, Option, None, Some}
use Rattle.sets.specs.Word.{lowest_of}
use Rattle.sets.specs.Set.{member, removed}
use Rattle.sets.specs.declared.Set.{Set}

-- the lowest member of a set, or 64
abbrev pub lowest_in : Set → ℕ
lowest_in s = lowest_of 64 (member s)

-- what is left of a walk over the members of g: those from i on
pub record Rest (g : ℕ → Bool) (i : ℕ) (s : Set) : Type 0 where
  pub small : s.bits < 2 ^ 64
  pub end : i ≤ 64
  pub left : (j : ℕ) → j < 64 → member s j ≡ (leb i j && g j)

-- a turn of the walk over the set s: where it is empty there is none, else its lowest member i is taken and the others are left
abbrev pub TakesLowest : Set → Option ℕ → Set → Type 0
TakesLowest s None t = (s.bits ≡ 0) × (t ≡ s)
TakesLowest s (Some i) t = (0 < s.bits) × ((i ≡ lowest_in s) × (t ≡ removed s i))
