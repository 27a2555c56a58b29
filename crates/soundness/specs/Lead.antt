-- The way to the floor as the program follows it: from place to place, by a list of where each stands.
use Rattle.std.specs.Prelude.{ℕ, ◌<◌, ◌≡◌, ◌≢◌, true, false, List, get_or}
use Rattle.sets.specs.Set.{member}
use Rattle.sets.specs.declared.Set.{Set}
use Rattle.table.specs.Base.{iter, count_below}

-- one step up
abbrev pub above : List ℕ → ℕ → ℕ
above up q = get_or up q 0

-- as many steps up as s has members lead each of them to the floor
abbrev pub Leading : (ℕ → ℕ) → Set → Type 0
Leading up s = (q : ℕ) → member s q ≡ true → iter up (count_below (member s) 64) q ≡ 0

-- the floor stands on itself, every place on a place, and those known lead to the floor, itself among them
pub record Ways (up : List ℕ) (known : Set) : Type 0 where
  pub floor : get_or up 0 0 ≡ 0
  pub small : (q : ℕ) → get_or up q 0 < 64
  pub first : member known 0 ≡ true
  pub leading : Leading (above up) known

-- what is known once the way up from q is followed: nothing is forgotten, and where q is not known it never leads to the floor
pub record Followed (up : List ℕ) (known : Set) (q : ℕ) (more : Set) : Type 0 where
  pub leading : Leading (above up) more
  pub kept : (j : ℕ) → j < 64 → member known j ≡ true → member more j ≡ true
  pub lost : member more q ≡ false → (n : ℕ) → iter (above up) n q ≢ 0

-- the floor alone
abbrev pub floor_alone : Set
floor_alone = record { bits = 1 }
