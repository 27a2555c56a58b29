-- The set struct: what insertion, removal and union make, each by its members.
use Rattle.std.specs.Prelude.{ℕ, Bool, true, false, not, ◌&&◌, ◌||◌, eqb}
use Rattle.sets.specs.Word.{has, word_of}
use Rattle.sets.specs.declared.Set.{Set}

-- whether i is a member
abbrev pub member : Set → ℕ → Bool
member s i = has s.bits i

-- the set of the numbers below 64 that pass a test
abbrev pub set_of : (ℕ → Bool) → Set
set_of f = record { bits = word_of 64 f }

-- with i; a number that is not below 64 is none
abbrev pub inserted : Set → ℕ → Set
inserted s i = set_of (λ j. eqb j i || member s j)

-- with i where b, and unchanged where not
abbrev pub inserted_if : Set → ℕ → Bool → Set
inserted_if s i true = inserted s i
inserted_if s i false = s

-- without i
abbrev pub removed : Set → ℕ → Set
removed s i = set_of (λ j. not (eqb j i) && member s j)

-- the members of either
abbrev pub united : Set → Set → Set
united s t = set_of (λ j. member s j || member t j)

-- the set without members
abbrev pub empty_set : Set
empty_set = record { bits = 0 }
