-- "Following parents or destinations leads every place to the floor", as an inductive predicate, kept by each move of the calculus.
use Rattle.std.specs.Prelude.{◌≢◌}
use Prim.Native.Nat.{ℕ}

-- q leads to the floor
pub data Up (f : ℕ → ℕ) : ℕ → Type 0 where
  base : Up f 0
  up : (q : ℕ) → Up f (f q) → Up f q

-- q leads to the floor and h is not on the way
pub data Off (f : ℕ → ℕ) (h : ℕ) : ℕ → Type 0 where
  off0 : Off f h 0
  offs : (q : ℕ) → q ≢ h → Off f h (f q) → Off f h q
