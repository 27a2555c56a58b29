-- Texts in byte order (document 02, W7): "in byte order of its own text, a shorter text before any that continues it".
use Rattle.std.specs.Prelude.{ℕ, Bool, true, false, cond, List, [], ◌∷◌, ltb}

-- x is y or comes before it: the first byte that differs decides, and a text that ends comes before one that continues it
unfoldable pub leq : List ℕ → List ℕ → Bool
leq [] y = true
leq (a ∷ x) [] = false
leq (a ∷ x) (b ∷ y) = cond (ltb a b) true (cond (ltb b a) false (leq x y))

-- one text more, after those that it does not come before
unfoldable pub insert : List ℕ → List (List ℕ) → List (List ℕ)
unfolding leq
insert x [] = x ∷ []
insert x (y ∷ rest) = cond (leq y x) (y ∷ insert x rest) (x ∷ y ∷ rest)

-- the same texts in order
unfoldable pub sorted : List (List ℕ) → List (List ℕ)
unfolding insert
sorted [] = []
sorted (x ∷ rest) = insert x (sorted rest)
