-- Functions on numbers: one value changed, tests, counts and sums below a bound, tables.
use Rattle.std.specs.Prelude.{ℕ, zero, suc, ◌+◌, Bool, true, false, ◌&&◌, ◌||◌, cond, List, [], ◌∷◌, eqb}
use Rattle.sets.specs.Word.{bit}

-- f with v at i
unfoldable pub upd : {A : Type 0} → (ℕ → A) → ℕ → A → ℕ → A
upd f i v j = cond (eqb j i) v (f j)

-- f k, f (k + 1), .. as a list of length n
unfoldable pub tab : {A : Type 0} → (ℕ → A) → ℕ → ℕ → List A
tab f zero k = []
tab f (suc n) k = f k ∷ tab f n (suc k)

-- f applied at 0, 1, .. below n, in this order
unfoldable pub fold_up : {S : Type 0} → (ℕ → S → S) → ℕ → S → S
fold_up f zero s = s
fold_up f (suc n) s = f n (fold_up f n s)

-- every number below n passes
unfoldable pub all_below : (ℕ → Bool) → ℕ → Bool
all_below P zero = true
all_below P (suc n) = P n && all_below P n

-- some number below n passes
unfoldable pub any_below : (ℕ → Bool) → ℕ → Bool
any_below P zero = false
any_below P (suc n) = P n || any_below P n

-- how many numbers below n pass
unfoldable pub count_below : (ℕ → Bool) → ℕ → ℕ
count_below P zero = 0
count_below P (suc n) = count_below P n + bit (P n)

-- f 0 + f 1 + .. below n
unfoldable pub sum_below : (ℕ → ℕ) → ℕ → ℕ
sum_below f zero = 0
sum_below f (suc n) = sum_below f n + f n

-- f applied n times
unfoldable pub iter : (ℕ → ℕ) → ℕ → ℕ → ℕ
iter f zero q = q
iter f (suc n) q = iter f n (f q)
