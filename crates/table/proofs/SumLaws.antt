-- Laws of sums below a bound. Assumes nothing.
use Rattle.std.specs.Prelude.{◌≡◌, refl, ◌≢◌, ◌⊎◌, ℕ, zero, suc, ◌+◌, ◌*◌, ◌≤◌, ◌<◌, eqb}
use Rattle.std.proofs.Common.{sym, ap, ap₂, ◌∙◌, subst, inl, inr, zero-le, suc-mul, le_refl, arith, eqb-true}
use Rattle.std.proofs.lemmas.Bool.{eqb-false}
use Rattle.table.specs.Base.{upd, sum_below}
use Rattle.table.proofs.BaseLaws.{Told, yea, nay, told, eq?, upd_at, upd_other}

-- equal numbers give equal sums, small ones a small sum
pub sum_ext : (f g : ℕ → ℕ) (n : ℕ) → ((j : ℕ) → j < n → f j ≡ g j) → sum_below f n ≡ sum_below g n
unfolding sum_below
sum_ext f g zero h = refl
sum_ext f g (suc n) h = ap₂ ◌+◌ (sum_ext f g n (λ j l. h j (omega arith))) (h n (omega arith))

pub sum_most : (f : ℕ → ℕ) (n m : ℕ) → ((j : ℕ) → j < n → f j ≤ m) → sum_below f n ≤ n * m
unfolding sum_below
sum_most f zero m h = omega arith
sum_most f (suc n) m h =
    omega (arith, sum_most f n m (λ j l. h j (omega arith)), h n (omega arith), suc-mul n m)

-- smaller numbers give a smaller sum
pub sum_le : (f g : ℕ → ℕ) (n : ℕ) → ((i : ℕ) → f i ≤ g i) → sum_below f n ≤ sum_below g n
unfolding sum_below
sum_le f g zero h = zero-le
sum_le f g (suc n) h = omega (arith, sum_le f g n h, h n)

-- and less, where one number is less and none is more
pub sum_less : (f g : ℕ → ℕ) (n i : ℕ) → i < n → ((j : ℕ) → f j ≤ g j) → f i < g i → sum_below f n < sum_below g n
unfolding sum_below
sum_less f g zero i l h s = absurd (omega arith)
sum_less f g (suc n) i l h s = go (eq? i n) (sum_less f g n i)
  where
    go : (i ≡ n) ⊎ (i ≢ n) → (i < n → ((j : ℕ) → f j ≤ g j) → f i < g i → sum_below f n < sum_below g n) → sum_below f n + f n < sum_below g n + g n
    go (inl e) r = let k : f n < g n = rw e at s in omega (arith, sum_le f g n h)
    go (inr e) r = omega (arith, r (omega arith) h s, h n)

-- zeros give none
pub sum_none : (n : ℕ) → sum_below (λ i. 0) n ≡ 0
unfolding sum_below
sum_none zero = refl
sum_none (suc n) = omega (arith, sum_none n)

-- two sums are the sum of both, and of sums of sums either may come first
pub sum_add : (f g : ℕ → ℕ) (n : ℕ) → sum_below (λ i. f i + g i) n ≡ sum_below f n + sum_below g n
unfolding sum_below
sum_add f g zero = refl
sum_add f g (suc n) = omega (arith, sum_add f g n)

pub sum_swap : (f : ℕ → ℕ → ℕ) (m n : ℕ) → sum_below (λ p. sum_below (f p) m) n ≡ sum_below (λ q. sum_below (λ p. f p q) n) m
unfolding sum_below
sum_swap f m zero = sym (sum_none m)
sum_swap f m (suc n) = ap (λ (k : ℕ). k + sum_below (f n) m) (sum_swap f m n) ∙ sym (sum_add (λ q. sum_below (λ p. f p q) n) (f n) m)

-- one more at i
pub sum_more : (f g : ℕ → ℕ) (n i : ℕ) → i < n → g i ≡ f i + 1 → ((j : ℕ) → j ≢ i → g j ≡ f j) → sum_below g n ≡ sum_below f n + 1
unfolding sum_below
sum_more f g zero i l e h = absurd (omega arith)
sum_more f g (suc n) i l e h = go (eq? i n) (sum_more f g n i)
  where
    go : (i ≡ n) ⊎ (i ≢ n) → (i < n → g i ≡ f i + 1 → ((j : ℕ) → j ≢ i → g j ≡ f j) → sum_below g n ≡ sum_below f n + 1)
        → sum_below g n + g n ≡ sum_below f n + f n + 1
    go (inl q) r =
        let a : sum_below g n ≡ sum_below f n = sum_ext g f n (λ j k. h j (λ z. absurd (omega arith))) in
        let b : g n ≡ f n + 1 = ap g (sym q) ∙ e ∙ ap (λ (k : ℕ). f k + 1) q in omega arith
    go (inr q) r = let a = r (omega arith) e h in let b : g n ≡ f n = h n (λ z. q (sym z)) in omega arith

-- one of the things summed is at most the sum
pub sum_at : (f : ℕ → ℕ) (n i : ℕ) → i < n → f i ≤ sum_below f n
unfolding sum_below
sum_at f zero i l = absurd (omega arith)
sum_at f (suc n) i l = go (told (eqb i n)) (sum_at f n i)
  where
    go : Told (eqb i n) → (i < n → f i ≤ sum_below f n) → f i ≤ sum_below f n + f n
    go (yea e) r = rw (eqb-true i n e) (omega arith)
    go (nay e) r = omega (arith, r (omega (arith, eqb-false i n e)))

-- a sum changes by what one of its parts changes
pub sum_upd : (f : ℕ → ℕ) (n i v : ℕ) → i < n → sum_below (upd f i v) n + f i ≡ sum_below f n + v
unfolding sum_below
sum_upd f zero i v l = absurd (omega arith)
sum_upd f (suc n) i v l = go (eq? i n) (sum_upd f n i v)
  where
    go : (i ≡ n) ⊎ (i ≢ n) → (i < n → sum_below (upd f i v) n + f i ≡ sum_below f n + v) → sum_below (upd f i v) n + upd f i v n + f i ≡ sum_below f n + f n + v
    go (inl e) r =
        let s = sum_ext (upd f i v) f n (λ j k. upd_other f i j v (λ z. omega arith)) in
        let a : upd f i v n ≡ v = upd_at f i n v (sym e) in
        let b : f i ≡ f n = ap f e in
        omega (arith, s, a, b)
    go (inr d) r = let s = r (omega arith) in let a : upd f i v n ≡ f n = upd_other f i n v (λ z. d (sym z)) in omega (arith, s, a)

-- a sum over more numbers is no smaller, and no larger where what they add is nothing
pub sum_grows : (f : ℕ → ℕ) (n m : ℕ) → n ≤ m → sum_below f n ≤ sum_below f m
unfolding sum_below
sum_grows f n zero l = let e : n ≡ 0 = omega arith in subst (λ (k : ℕ). sum_below f k ≤ 0) (sym e) zero-le
sum_grows f n (suc m) l = go (eq? n (suc m)) (sum_grows f n m)
  where
    go : (n ≡ suc m) ⊎ (n ≢ suc m) → (n ≤ m → sum_below f n ≤ sum_below f m) → sum_below f n ≤ sum_below f m + f m
    go (inl e) r = subst (λ (k : ℕ). sum_below f n ≤ sum_below f k) e (le_refl (sum_below f n))
    go (inr q) r = let h = r (omega arith) in omega arith

pub sum_rest : (f : ℕ → ℕ) (n m : ℕ) → n ≤ m → ((j : ℕ) → n ≤ j → j < m → f j ≡ 0) → sum_below f n ≡ sum_below f m
unfolding sum_below
sum_rest f n zero l h = let e : n ≡ 0 = omega arith in ap (sum_below f) e
sum_rest f n (suc m) l h = go (eq? n (suc m)) (sum_rest f n m)
  where
    go : (n ≡ suc m) ⊎ (n ≢ suc m) → (n ≤ m → ((j : ℕ) → n ≤ j → j < m → f j ≡ 0) → sum_below f n ≡ sum_below f m) → sum_below f n ≡ sum_below f m + f m
    go (inl e) r = ap (sum_below f) e
    go (inr q) r = let s = r (omega arith) (λ j a b. h j a (omega arith)) in omega (arith, s, h m (omega arith) (omega arith))
