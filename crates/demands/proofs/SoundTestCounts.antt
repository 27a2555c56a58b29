-- How many numbers below a bound pass a test: one and no more, by a number that does and by no two that do.
-- By induction on the bound; the last number passes or does not.
use Rattle.std.specs.Prelude.{◌≡◌, ◌≢◌, ◌⊎◌, Bool}
use Rattle.std.proofs.Common.{sym, ap, ◌∙◌, inl, inr}
use Rattle.std.proofs.Math.Bool.{true}
use Prim.Native.Nat.{ℕ, zero, suc, ◌≤◌, ◌<◌}
use native.Mathlib.Omega.{arith}
use Rattle.table.specs.Base.{count_below}
use Rattle.table.proofs.BaseLaws.{Told, yea, nay, told, eq?, count_none}
use Rattle.demands.proofs.Facts.{not_yes}

module _ (P : ℕ → Bool) where
  -- one passes, so the count is not 0
  pub count_some : (n j : ℕ) → j < n → P j ≡ true → 1 ≤ count_below P n
  unfolding count_below
  count_some zero j l e = absurd (omega arith)
  count_some (suc n) j l e = go (eq? j n) (λ k. count_some n j k e)
    where
      go : (j ≡ n) ⊎ (j ≢ n) → (j < n → 1 ≤ count_below P n) → 1 ≤ count_below P (suc n)
      go (inl z) r = rw (ap P (sym z) ∙ e) (omega arith)
      go (inr d) r = omega (arith, r (omega arith))

  -- the count is not 0, so one passes
  pub count_found : (n : ℕ) → 1 ≤ count_below P n → (j : ℕ) × ((j < n) × (P j ≡ true))
  unfolding count_below
  count_found zero l = absurd (omega arith)
  count_found (suc n) l = go (told (P n)) (count_found n)
    where
      go : Told (P n) → (1 ≤ count_below P n → (j : ℕ) × ((j < n) × (P j ≡ true))) → (j : ℕ) × ((j < suc n) × (P j ≡ true))
      go (yea e) r = (n, (omega arith, e))
      go (nay e) r = let f = r (omega (arith, rw e at l)) in (f.0, (let k = f.1.0 in omega arith, f.1.1))

  -- no two pass, so the count is 1 at most
  pub count_most : (n : ℕ) → ((i j : ℕ) → i < n → j < n → P i ≡ true → P j ≡ true → i ≡ j) → count_below P n ≤ 1
  unfolding count_below
  count_most zero h = omega arith
  count_most (suc n) h = go (told (P n)) (count_most n (λ i j k l. h i j (omega arith) (omega arith)))
    where
      go : Told (P n) → count_below P n ≤ 1 → count_below P (suc n) ≤ 1
      go (yea e) r = rw (e, count_none P n (λ j l. not_yes (P j) (λ t. omega (arith, h j n (omega arith) (omega arith) t e)))) (omega arith)
      go (nay e) r = rw e (omega arith)

  -- the count is 1 at most, so no two pass
  pub count_single : (n i j : ℕ) → count_below P n ≤ 1 → i < n → j < n → P i ≡ true → P j ≡ true → i ≡ j
  unfolding count_below
  count_single zero i j c k l e f = absurd (omega arith)
  count_single (suc n) i j c k l e f = go (eq? i n) (eq? j n) (λ c' k' l'. count_single n i j c' k' l' e f)
    where
      -- the last one passes, and another
      two : (m : ℕ) → m < n → P m ≡ true → P n ≡ true → ⊥
      two m o p q = omega (arith, count_some n m o p, rw q at c)

      go : (i ≡ n) ⊎ (i ≢ n) → (j ≡ n) ⊎ (j ≢ n) → (count_below P n ≤ 1 → i < n → j < n → i ≡ j) → i ≡ j
      go (inl a) (inl b) r = a ∙ sym b
      go (inl a) (inr b) r = absurd (two j (omega arith) f (ap P (sym a) ∙ e))
      go (inr a) (inl b) r = absurd (two i (omega arith) e (ap P (sym b) ∙ f))
      go (inr a) (inr b) r = r (omega arith) (omega arith) (omega arith)
