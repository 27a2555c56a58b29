-- More of sums below a bound, and what is gathered from many places, each thing from one of them. Assumes nothing.
use Rattle.std.specs.Prelude.{◌≡◌, refl, Bool, true, false, cond, ℕ, zero, suc, ◌+◌, ◌≤◌, eqb}
use Rattle.std.proofs.Common.{sym, zero-le, le_refl, arith, eqb-true, eq-eqb, ne_eqb}
use Rattle.table.specs.Base.{sum_below}
use Rattle.table.proofs.BaseLaws.{Told, yea, nay, told}
use Rattle.table.proofs.SumLaws.{sum_le, sum_add, sum_none, sum_swap}

-- v where the test holds, else nothing
abbrev pub pick : Bool → ℕ → ℕ
pick b v = cond b v 0

-- ---- sums

-- two sums are together at most a third, if they are so at each number
pub sum_both : (f g h : ℕ → ℕ) (n : ℕ) → ((i : ℕ) → f i + g i ≤ h i) → sum_below f n + sum_below g n ≤ sum_below h n
sum_both f g h n l = omega (arith, sum_add f g n, sum_le (λ i. f i + g i) h n l)

-- ---- sums of what passes a test

pub pick_le : (b : Bool) (v : ℕ) → pick b v ≤ v
pick_le true v = le_refl v
pick_le false v = zero-le

pub picks_add : (P : ℕ → Bool) (f g : ℕ → ℕ) (n : ℕ)
    → sum_below (λ i. pick (P i) (f i + g i)) n ≡ sum_below (λ i. pick (P i) (f i)) n + sum_below (λ i. pick (P i) (g i)) n
unfolding sum_below
picks_add P f g zero = refl
picks_add P f g (suc n) = omega (arith, picks_add P f g n, both (P n) (f n) (g n))
  where
    both : (b : Bool) (v w : ℕ) → pick b (v + w) ≡ pick b v + pick b w
    both true v w = refl
    both false v w = refl

pub pick_sum : (b : Bool) (f : ℕ → ℕ) (n : ℕ) → pick b (sum_below f n) ≡ sum_below (λ i. pick b (f i)) n
pick_sum true f n = refl
pick_sum false f n = sym (sum_none n)

-- no number below i is i, and only one number is
none_of : (i v n : ℕ) → n ≤ i → sum_below (λ p. pick (eqb i p) v) n ≡ 0
unfolding sum_below
none_of i v zero l = refl
none_of i v (suc n) l = rw (ne_eqb i n (λ e. omega (arith, e, l))) (omega (arith, none_of i v n (omega arith)))

one_of : (i v n : ℕ) → sum_below (λ p. pick (eqb i p) v) n ≤ v
unfolding sum_below
one_of i v zero = zero-le
one_of i v (suc n) = go (told (eqb i n)) (one_of i v n)
  where
    go : Told (eqb i n) → sum_below (λ p. pick (eqb i p) v) n ≤ v → sum_below (λ p. pick (eqb i p) v) n + pick (eqb i n) v ≤ v
    go (yea e) r = rw e (omega (arith, none_of i v n (omega (arith, eqb-true i n e))))
    go (nay e) r = rw e (omega (arith, r))

-- Each thing q is in one place at most, up q. What is gathered from the places that pass P is at most the things of which S holds,
-- if S holds of all that is in a place that passes.
module _ (P S : ℕ → Bool) (is_in : ℕ → ℕ → Bool) (up v : ℕ → ℕ) (one : (q p : ℕ) → is_in q p ≡ true → up q ≡ p)
    (all : (q p : ℕ) → is_in q p ≡ true → P p ≡ true → S q ≡ true) where
  in_one : (q p : ℕ) → pick (P p) (pick (is_in q p) (v q)) ≤ pick (eqb (up q) p) (pick (S q) (v q))
  in_one q p = go (told (P p)) (told (is_in q p))
    where
      go : Told (P p) → Told (is_in q p) → pick (P p) (pick (is_in q p) (v q)) ≤ pick (eqb (up q) p) (pick (S q) (v q))
      go (nay e) _ = rw e zero-le
      go (yea e) (nay f) = rw (e, f) zero-le
      go (yea e) (yea f) = rw (e, f, eq-eqb (up q) p (one q p f), all q p f e) (le_refl (v q))

  pub gathered : (m n : ℕ) → sum_below (λ p. pick (P p) (sum_below (λ q. pick (is_in q p) (v q)) m)) n ≤ sum_below (λ q. pick (S q) (v q)) m
  gathered m n = omega (arith, inside, sum_swap (λ p q. pick (P p) (pick (is_in q p) (v q))) m n, outside)
    where
      inside : sum_below (λ p. pick (P p) (sum_below (λ q. pick (is_in q p) (v q)) m)) n ≤ sum_below (λ p. sum_below (λ q. pick (P p) (pick (is_in q p) (v q))) m) n
      inside = sum_le _ _ n (λ p. rw (pick_sum (P p) (λ q. pick (is_in q p) (v q)) m) (le_refl _))

      outside : sum_below (λ q. sum_below (λ p. pick (P p) (pick (is_in q p) (v q))) n) m ≤ sum_below (λ q. pick (S q) (v q)) m
      outside = sum_le _ _ m (λ q. omega (
        arith,
        sum_le (λ p. pick (P p) (pick (is_in q p) (v q))) (λ p. pick (eqb (up q) p) (pick (S q) (v q))) n (in_one q),
        one_of (up q) (pick (S q) (v q)) n,
      ))
