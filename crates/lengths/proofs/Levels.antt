-- What is gathered going down from the floor, level by level, is each agent and each place once at most. Assumes nothing.
-- Idea: a place other than the floor stands in one place, so the places of a level are none of those of the levels above it.
use Rattle.std.specs.Prelude.{◌≡◌, refl, Bool, true, false, not, ◌&&◌, ◌||◌}
use Prim.Native.Nat.{ℕ, zero, suc, ◌+◌, ◌*◌, ◌≤◌, zero-le}
use Rattle.std.proofs.Math.Nat.{le_refl}
use Rattle.std.proofs.Common.{suc-mul}
use native.Mathlib.Omega.{arith}
use Rattle.std.proofs.Math.Dec.{eqb}
use borrow.Author.Tests.{eqb-true, not-true}
use Rattle.table.specs.Base.{sum_below}
use Rattle.table.proofs.BaseLaws.{Told, yea, nay, told, clash, and_left, and_right}
use Rattle.table.proofs.SumLaws.{sum_le, sum_none, sum_at, sum_most}
use Rattle.table.specs.Cell.{State, has_unused}
use Rattle.meaning.specs.Listing.{lists_in, stands_under}
use Rattle.lengths.proofs.Sums.{pick, sum_both, pick_le, picks_add, gathered}

-- ---- tests

or_right : (a b : Bool) → b ≡ true → (a || b) ≡ true
or_right true b e = refl
or_right false b e = e

or_rest : (a b : Bool) → a ≡ false → (a || b) ≡ true → b ≡ true
or_rest true b f e = clash refl f
or_rest false b f e = e

-- of p and v one at most holds: what p has, and what neither has, is what v has not
once : (p v : Bool) (k : ℕ) → (p ≡ true → v ≡ false) → pick p k + pick (not (p || v)) k ≤ pick (not v) k
once true v k h = rw (h refl) (omega arith)
once false v k h = omega arith

-- ---- levels

module _ (c : State) (A B : ℕ) where
  -- agent x is listed in p
  abbrev pub lives_in : ℕ → ℕ → Bool
  lives_in p x = lists_in (c.given x) (c.agent x) p

  -- place q stands in p
  abbrev pub stands_in : ℕ → ℕ → Bool
  stands_in p q = stands_under (c.land.used q) q (c.land.place q).parent p

  -- A for each agent and B for each place inside p, so many levels deep
  unfoldable pub heap : ℕ → ℕ → ℕ
  heap zero p = 0
  heap (suc depth) p = sum_below (λ x. pick (lives_in p x) A) 64 + sum_below (λ q. pick (stands_in p q) (B + heap depth q)) 64

  lives_one : (x p : ℕ) → lives_in p x ≡ true → (c.agent x).home ≡ p
  unfolding lists_in
  lives_one x p e = eqb-true _ _ (and_right (has_unused (c.agent x)) _ (and_right (c.given x) _ e))

  stands_one : (q p : ℕ) → stands_in p q ≡ true → (c.land.place q).parent ≡ p
  unfolding stands_under
  stands_one q p e = eqb-true _ _ (and_right (not (eqb q 0)) _ (and_right (c.land.used q) _ e))

  stands_above : (q p : ℕ) → stands_in p q ≡ true → eqb q 0 ≡ false
  unfolding stands_under
  stands_above q p e = not-true (eqb q 0) (and_left (not (eqb q 0)) _ (and_right (c.land.used q) _ e))

  -- the places that stand in one of the level; the floor is none of them
  abbrev below : (ℕ → Bool) → ℕ → Bool
  below level q = not (eqb q 0) && level (c.land.place q).parent

  -- A for each agent that lives in none of the upper places, and B for each place that is neither of the level nor one of these
  abbrev outside : (ℕ → Bool) → (ℕ → Bool) → ℕ
  outside level upper = sum_below (λ x. pick (not (upper (c.agent x).home)) A) 64 + sum_below (λ q. pick (not (level q || upper q)) B) 64

  -- a level, and the levels above it: a place of either other than the floor stands in one of those above
  module _ (level upper : ℕ → Bool) (apart : (q : ℕ) → level q ≡ true → upper q ≡ false)
      (above : (q : ℕ) → (level q || upper q) ≡ true → eqb q 0 ≡ false → upper (c.land.place q).parent ≡ true) where
    below_fresh : (q : ℕ) → below level q ≡ true → (level q || upper q) ≡ false
    below_fresh q e = go (told (level q || upper q))
      where
        go : Told (level q || upper q) → (level q || upper q) ≡ false
        go (nay f) = f
        go (yea f) = clash (above q f (not-true (eqb q 0) (and_left _ _ e))) (apart (c.land.place q).parent (and_right (not (eqb q 0)) _ e))

    below_above : (q : ℕ) → (below level q || (level q || upper q)) ≡ true → eqb q 0 ≡ false → (level (c.land.place q).parent || upper (c.land.place q).parent) ≡ true
    below_above q e z = go (told (below level q))
      where
        go : Told (below level q) → (level (c.land.place q).parent || upper (c.land.place q).parent) ≡ true
        go (yea f) = rw (and_right (not (eqb q 0)) _ f)
        go (nay f) = or_right (level (c.land.place q).parent) _ (above q (or_rest (below level q) _ f e) z)

    -- the level's agents and the places below it, and what is outside these
    level_counted : (k : ℕ) → k ≤ outside (below level) (λ q. level q || upper q)
        → sum_below (λ x. pick (level (c.agent x).home) A) 64 + (sum_below (λ q. pick (below level q) B) 64 + k) ≤ outside level upper
    level_counted k l = omega (
      arith,
      sum_both (λ x. pick (level (c.agent x).home) A) (λ x. pick (not (level (c.agent x).home || upper (c.agent x).home)) A) (λ x. pick (not (upper (c.agent x).home)) A) 64
          (λ x. once (level (c.agent x).home) (upper (c.agent x).home) A (apart (c.agent x).home)),
      sum_both (λ q. pick (below level q) B) (λ q. pick (not (below level q || (level q || upper q))) B) (λ q. pick (not (level q || upper q)) B) 64
          (λ q. once (below level q) (level q || upper q) B (below_fresh q)),
    )

  -- what the places of a level hold, so many levels deep
  levels : (depth : ℕ) (level upper : ℕ → Bool) → ((q : ℕ) → level q ≡ true → upper q ≡ false)
      → ((q : ℕ) → (level q || upper q) ≡ true → eqb q 0 ≡ false → upper (c.land.place q).parent ≡ true)
      → sum_below (λ p. pick (level p) (heap depth p)) 64 ≤ outside level upper
  unfolding heap
  levels zero level upper apart above = omega (arith, sum_le (λ p. pick (level p) 0) (λ p. 0) 64 (λ p. pick_le (level p) 0), sum_none 64)
  levels (suc depth) level upper apart above = omega (
    arith,
    picks_add level (λ p. sum_below (λ x. pick (lives_in p x) A) 64) (λ p. sum_below (λ q. pick (stands_in p q) (B + heap depth q)) 64) 64,
    gathered level (λ x. level (c.agent x).home) (λ x p. lives_in p x) (λ x. (c.agent x).home) (λ x. A) lives_one (λ x p e f. rw (lives_one x p e) f) 64 64,
    gathered level (below level) (λ q p. stands_in p q) (λ q. (c.land.place q).parent) (λ q. B + heap depth q) stands_one
        (λ q p e f. rw (stands_above q p e, stands_one q p e) f) 64 64,
    picks_add (below level) (λ q. B) (heap depth) 64,
    level_counted level upper apart above (sum_below (λ q. pick (below level q) (heap depth q)) 64)
        (levels depth (below level) (λ q. level q || upper q) (below_fresh level upper apart above) (below_above level upper apart above)),
  )

  -- from the floor down
  pub heap_floor : (depth : ℕ) → heap depth 0 ≤ 64 * A + 63 * B
  unfolding sum_below
  heap_floor depth = omega (arith, sum_at (λ p. pick (eqb p 0) (heap depth p)) 64 0 (omega arith), floor, sum_most (λ x. A) 64 A (λ x l. le_refl A), but_floor 63)
    where
      floor : sum_below (λ p. pick (eqb p 0) (heap depth p)) 64 ≤ outside (λ q. eqb q 0) (λ q. false)
      floor = levels depth (λ q. eqb q 0) (λ q. false) (λ q e. refl) (λ q e z. clash e (rw z))

      but_floor : (n : ℕ) → sum_below (λ q. pick (not (eqb q 0 || false)) B) (suc n) ≤ n * B
      but_floor zero = zero-le
      but_floor (suc n) = omega (arith, but_floor n, pick_le (not (eqb (suc n) 0 || false)) B, suc-mul n B)
