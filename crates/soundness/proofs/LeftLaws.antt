-- A walk over a set that takes what its members have from a bound, and stops where more is to be taken than is left. Assumes nothing.
-- Idea: what is no member has nothing, so the sum over the members below a number is the sum over all numbers below it.
use Rattle.std.specs.Prelude.{◌≡◌, Bool, true, false, ℕ, ◌+◌, ◌-◌, ◌≤◌, ◌<◌, List, leb, None, Some}
use Rattle.std.specs.Option.{is_some}
use Rattle.std.proofs.Common.{sym, ◌∙◌, add-one}
use Rattle.std.proofs.lemmas.Bool.{le-leb, lt-leb, leb-true, leb-false}
use Rattle.std.proofs.Math.Path.{refl, ap}
use Rattle.std.proofs.Math.Bool.{cond}
use native.Mathlib.Omega.{arith}
use Rattle.sets.specs.Set.{removed}
use Rattle.sets.proofs.WalkLaws.{rest_end, rest_lt, rest_member, rest_from, rest_skip, rest_more}
use Rattle.sets.specs.Walk.{Rest, lowest_in}
use Rattle.sets.specs.declared.Set.{Set}
use Rattle.table.specs.Base.{sum_below}
use Rattle.table.specs.Sound.{most_touches}
use Rattle.soundness.specs.Left.{total_of, left_of}
use Rattle.table.proofs.SumLaws.{sum_grows, sum_rest}

module _ (g : ℕ → Bool) (f : ℕ → ℕ) (most : ℕ) where
  -- what a member has
  abbrev part : ℕ → ℕ
  part q = cond (g q) (f q) 0

  -- the members from i on are left, and of the bound what those below i have not taken
  pub record Taken (left : ℕ) (rest : Set) : Type 0 where
    pub i : ℕ
    pub walk : Rest g i rest
    pub is : left + sum_below part i ≡ most

  pub taken_start : (s : Set) → Rest g 0 s → Taken most s
  unfolding sum_below
  taken_start s r = record { i = 0; walk = r; is = omega arith }

  module _ {left : ℕ} {rest : Set} (a : Taken left rest) where
    -- nobody is left
    pub taken_end : rest.bits ≡ 0 → left + sum_below (λ q. cond (g q) (f q) 0) 64 ≡ most
    taken_end e = omega (arith, a.is, sum_rest part a.i 64 a.walk.end (λ j h l. rw (rest_end a.walk e j h l)))

    module _ (k : 0 < rest.bits) where
      so_far : sum_below part a.i ≡ sum_below part (lowest_in rest)
      so_far = sum_rest part a.i (lowest_in rest) (rest_from a.walk k) (λ j h l. rw (rest_skip a.walk k j h l))

      next : sum_below part (lowest_in rest + 1) ≡ sum_below part a.i + f (lowest_in rest)
      unfolding sum_below
      next = ap (sum_below part) (add-one (lowest_in rest)) ∙ ap (λ (b : Bool). sum_below part (lowest_in rest) + cond b (f (lowest_in rest)) 0) (rest_member a.walk k)
          ∙ ap (λ (n : ℕ). n + f (lowest_in rest)) (sym so_far)

      -- the lowest has more than is left
      pub taken_stop : left < f (lowest_in rest) → most < sum_below (λ q. cond (g q) (f q) 0) 64
      taken_stop l =
          let m = rest_lt a.walk k in
          omega (arith, next, a.is, sum_grows part (lowest_in rest + 1) 64 (omega arith))

      -- it does not
      pub taken_more : f (lowest_in rest) ≤ left → Taken (left - f (lowest_in rest)) (removed rest (lowest_in rest))
      taken_more l = record { i = lowest_in rest + 1; walk = rest_more a.walk k; is = omega (arith, next, a.is) }

-- ---- what is left of the bound on touches

module _ (ts : List ℕ) (used : Set) where
  pub left_some : (n : ℕ) → n + total_of ts used ≡ most_touches → left_of ts used ≡ Some n
  unfolding left_of
  left_some n e = rw (le-leb (total_of ts used) most_touches (omega (arith, e))) (ap Some (omega (arith, e)))

  pub left_none : most_touches < total_of ts used → left_of ts used ≡ None
  unfolding left_of
  left_none l = rw (lt-leb (total_of ts used) most_touches l)

  -- some may come just where the touches keep within the bound
  pub left_tested : is_some (left_of ts used) ≡ leb (total_of ts used) most_touches
  unfolding left_of
  left_tested = go (leb (total_of ts used) most_touches)
    where
      go : (b : Bool) → is_some (cond b (Some (most_touches - total_of ts used)) None) ≡ b
      go true = refl
      go false = refl

  -- and then so many
  pub left_all : (n : ℕ) → left_of ts used ≡ Some n → n + total_of ts used ≡ most_touches
  unfolding left_of
  left_all n e = go (leb (total_of ts used) most_touches) refl e
    where
      go : (b : Bool) → leb (total_of ts used) most_touches ≡ b → cond b (Some (most_touches - total_of ts used)) None ≡ Some n → n + total_of ts used ≡ most_touches
      go true h e = let m : most_touches - total_of ts used ≡ n = cc in omega (arith, m, leb-true (total_of ts used) most_touches h)
      go false h e = absurd (cc)

  pub left_over : left_of ts used ≡ None → most_touches < total_of ts used
  unfolding left_of
  left_over e = go (leb (total_of ts used) most_touches) refl e
    where
      go : (b : Bool) → leb (total_of ts used) most_touches ≡ b → cond b (Some (most_touches - total_of ts used)) None ≡ None → most_touches < total_of ts used
      go true h e = absurd (cc)
      go false h e = leb-false (total_of ts used) most_touches h
