-- A walk over a set that adds up what its members have: what it has added and what is still to come make the whole. Assumes nothing.
use Rattle.std.specs.Prelude.{◌≡◌, Bool, cond, ℕ, ◌+◌, ◌-◌, ◌≤◌, ◌<◌, ltb, Option, None, Some}
use Rattle.std.proofs.Common.{arith, subst, sym, ltb-true, ltb-false}
use Rattle.sets.specs.Set.{removed}
use Rattle.sets.specs.Walk.{Rest, lowest_in, TakesLowest}
use Rattle.sets.proofs.WalkLaws.{Turn, turn_of}
use Rattle.sets.specs.declared.Set.{Set}
use Rattle.table.specs.Base.{sum_below}
use Rattle.table.proofs.BaseLaws.{Told, yea, nay, told}
use Rattle.soundness.proofs.LeftLaws.{Taken, taken_start, taken_end, taken_stop, taken_more}

module _ (g : ℕ → Bool) (f : ℕ → ℕ) where
  -- what all members have
  abbrev whole : ℕ
  whole = sum_below (λ x. cond (g x) (f x) 0) 64

  -- so much is added, and the members that are left have what is still to come
  pub record Added (sum : ℕ) (rest : Set) : Type 0 where
    pub left : ℕ
    pub is : sum + left ≡ sum_below (λ x. cond (g x) (f x) 0) 64
    pub walk : Taken g f (sum_below (λ x. cond (g x) (f x) 0) 64) left rest

  pub added_start : (s : Set) → Rest g 0 s → Added 0 s
  added_start s r = record { left = whole; is = omega arith; walk = taken_start g f whole s r }

  module _ {sum : ℕ} {rest : Set} (a : Added sum rest) where
    -- what is added is no more than the whole
    pub added_most : sum ≤ sum_below (λ x. cond (g x) (f x) 0) 64
    added_most = omega (arith, a.is)

    -- nobody is left
    pub added_end : rest.bits ≡ 0 → sum ≡ sum_below (λ x. cond (g x) (f x) 0) 64
    added_end e = omega (arith, a.is, taken_end g f whole a.walk e)

    module _ (k : 0 < rest.bits) where
      -- the lowest has no more than is still to come
      within : Told (ltb a.left (f (lowest_in rest))) → f (lowest_in rest) ≤ a.left
      within (yea e) = absurd (omega (arith, taken_stop g f whole a.walk k (ltb-true a.left (f (lowest_in rest)) e)))
      within (nay e) = ltb-false a.left (f (lowest_in rest)) e

      -- it is added
      pub added_more : Added (sum + f (lowest_in rest)) (removed rest (lowest_in rest))
      added_more = let l = within (told (ltb a.left (f (lowest_in rest)))) in
          record { left = a.left - f (lowest_in rest); is = omega (arith, a.is, l); walk = taken_more g f whole a.walk k l }

    -- a turn of a `for` over the set, which takes j: what j has is added; at the end nobody is left
    module _ {j : ℕ} {others : Set} (step : TakesLowest rest (Some j) others) where
      turn : Turn rest j others
      turn = turn_of a.walk.walk.small step

      pub added_turn : Added (sum + f j) others
      added_turn = subst (Added (sum + f j)) (sym turn.left) (subst (λ (i : ℕ). Added (sum + f i) (removed rest (lowest_in rest))) (sym turn.lowest) (added_more turn.some))

    pub added_none : {others : Set} → TakesLowest rest None others → sum ≡ sum_below (λ x. cond (g x) (f x) 0) 64
    added_none step = added_end step.0
