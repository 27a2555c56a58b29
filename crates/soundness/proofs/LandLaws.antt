-- The walk over the places in use but the floor: each fits so far, and where it stands is noted. Assumes nothing.
-- Idea: between two members of a set there is nothing to do, so the walk is a sweep over all numbers that skips some turns; once all fit, where
-- a place in use stands is in use, so that what was noted leads the same way.
use Rattle.std.specs.Prelude.{◌≡◌, ◌⊎◌, Bool, false, not, ◌&&◌, ◌||◌, cond, leb, ltb, set, replicate}
use Rattle.std.proofs.Math.Path.{refl, sym, ap}
use Rattle.std.proofs.Common.{◌∙◌, subst, inl, inr, arith, eqb-true, ltb-true, ltb-false}
use Rattle.std.proofs.Math.Bool.{true}
use mathlib.Core.List.{List}
use Prim.Native.Nat.{ℕ, zero, suc, ◌≤◌, ◌<◌, ◌^◌}
use Rattle.std.proofs.Math.Dec.{eqb}
use Rattle.std.proofs.Math.ListN.{get_or, get_or-eq_default}
use Rattle.sets.specs.Set.{member, inserted_if, removed}
use Rattle.sets.proofs.SetLaws.{member_removed}
use Rattle.sets.proofs.WordLaws.{word_lt, has_lt, has_pow}
use Rattle.sets.proofs.WalkLaws.{rest_start, rest_end, rest_lt, rest_member, rest_from, rest_skip}
use Rattle.sets.specs.Walk.{Rest, lowest_in}
use Rattle.sets.specs.declared.Set.{Set}
use Rattle.table.specs.Base.{tab, all_below, iter}
use Rattle.table.proofs.BaseLaws.{Told, yea, nay, told, and_left, and_right, cond_cong, all_at, all_ext, get_d_tab, length_tab}
use Rattle.table.proofs.TestLaws.{Tested, tested_start, tested_end, tested_stop, tested_more}
use Rattle.table.proofs.SweepLaws.{below, sweep_start, sweep_hit, sweep_skip, sweep_end}
use Rattle.table.specs.Cell.{none, no_place}
use Rattle.soundness.specs.Lead.{floor_alone}
use Rattle.soundness.specs.Lead.{above, Leading, Ways}
use Rattle.soundness.proofs.LeadLaws.{iter_stays, inserted_is, inserted_keeps, leading_more}
use Rattle.soundness.specs.Pass.{child, parents_of, all_lead, child_fits, child_stands, child_test, child_at, children_fit}
use Rattle.table.specs.declared.Place.{Place}

module _ (ps : List Place) (ls : List ℕ) (used claimed going : Set) where
  -- one step up from q
  abbrev step : ℕ → ℕ
  step q = cond (child used q) (get_or ps q no_place).parent 0

  abbrev fits : ℕ → Bool
  fits = child_at ps ls used claimed going

  abbrev parent : ℕ → ℕ
  parent q = (get_or ps q no_place).parent

  -- what holds before each turn: the places so far fit and where they stand is in up; those known are in use and lead to the floor
  pub record Climbed (up : List ℕ) (known : Set) (rest : Set) : Type 0 where
    pub tested : Tested (child used) (child_at ps ls used claimed going) rest
    pub led : up ≡ tab (below 0 (λ q. 0) (λ q. cond (child used q) (get_or ps q no_place).parent 0) tested.i) 64 0
    pub first : member known 0 ≡ true
    pub inside : (j : ℕ) → member known j ≡ true → member used j ≡ true
    pub leading : Leading (λ q. (get_or ps q no_place).parent) known

  rest_child : Rest (child used) 0 (removed used 0)
  rest_child = record {
    small = r.small;
    end = r.end;
    left = λ j l. r.left j l ∙ ap (λ (b : Bool). leb 0 j && b) (member_removed used 0 j l);
  }
    where
      r : Rest (member (removed used 0)) 0 (removed used 0)
      r = rest_start (removed used 0) (word_lt 64 _)

  no_test : (q : ℕ) → child used q ≡ false → fits q ≡ true
  unfolding child_at
  no_test q e = rw e

  -- the floor is in use, and stands on itself
  module _ (floor : member used 0 ≡ true) (flat : (get_or ps 0 no_place).parent ≡ 0) where
    floor_leads : (n q : ℕ) → member floor_alone q ≡ true → iter parent n q ≡ 0
    floor_leads n q e = iter_stays parent flat 0 n q (omega arith) (unfold iter in (eqb-true q 0 (sym (has_pow 0 q) ∙ e)))

    pub climbed_start : Climbed (replicate 64 0) floor_alone (removed used 0)
    climbed_start = record {
      tested = tested_start (child used) fits (removed used 0) rest_child;
      led = sweep_start 0 (λ q. 0) step (replicate 64 0) (unfold tab in refl);
      first = has_pow 0 0;
      inside = λ j e. ap (member used) (eqb-true j 0 (sym (has_pow 0 j) ∙ e)) ∙ floor;
      leading = λ q e. floor_leads _ q e;
    }

    module _ {up : List ℕ} {known rest : Set} (c : Climbed up known rest) where
      abbrev i : ℕ
      i = c.tested.i

      abbrev left : Rest (child used) i rest
      left = c.tested.left

      -- where nothing is left, all places fit and up is known
      module _ (e : rest.bits ≡ 0) where
        no_child : (j : ℕ) → i ≤ j → j < 64 → child used j ≡ false
        no_child = rest_end (left) e

        pub climbed_fit : all_below (child_at ps ls used claimed going) 64 ≡ true
        climbed_fit = tested_end (child used) fits no_test c.tested e

        climbed_up : up ≡ parents_of ps used
        unfolding parents_of
        climbed_up = sweep_end 0 (λ q. 0) step up 64 refl (sweep_skip 0 (λ q. 0) step up i 64 left.end (λ j h l. rw (no_child j h l)) c.led)

        module _ (b : used.bits < 2 ^ 64) where
          -- where a place in use stands is in use
          closed : (q : ℕ) → member used q ≡ true → member used (parent q) ≡ true
          unfolding child_at child_fits child_stands
          closed q t = go (told (eqb q 0))
            where
              go : Told (eqb q 0) → member used (parent q) ≡ true
              go (yea z) = ap (λ (n : ℕ). member used (parent n)) (eqb-true q 0 z) ∙ ap (member used) flat ∙ floor
              go (nay z) =
                  let fit : child_test ps ls used claimed going q ≡ true = sym (rw (z, t)) ∙ all_at fits 64 q (has_lt 64 used.bits q b t) climbed_fit in
                  and_left (member used (parent q)) _ (and_right (leb 1 (get_or ps q no_place).name.name) _ (and_right (eqb (get_or ls q 0) none || member claimed q) _ fit))

          past : (q : ℕ) → 64 ≤ q → above up q ≡ 0
          unfolding parents_of
          past q l = ap (λ (z : List ℕ). get_or z q 0) climbed_up ∙ get_or-eq_default (tab step 64 0) 0 (subst (λ (n : ℕ). n ≤ q) (sym (length_tab step 64 0)) l)

          noted : (q : ℕ) → q < 64 → above up q ≡ step q
          unfolding parents_of
          noted q l = ap (λ (z : List ℕ). get_or z q 0) climbed_up ∙ get_d_tab step 64 q 0 l

          -- of a place in use up has its parent
          noted_used : (q : ℕ) → member used q ≡ true → above up q ≡ parent q
          noted_used q t = noted q (has_lt 64 used.bits q b t) ∙ go (told (eqb q 0))
            where
              go : Told (eqb q 0) → step q ≡ parent q
              go (yea z) = rw z (sym (ap parent (eqb-true q 0 z) ∙ flat))
              go (nay z) = rw (z, t)

          -- so both lead the same way
          same_way : (n q : ℕ) → member used q ≡ true → iter (above up) n q ≡ iter parent n q
          unfolding iter
          same_way zero q t = refl
          same_way (suc n) q t = ap (iter (above up) n) (noted_used q t) ∙ same_way n (parent q) (closed q t)

          pub climbed_leads : all_lead (above up) used ≡ all_lead (λ q. (get_or ps q no_place).parent) used
          unfolding all_lead
          climbed_leads = all_ext _ _ 64 (λ q l. cond_cong (member used q) _ _ true (λ t. ap (λ (n : ℕ). eqb n 0) (same_way 64 q t)))

          pub climbed_ways : Ways up known
          climbed_ways = record {
            floor = noted 0 (omega arith);
            small = λ q. small q (told (ltb q 64));
            first = c.first;
            leading = λ q t. same_way _ q (c.inside q t) ∙ c.leading q t;
          }
            where
              stood : (q : ℕ) → Told (member used q) → Told (eqb q 0) → step q < 64
              stood q (yea t) (yea z) = rw z (omega arith)
              stood q (yea t) (nay z) = rw (z, t) (has_lt 64 used.bits (parent q) b (closed q t))
              stood q (nay t) (yea z) = rw z (omega arith)
              stood q (nay t) (nay z) = rw (z, t) (omega arith)

              small : (q : ℕ) → Told (ltb q 64) → above up q < 64
              small q (yea l) = subst (λ (n : ℕ). n < 64) (sym (noted q (ltb-true q 64 l))) (stood q (told (member used q)) (told (eqb q 0)))
              small q (nay l) = subst (λ (n : ℕ). n < 64) (sym (past q (ltb-false q 64 l))) (omega arith)

      -- where a place is left: its turn
      module _ (k : 0 < rest.bits) where
        abbrev q : ℕ
        q = lowest_in rest

        abbrev x : Place
        x = get_or ps q no_place

        is_child : child used q ≡ true
        is_child = rest_member (left) k

        led_to : up ≡ tab (below 0 (λ q. 0) step q) 64 0
        led_to = sweep_skip 0 (λ q. 0) step up i q (rest_from (left) k) (λ j h l. rw (rest_skip (left) k j h l)) c.led

        fits_is : fits q ≡ child_test ps ls used claimed going q
        unfolding child_at
        fits_is = rw is_child

        pub climbed_stop : child_test ps ls used claimed going q ≡ false → false ≡ children_fit ps ls used claimed going
        unfolding children_fit
        climbed_stop b = sym (ap (λ (y : Bool). y && all_lead parent used) (tested_stop (child used) fits no_test c.tested k (fits_is ∙ b)))

        pub climbed_more : child_test ps ls used claimed going q ≡ true → Climbed (set up q x.parent) (inserted_if known q (member known x.parent)) (removed rest q)
        climbed_more b = go (member known x.parent) refl
          where
            is_step : x.parent ≡ step q
            is_step = sym (rw is_child)

            l : q < 64
            l = rest_lt (left) k

            inside : (j : ℕ) → (j ≡ q) ⊎ (member known j ≡ true) → member used j ≡ true
            inside j (inl t) = ap (member used) t ∙ and_right (not (eqb q 0)) (member used q) is_child
            inside j (inr t) = c.inside j t

            go : (y : Bool) → member known x.parent ≡ y → Climbed (set up q x.parent) (inserted_if known q y) (removed rest q)
            go true t = record {
              tested = tested_more (child used) fits no_test c.tested k (fits_is ∙ b);
              led = sweep_hit 0 (λ q. 0) step up q x.parent (rest_lt (left) k) is_step led_to;
              first = inserted_keeps known q l 0 (omega arith) c.first;
              inside = λ j e. inside j (inserted_is known q l j e);
              leading = leading_more parent known q flat l t c.leading;
            }
            go false t = record {
              tested = tested_more (child used) fits no_test c.tested k (fits_is ∙ b);
              led = sweep_hit 0 (λ q. 0) step up q x.parent (rest_lt (left) k) is_step led_to;
              first = c.first;
              inside = c.inside;
              leading = c.leading;
            }
