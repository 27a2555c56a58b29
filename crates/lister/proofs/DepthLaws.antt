-- In a sound cell the listing's depth never runs out, so the listing is all of it. Assumes nothing.
-- Idea: 64 steps lead each place to the floor, so a place that is more than 64 levels down does not exist.
use Rattle.std.specs.Prelude.{◌≡◌, refl, ◌≢◌, Bool, true, not, ◌&&◌}
use Rattle.std.proofs.Common.{sym, ◌∙◌}
use Rattle.std.proofs.Math.Path.{ap}
use Prim.Native.Nat.{ℕ, zero, suc, ◌+◌, ◌<◌, ◌≤◌}
use native.Mathlib.Omega.{arith}
use Rattle.std.proofs.Math.Dec.{eqb}
use borrow.Author.Tests.{eqb-true, eqb-false, not-true}
use Rattle.table.specs.Base.{all_below, iter}
use Rattle.table.proofs.BaseLaws.{and_left, and_right, all_at}
use Rattle.table.specs.Cell.{State}
use Rattle.table.specs.Sound.{core_sound, sound, leads, agent_sound, place_sound}
use Rattle.table.proofs.SoundParts.{sound_core}
use Rattle.meaning.specs.Listing.{stands_under, bracketed, agent_texts, place_texts, in_order, contents_text}
use Rattle.lister.proofs.MemberLaws.{texts_ext}

module _ (c : State) (s : sound c ≡ true) where
  -- where a place stands
  abbrev up : ℕ → ℕ
  up q = (c.land.place q).parent

  -- place q stands in p
  abbrev under : ℕ → ℕ → Bool
  under p q = stands_under (c.land.used q) q (up q) p

  -- p is at least n steps from the floor
  Far : ℕ → ℕ → Type 0
  Far n p = (j : ℕ) → j < n → iter up j p ≢ 0

  floor : c.land.used 0 ≡ true
  unfolding core_sound
  floor = and_left (c.land.used 0) (all_below (agent_sound c) 64 && (all_below (place_sound c) 64 && all_below (leads c) 64)) (sound_core c s)

  to_floor : (p : ℕ) → p < 64 → c.land.used p ≡ true → iter up 64 p ≡ 0
  unfolding core_sound
  to_floor p l u = eqb-true (iter up 64 p) 0 (sym (rw u) ∙ all_at (leads c) 64 p l
      (and_right (all_below (place_sound c) 64) (all_below (leads c) 64) (and_right (all_below (agent_sound c) 64) (all_below (place_sound c) 64 && all_below (leads c) 64)
      (and_right (c.land.used 0) (all_below (agent_sound c) 64 && (all_below (place_sound c) 64 && all_below (leads c) 64)) (sound_core c s)))))

  used_under : (p q : ℕ) → under p q ≡ true → c.land.used q ≡ true
  unfolding stands_under
  used_under p q e = and_left (c.land.used q) (not (eqb q 0) && eqb (up q) p) e

  -- what stands in a place is one step further
  farther : (n p q : ℕ) → Far n p → under p q ≡ true → Far (suc n) q
  unfolding Far iter stands_under
  farther n p q h e zero l z = eqb-false q 0 (not-true (eqb q 0) (and_left (not (eqb q 0)) (eqb (up q) p) (and_right (c.land.used q) (not (eqb q 0) && eqb (up q) p) e))) z
  farther n p q h e (suc j) l z =
      let t : up q ≡ p = eqb-true (up q) p (and_right (not (eqb q 0)) (eqb (up q) p) (and_right (c.land.used q) (not (eqb q 0) && eqb (up q) p) e)) in
      h j (omega arith) (ap (iter up j) (sym t) ∙ z)

  -- one level more changes nothing
  deeper : (d n p : ℕ) → p < 64 → c.land.used p ≡ true → Far n p → 65 ≤ n + d → contents_text d c p ≡ contents_text (suc d) c p
  unfolding contents_text place_texts Far
  deeper zero n p l u h k = absurd (h 64 (omega arith) (to_floor p l u))
  deeper (suc d) n p l u h k = ap (in_order (agent_texts c p)) (texts_ext (under p) (under p) _ _ 64 (λ q m. refl) (λ q m e.
      ap (bracketed (c.land.place q).name) (deeper d (suc n) q m (used_under p q e) (farther n p q h e) (omega arith))))

  near : Far 0 0
  unfolding Far
  near j l z = omega arith

  -- any depth from 65 on lists the same
  pub deep_enough : (d : ℕ) → contents_text (65 + d) c 0 ≡ contents_text 65 c 0
  deep_enough zero = refl
  deep_enough (suc d) =
      let e : 65 + suc d ≡ suc (65 + d) = omega arith in
      ap (λ (k : ℕ). contents_text k c 0) e ∙ sym (deeper (65 + d) 0 0 (omega arith) floor near (omega arith)) ∙ deep_enough d
