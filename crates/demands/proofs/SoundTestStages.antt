-- What an agent holds and where it goes from, by its stage: the numbers of the test and the propositions say the same.
-- By cases on the ranges of the stage, each range test kept as an equation.
use Rattle.std.specs.Prelude.{◌≡◌, refl, ◌≢◌, Bool, true, false, ◌||◌, cond, ℕ, ◌≤◌, ltb, leb, eqb}
use Rattle.std.proofs.Common.{sym, ◌∙◌, arith}
use Rattle.std.proofs.Math.Path.{ap}
use borrow.Author.Tests.{eqb-true, eq-eqb, ltb-false, le-ltb, leb-true, le-leb, lt-leb}
use Rattle.table.proofs.BaseLaws.{Told, yea, nay, told}
use Rattle.table.specs.Cell.{Land, State, none, kind_of, holding, holding_both, on_way_own, on_way_both}
use Rattle.table.specs.Sound.{first_held, second_place, second_held, second_held_in, stands_in, going_from}
use Rattle.table.specs.declared.Agent.{Agent}
use Rattle.demands.specs.Reading.{parent_in}
use Rattle.demands.specs.Invariant.{Holds, near, far, own, destination, Travels}

-- where a place stands, in the test and in the proposition
pub stands_parent : (l : Land) (q : ℕ) → l.used q ≡ true → stands_in l q ≡ parent_in l q
unfolding parent_in
stands_parent l q u = rw u

or_left : (b d : Bool) → b ≡ true → (b || d) ≡ true
or_left b d e = rw e

pub or_right : (b d : Bool) → d ≡ true → (b || d) ≡ true
or_right true d e = refl
or_right false d e = e

module _ (a : Agent) where
  -- ---- at one stage

  -- the place taken first, and second, at stage n
  abbrev pub first_at : ℕ → ℕ
  first_at n = cond (ltb n holding) none (cond (leb n holding_both) a.remembered (cond (ltb n on_way_own) none (cond (leb n on_way_both) a.home none)))

  abbrev pub second_at : ℕ → ℕ → ℕ
  second_at d n = cond (eqb n holding_both) (second_place (kind_of a) a.home a.chosen) (cond (eqb n on_way_both) d none)

  -- they are what the test reads
  pub first_at_lem : (n : ℕ) → a.stage ≡ n → first_held a ≡ first_at n
  unfolding first_held
  first_at_lem n e = ap first_at e

  pub second_at_lem : (d n : ℕ) → a.stage ≡ n → second_held a (kind_of a) d ≡ second_at d n
  unfolding second_held
  second_at_lem d n e = ap (second_at d) e

  -- ---- what it holds

  first_near : 2 ≤ a.stage → a.stage ≤ 3 → first_held a ≡ a.remembered
  unfolding first_held
  first_near lo hi = rw (le-ltb a.stage 2 lo, le-leb a.stage 3 hi)

  first_own : 5 ≤ a.stage → a.stage ≤ 6 → first_held a ≡ a.home
  unfolding first_held
  first_own lo hi = rw (le-ltb a.stage 2 (omega arith), lt-leb a.stage 3 (omega arith), le-ltb a.stage 5 lo, le-leb a.stage 6 hi)

  -- what its stage holds is one of the two numbers
  pub holds_true : (c : State) (q : ℕ) → c.land.used a.home ≡ true → Holds c.land a q
      → (eqb q (first_held a) || eqb q (second_held_in c a)) ≡ true
  holds_true c q u h = go h
    where
      first : q ≡ first_held a → (eqb q (first_held a) || eqb q (second_held_in c a)) ≡ true
      first e = or_left (eqb q (first_held a)) _ (eq-eqb q (first_held a) e)

      second : q ≡ second_held_in c a → (eqb q (first_held a) || eqb q (second_held_in c a)) ≡ true
      second e = or_right (eqb q (first_held a)) _ (eq-eqb q (second_held_in c a) e)

      go : Holds c.land a q → (eqb q (first_held a) || eqb q (second_held_in c a)) ≡ true
      go (near lo hi e) = first (e ∙ sym (first_near lo hi))
      go (far s e) = second (e ∙ sym (second_at_lem (stands_in c.land a.home) 3 s))
      go (own lo hi e) = first (e ∙ sym (first_own lo hi))
      go (destination s e) = second (e ∙ sym (stands_parent c.land a.home u) ∙ sym (second_at_lem (stands_in c.land a.home) 6 s))

  -- and the other way round
  pub first_holds : (l : Land) (q : ℕ) → q ≡ first_held a → q ≢ none → Holds l a q
  unfolding first_held
  first_holds l q p n = go (told (ltb a.stage 2)) (told (leb a.stage 3)) (told (ltb a.stage 5)) (told (leb a.stage 6))
    where
      go : Told (ltb a.stage 2) → Told (leb a.stage 3) → Told (ltb a.stage 5) → Told (leb a.stage 6) → Holds l a q
      go (yea e) _ _ _ = absurd (n (p ∙ rw e))
      go (nay e) (yea f) _ _ = near (ltb-false _ _ e) (leb-true _ _ f) (p ∙ rw (e, f))
      go (nay e) (nay f) (yea g) _ = absurd (n (p ∙ rw (e, f, g)))
      go (nay e) (nay f) (nay g) (yea h) = own (ltb-false _ _ g) (leb-true _ _ h) (p ∙ rw (e, f, g, h))
      go (nay e) (nay f) (nay g) (nay h) = absurd (n (p ∙ rw (e, f, g, h)))

  pub second_holds : (c : State) (q : ℕ) → c.land.used a.home ≡ true → q ≡ second_held_in c a → q ≢ none → Holds c.land a q
  unfolding second_held
  second_holds c q u p n = go (told (eqb a.stage 3)) (told (eqb a.stage 6))
    where
      go : Told (eqb a.stage 3) → Told (eqb a.stage 6) → Holds c.land a q
      go (yea e) _ = far (eqb-true _ _ e) (p ∙ rw e)
      go (nay e) (yea f) = destination (eqb-true _ _ f) (p ∙ rw (e, f, stands_parent c.land a.home u))
      go (nay e) (nay f) = absurd (n (p ∙ rw (e, f)))

  -- ---- where it goes from

  -- an agent at stages 4 to 6 goes from its home, and one that goes from a place is at these stages and lives there
  pub travels_true : Travels a → going_from a ≡ a.home
  unfolding going_from
  travels_true t = rw (le-ltb a.stage 4 t.from, le-leb a.stage 6 t.to)

  pub travels_holds : (q : ℕ) → q ≡ going_from a → q ≢ none → (a.home ≡ q) × Travels a
  unfolding going_from
  travels_holds q p n = go (told (ltb a.stage 4)) (told (leb a.stage 6))
    where
      go : Told (ltb a.stage 4) → Told (leb a.stage 6) → (a.home ≡ q) × Travels a
      go (yea e) _ = absurd (n (p ∙ rw e))
      go (nay e) (yea f) = (sym (p ∙ rw (e, f)), record { from = ltb-false _ _ e; to = leb-true _ _ f })
      go (nay e) (nay f) = absurd (n (p ∙ rw (e, f)))
