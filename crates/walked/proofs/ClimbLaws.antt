-- The walk over the places, turn by turn, comes to what soundness asks of them. Assumes nothing.
-- Idea: before each turn the floor and all places so far fit, which is `Climbed`, or the places are not as they should be and the walk is at its end.
use Rattle.std.specs.Prelude.{◌≡◌, ◌≢◌, ◌⊎◌, Bool, ◌&&◌, ◌||◌, cond, List, ℕ, ◌+◌, ◌≤◌, ◌<◌, ◌^◌, eqb, set, replicate}
use Rattle.std.proofs.Math.Path.{refl, sym, ap}
use Rattle.std.proofs.Common.{◌∙◌, subst, pos_of_ne-zero}
use Rattle.std.proofs.Math.Logic.{inl, inr}
use Rattle.std.proofs.Math.Bool.{true, false}
use native.Mathlib.Omega.{arith}
use Rattle.std.proofs.Math.ListN.{get_or}
use borrow.Author.Tests.{eqb-true}
use Rattle.sets.specs.Word.{has}
use Rattle.sets.proofs.WordLaws.{has_none}
use Rattle.sets.specs.Set.{member, inserted_if, removed}
use Rattle.sets.proofs.WalkLaws.{rest_lt, removed_less, lowest_found}
use Rattle.sets.specs.Walk.{lowest_in}
use Rattle.sets.specs.declared.Set.{Set}
use Rattle.table.proofs.BaseLaws.{clash, eq?, and_left, and_right}
use Rattle.table.specs.Cell.{none, no_place}
use Rattle.table.specs.Sound.{nameless}
use Rattle.table.specs.declared.Cell.{Cell}
use Rattle.table.specs.declared.Place.{Place}
use Rattle.soundness.specs.Lead.{above, floor_alone}
use Rattle.soundness.specs.Pass.{all_lead, floor_stands, floor_fits, floor_sound, child_fits, child_test, children_fit, lands_fit}
use Rattle.soundness.proofs.LandLaws.{Climbed, climbed_start, climbed_fit, climbed_ways, climbed_leads, climbed_stop, climbed_more}
use Rattle.walked.specs.Glances.{Walk}
use Rattle.walked.proofs.LandLaws.{floor_decides}
use Rattle.walked.specs.Climbs.{Climb, climbing_at, halted_here, floored_of, placed_of, Led}

-- what gets less with each turn
abbrev pub left : Climb → ℕ
left l = cond l.fit (l.rest.bits + 1) 0

module _ (c : Cell) (w : Walk) where
  -- what the agents and the places say together
  abbrev pub whole : Bool
  whole = w.fit && lands_fit c.places c.locks c.used w.claimed w.going

  pub record Up (l : Climb) (up : List ℕ) : Type 0 where
    pub rest : Set
    pub known : Set
    pub is : l ≡ climbing_at c.used rest w.claimed w.going known
    pub agents : w.fit ≡ true
    pub floor : floor_sound (get_or c.places 0 no_place) (get_or c.locks 0 0) c.used w.claimed w.going ≡ true
    pub climbed : Climbed c.places c.locks c.used w.claimed w.going up known rest

  pub record Down (l : Climb) : Type 0 where
    pub is : l ≡ halted_here
    pub why : false ≡ (w.fit && lands_fit c.places c.locks c.used w.claimed w.going)

  abbrev pub Climbs : Climb → List ℕ → Type 0
  Climbs l up = Up l up ⊎ Down l

  -- once the floor fits the others decide
  decided : w.fit ≡ true → floor_sound (get_or c.places 0 no_place) (get_or c.locks 0 0) c.used w.claimed w.going ≡ true
      → children_fit c.places c.locks c.used w.claimed w.going ≡ whole
  decided f e = floor_decides c.places c.locks c.used w.claimed w.going true e ∙ sym (ap (λ (b : Bool). b && lands_fit c.places c.locks c.used w.claimed w.going) f)

  -- the floor is in use, and stands on itself
  floor_used : floor_sound (get_or c.places 0 no_place) (get_or c.locks 0 0) c.used w.claimed w.going ≡ true → member c.used 0 ≡ true
  unfolding floor_sound
  floor_used e = and_left (member c.used 0) _ e

  floor_flat : floor_sound (get_or c.places 0 no_place) (get_or c.locks 0 0) c.used w.claimed w.going ≡ true → (get_or c.places 0 no_place).parent ≡ 0
  unfolding floor_sound floor_fits floor_stands
  floor_flat e = let x = get_or c.places 0 no_place in
      eqb-true x.parent 0 (and_left (eqb x.parent 0) _ (and_right (nameless x.name) _ (and_right (eqb (get_or c.locks 0 0) none || member w.claimed 0) _ (and_right (member c.used 0) _ e))))

  pub floored_climbs : Climbs (floored_of w c.used (get_or c.places 0 no_place) (get_or c.locks 0 0)) (replicate 64 0)
  unfolding floored_of
  floored_climbs = go w.fit (floor_sound (get_or c.places 0 no_place) (get_or c.locks 0 0) c.used w.claimed w.going) refl refl
    where
      go : (f b : Bool) → w.fit ≡ f → floor_sound (get_or c.places 0 no_place) (get_or c.locks 0 0) c.used w.claimed w.going ≡ b
          → Climbs (cond f (cond b (climbing_at c.used (removed c.used 0) w.claimed w.going floor_alone) halted_here) halted_here) (replicate 64 0)
      go true true e s = inl (record {
        rest = removed c.used 0;
        known = floor_alone;
        is = refl;
        agents = e;
        floor = s;
        climbed = climbed_start c.places c.locks c.used w.claimed w.going (floor_used s) (floor_flat s);
      })
      go true false e s = inr (record {
        is = refl;
        why = floor_decides c.places c.locks c.used w.claimed w.going false s ∙ sym (ap (λ (b : Bool). b && lands_fit c.places c.locks c.used w.claimed w.going) e);
      })
      go false b e s = inr (record { is = refl; why = sym (ap (λ (b : Bool). b && lands_fit c.places c.locks c.used w.claimed w.going) e) })

  -- ---- a turn
  module _ (rest known : Set) (up : List ℕ) (f : w.fit ≡ true) (s : floor_sound (get_or c.places 0 no_place) (get_or c.locks 0 0) c.used w.claimed w.going ≡ true)
      (u : Climbed c.places c.locks c.used w.claimed w.going up known rest) (l : lowest_in rest < 64) where
    abbrev q : ℕ
    q = lowest_in rest

    abbrev x : Place
    x = get_or c.places q no_place

    k : 0 < rest.bits
    k = pos_of_ne-zero (λ e. clash (lowest_found 64 (member rest) l) (ap (λ (n : ℕ). has n q) e ∙ has_none q))

    placed_on : Climbs (placed_of (climbing_at c.used rest w.claimed w.going known) x (get_or c.locks q 0)) (set up q x.parent)
    unfolding placed_of
    placed_on = go (child_test c.places c.locks c.used w.claimed w.going q) refl
      where
        go : (b : Bool) → child_test c.places c.locks c.used w.claimed w.going q ≡ b
            → Climbs (cond b (climbing_at c.used (removed rest q) w.claimed w.going (inserted_if known q (member known x.parent))) halted_here) (set up q x.parent)
        go true e = inl (record {
          rest = removed rest q;
          known = inserted_if known q (member known x.parent);
          is = refl;
          agents = f;
          floor = s;
          climbed = climbed_more c.places c.locks c.used w.claimed w.going (floor_used s) (floor_flat s) u k e;
        })
        go false e = inr (record { is = refl; why = climbed_stop c.places c.locks c.used w.claimed w.going (floor_used s) (floor_flat s) u k e ∙ decided f s })

    placed_fewer : (y : Place) (n : ℕ) → left (placed_of (climbing_at c.used rest w.claimed w.going known) y n) < rest.bits + 1
    unfolding placed_of
    placed_fewer y n = go (child_fits y n (member c.used y.parent) (member w.claimed q) (member w.going q))
      where
        go : (b : Bool) → left (cond b (climbing_at c.used (removed rest q) w.claimed w.going (inserted_if known q (member known y.parent))) halted_here) < rest.bits + 1
        go true = let h = removed_less rest u.tested.left.small k in omega (arith, h)
        go false = omega arith

  module _ (l : Climb) (up : List ℕ) where
    down_ends : Down l → l.at < 64 → ⊥
    down_ends d h = let e = ap (λ (z : Climb). z.at) d.is in omega arith

    module _ (h : l.at < 64) where
      pub placed_climbs : Climbs l up → Climbs (placed_of l (get_or c.places l.at no_place) (get_or c.locks l.at 0)) (set up l.at (get_or c.places l.at no_place).parent)
      placed_climbs (inr d) = absurd (down_ends d h)
      placed_climbs (inl o) = subst (λ (z : Climb). Climbs (placed_of z (get_or c.places z.at no_place) (get_or c.locks z.at 0)) (set up z.at (get_or c.places z.at no_place).parent)) (sym o.is)
          (placed_on o.rest o.known up o.agents o.floor o.climbed (subst (λ (z : Climb). z.at < 64) o.is h))

      pub placed_less : Climbs l up → (y : Place) (n : ℕ) → left (placed_of l y n) < left l
      placed_less (inr d) y n = absurd (down_ends d h)
      placed_less (inl o) y n = subst (λ (z : Climb). left (placed_of z y n) < left z) (sym o.is)
          (placed_fewer o.rest o.known up o.agents o.floor o.climbed (subst (λ (z : Climb). z.at < 64) o.is h) y n)

    -- ---- none is left
    module _ (h : 64 ≤ l.at) where
      empty : (o : Up l up) → o.rest.bits ≡ 0
      empty o = none (eq? o.rest.bits 0)
        where
          none : (o.rest.bits ≡ 0) ⊎ (o.rest.bits ≢ 0) → o.rest.bits ≡ 0
          none (inl e) = e
          none (inr n) = absurd (let k = rest_lt o.climbed.tested.left (pos_of_ne-zero n) in let e = ap (λ (z : Climb). z.at) o.is in omega arith)

      module _ (b : c.used.bits < 2 ^ 64) where
        pub climb_led : Climbs l up → Led l up
        climb_led (inr d) t = clash t (ap (λ (z : Climb). z.fit) d.is)
        climb_led (inl o) t = subst (λ (z : Climb). Led z up) (sym o.is)
            (λ t'. climbed_ways c.places c.locks c.used w.claimed w.going (floor_used o.floor) (floor_flat o.floor) o.climbed (empty o) b) t

        pub climb_ends : Climbs l up → (l.fit && all_lead (above up) l.used) ≡ (w.fit && lands_fit c.places c.locks c.used w.claimed w.going)
        unfolding children_fit
        climb_ends (inr d) = ap (λ (z : Climb). z.fit && all_lead (above up) z.used) d.is ∙ d.why
        climb_ends (inl o) = ap (λ (z : Climb). z.fit && all_lead (above up) z.used) o.is
            ∙ climbed_leads c.places c.locks c.used w.claimed w.going (floor_used o.floor) (floor_flat o.floor) o.climbed (empty o) b
            ∙ sym (ap (λ (y : Bool). y && all_lead (λ q. (get_or c.places q no_place).parent) c.used)
            (climbed_fit c.places c.locks c.used w.claimed w.going (floor_used o.floor) (floor_flat o.floor) o.climbed (empty o)))
            ∙ decided o.agents o.floor
