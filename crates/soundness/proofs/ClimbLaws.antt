-- The walk over the places comes to what soundness asks of them. Assumes nothing.
-- Idea: before each turn the floor and all places so far fit, which is `Climbed`.
use Rattle.std.specs.Prelude.{◌≡◌, Bool, true, false, ◌&&◌, ◌||◌, List, ℕ, ◌<◌, ◌^◌, eqb, get_or, set, replicate, Some}
use Rattle.std.proofs.Common.{sym, ap, ◌∙◌, subst, eqb-true}
use Rattle.sets.specs.Set.{member, inserted_if, removed}
use Rattle.sets.specs.Walk.{lowest_in, TakesLowest}
use Rattle.sets.specs.declared.Set.{Set}
use Rattle.table.proofs.BaseLaws.{and_left, and_right}
use Rattle.table.specs.Cell.{none, no_place}
use Rattle.table.specs.Sound.{nameless}
use Rattle.table.specs.declared.Place.{Place}
use Rattle.soundness.specs.Lead.{above, Ways, floor_alone}
use Rattle.soundness.specs.Pass.{all_lead, floor_stands, floor_fits, floor_sound, child_test, children_fit, lands_fit}
use Rattle.soundness.proofs.LandLaws.{Climbed, climbed_start, climbed_fit, climbed_ways, climbed_leads, climbed_stop, climbed_more}

module _ (ps : List Place) (ls : List ℕ) (used claimed going : Set) where
  -- a floor that is not as it should be
  pub floor_falls : floor_sound (get_or ps 0 no_place) (get_or ls 0 0) used claimed going ≡ false → false ≡ lands_fit ps ls used claimed going
  unfolding lands_fit
  floor_falls e = sym (ap (λ (y : Bool). y && children_fit ps ls used claimed going) e)

  module _ (floor : floor_sound (get_or ps 0 no_place) (get_or ls 0 0) used claimed going ≡ true) where
    -- the others decide
    decided : children_fit ps ls used claimed going ≡ lands_fit ps ls used claimed going
    unfolding lands_fit
    decided = sym (ap (λ (y : Bool). y && children_fit ps ls used claimed going) floor)

    -- the floor is in use, and stands on itself
    floor_used : member used 0 ≡ true
    unfolding floor_sound
    floor_used = and_left (member used 0) _ floor

    floor_flat : (get_or ps 0 no_place).parent ≡ 0
    unfolding floor_sound floor_fits floor_stands
    floor_flat = let x = get_or ps 0 no_place in
        eqb-true x.parent 0 (and_left (eqb x.parent 0) _ (and_right (nameless x.name) _ (and_right (eqb (get_or ls 0 0) none || member claimed 0) _ (and_right (member used 0) _ floor))))

    pub climb_start : Climbed ps ls used claimed going (replicate 64 0) floor_alone (removed used 0)
    climb_start = climbed_start ps ls used claimed going floor_used floor_flat

    module _ {up : List ℕ} {known rest : Set} (c : Climbed ps ls used claimed going up known rest) where
      -- a turn
      module _ {q : ℕ} {left : Set} (s : TakesLowest rest (Some q) left) where
        lowest : (b : Bool) → child_test ps ls used claimed going q ≡ b → child_test ps ls used claimed going (lowest_in rest) ≡ b
        lowest b e = subst (λ (n : ℕ). child_test ps ls used claimed going n ≡ b) s.1.0 e

        pub climb_stop : child_test ps ls used claimed going q ≡ false → false ≡ lands_fit ps ls used claimed going
        climb_stop e = climbed_stop ps ls used claimed going floor_used floor_flat c s.0 (lowest false e) ∙ decided

        pub climb_turn : child_test ps ls used claimed going q ≡ true
            → Climbed ps ls used claimed going (set up q (get_or ps q no_place).parent) (inserted_if known q (member known (get_or ps q no_place).parent)) left
        climb_turn e =
            subst (λ (z : Set). Climbed ps ls used claimed going (set up q (get_or ps q no_place).parent) (inserted_if known q (member known (get_or ps q no_place).parent)) z) (sym s.1.1)
            (subst (λ (n : ℕ). Climbed ps ls used claimed going (set up n (get_or ps n no_place).parent) (inserted_if known n (member known (get_or ps n no_place).parent)) (removed rest n)) (sym s.1.0)
            (climbed_more ps ls used claimed going floor_used floor_flat c s.0 (lowest true e)))

      -- none is left
      module _ (e : rest.bits ≡ 0) (b : used.bits < 2 ^ 64) where
        pub climb_ways : Ways up known
        climb_ways = climbed_ways ps ls used claimed going floor_used floor_flat c e b

        pub climb_ends : all_lead (above up) used ≡ lands_fit ps ls used claimed going
        unfolding children_fit
        climb_ends =
            climbed_leads ps ls used claimed going floor_used floor_flat c e b
            ∙ sym (ap (λ (y : Bool). y && all_lead (λ q. (get_or ps q no_place).parent) used) (climbed_fit ps ls used claimed going floor_used floor_flat c e))
            ∙ decided
