-- The sets that are found of a cell say what the cell says. Assumes nothing.
-- Idea: a member of the set of p is a place that stands in p, or an agent that is listed in p; 64 is no place.
use Rattle.std.specs.Prelude.{◌≡◌, refl, Bool, true, false, not, ◌&&◌, ℕ, ◌<◌, ◌≤◌, length}
use Rattle.std.proofs.Math.Path.{ap}
use Rattle.std.proofs.Common.{◌∙◌, arith, ne_eqb}
use Rattle.std.proofs.Math.Bool.{cond}
use mathlib.Core.List.{List}
use Rattle.std.proofs.Math.Dec.{eqb}
use Rattle.std.proofs.Math.ListN.{get_or}
use Rattle.sets.specs.Set.{member, empty_set}
use Rattle.sets.proofs.SetLaws.{member_set}
use Rattle.sets.specs.declared.Set.{Set}
use Rattle.table.proofs.BaseLaws.{get_d_tab}
use Rattle.table.specs.Cell.{cell_of, no_place, no_agent, has_unused}
use Rattle.table.specs.Bounds.{Names16}
use Rattle.table.specs.declared.Cell.{Cell}
use Rattle.meaning.specs.Listing.{lists_in, stands_under}
use Rattle.lengths.specs.Longest.{longest_listing}
use Rattle.lengths.proofs.ListingLength.{listing_longest}
use Rattle.lister.specs.Listed.{parents_of, is_listed, homes_of, grouped_of, agent_on}
use Rattle.lister.specs.Sheet.{Shown, Drawn, floor_on}
use Rattle.lister.proofs.SheetLaws.{floor_is}

-- x is in the set of p
in_set : (s : Set) (keys : List ℕ) (p x : ℕ) → p < 64 → x < 64 → member (get_or (grouped_of s keys) p empty_set) x ≡ (member s x && eqb (get_or keys x 0) p)
unfolding grouped_of
in_set s keys p x l m = ap (λ (w : Set). member w x) (get_d_tab _ 64 p empty_set l) ∙ member_set (λ y. member s y && eqb (get_or keys y 0) p) x m

no_place_lem : (p : ℕ) → p < 64 → eqb 64 p ≡ false
no_place_lem p l = ne_eqb 64 p (λ e. omega arith)

-- the floor's key is none
stands_so : (u z : Bool) (parent p : ℕ) → p < 64 → (u && eqb (cond z 64 parent) p) ≡ (u && (not z && eqb parent p))
stands_so true true parent p l = no_place_lem p l
stands_so true false parent p l = refl
stands_so false z parent p l = refl

-- an agent that is not listed has none
lives_so : (g a : Bool) (home p : ℕ) → p < 64 → (g && eqb (cond (g && a) home 64) p) ≡ (g && (a && eqb home p))
lives_so true true home p l = refl
lives_so true false home p l = no_place_lem p l
lives_so false a home p l = refl

module _ (t : Cell) {places agents : List Set} (s : places ≡ grouped_of t.used (parents_of t.places)) (v : agents ≡ grouped_of t.given (homes_of t.given t.agents)) where
  stands : (p q : ℕ) → p < 64 → q < 64 → member (get_or places p empty_set) q ≡ stands_under ((cell_of t).land.used q) q ((cell_of t).land.place q).parent p
  stands p q l m =
      let k : get_or (parents_of t.places) q 0 ≡ cond (eqb q 0) 64 (get_or t.places q no_place).parent = unfold parents_of in get_d_tab _ 64 q 0 m in
      ap (λ (w : List Set). member (get_or w p empty_set) q) s ∙ in_set t.used (parents_of t.places) p q l m
      ∙ ap (λ (k : ℕ). member t.used q && eqb k p) k ∙ unfold cell_of stands_under in stands_so (member t.used q) (eqb q 0) (get_or t.places q no_place).parent p l

  lives : (p x : ℕ) → p < 64 → x < 64 → member (get_or agents p empty_set) x ≡ lists_in ((cell_of t).given x) ((cell_of t).agent x) p
  lives p x l m =
      let k : get_or (homes_of t.given t.agents) x 0 ≡ cond (is_listed t.given t.agents x) (get_or t.agents x no_agent).home 64 = unfold homes_of in get_d_tab _ 64 x 0 m in
      ap (λ (w : List Set). member (get_or w p empty_set) x) v ∙ in_set t.given (homes_of t.given t.agents) p x l m
      ∙ ap (λ (k : ℕ). member t.given x && eqb k p) k ∙ unfold cell_of lists_in in lives_so (member t.given x) (has_unused (get_or t.agents x no_agent)) (get_or t.agents x no_agent).home p l

  pub drawn : Drawn (cell_of t) (record {
    stands = λ p. member (get_or places p empty_set);
    lives = λ p. member (get_or agents p empty_set);
    name = λ q. (get_or t.places q no_place).name;
    text = agent_on t;
  })
  drawn = record {
    stands = stands;
    lives = lives;
    name = λ q m e. unfold cell_of in refl;
    text = λ p x m e. unfold cell_of in refl;
  }

-- no floor's text is longer than the longest listing
pub drawn_short : (t : Cell) {h : Shown} → Names16 t → Drawn (cell_of t) h → length (floor_on h) ≤ longest_listing
drawn_short t b d = let e = ap length (floor_is d) in omega (arith, listing_longest t b)
