-- The program's test of the places, after its walk over the agents, is soundness. Assumes nothing.
-- Idea: place by place the two tests are equal.
use Rattle.std.specs.Prelude.{◌≡◌, ◌≢◌, Bool, false, ◌||◌, cond, ℕ, ◌<◌, get_or}
use Rattle.std.proofs.Math.Path.{refl, sym, ap, ap₂}
use Rattle.std.proofs.Common.{◌∙◌, arith, eqb-true, ne_eqb}
use Rattle.std.proofs.Math.Bool.{true, not, ◌&&◌}
use Rattle.std.proofs.Math.Dec.{eqb, leb}
use Rattle.std.proofs.lemmas.Bool.{eqb-false}
use Rattle.sets.specs.Word.{bit, has}
use Rattle.sets.specs.Set.{member}
use Rattle.sets.specs.declared.Set.{Set}
use Rattle.table.specs.Base.{all_below, any_below, count_below}
use Rattle.table.proofs.BaseLaws.{Told, yea, nay, told, and_left, and_right, and_cong, cond_cong, same_test, all_at, all_yes}
use Rattle.table.specs.Cell.{none, no_place, State, cell_of}
use Rattle.table.specs.Sound.{claims, goes, nameless, place_fits, place_sound, leads, core_sound}
use Rattle.soundness.specs.Pass.{all_lead, floor_stands, floor_fits, floor_sound, child_stands, child_fits, child_test, child_at, children_fit, lands_fit}
use Rattle.soundness.proofs.PassLaws.{Passed, passed_fit, passed_held, passed_moved}
use Rattle.table.specs.declared.Cell.{Cell}
use Rattle.table.specs.declared.Place.{Place}

-- ---- tests

and_assoc : (a b d : Bool) → (a && (b && d)) ≡ (a && b && d)
and_assoc true b d = refl
and_assoc false b d = refl

-- none or one, as tests
none_moved : (g : Bool) → not g ≡ eqb (bit g) 0
none_moved true = refl
none_moved false = refl

one_moved : (g still : Bool) → cond still (not g) g ≡ eqb (bit g) (cond still 0 1)
one_moved true true = refl
one_moved true false = refl
one_moved false true = refl
one_moved false false = refl

-- a test of all numbers, the first taken by itself
all_first : (P Q : ℕ → Bool) (n : ℕ) → 0 < n → P 0 ≡ true → ((j : ℕ) → j < n → j ≢ 0 → P j ≡ Q j) → (Q 0 && all_below P n) ≡ all_below Q n
all_first P Q n l z h = same_test (Q 0 && all_below P n) (all_below Q n)
    (λ e. all_yes Q n (λ j k. there e j k (told (eqb j 0))))
    (λ e. ap₂ ◌&&◌ (all_at Q n 0 l e) (all_yes P n (λ j k. back e j k (told (eqb j 0)))))
  where
    there : (Q 0 && all_below P n) ≡ true → (j : ℕ) → j < n → Told (eqb j 0) → Q j ≡ true
    there e j k (yea t) = ap Q (eqb-true j 0 t) ∙ and_left (Q 0) (all_below P n) e
    there e j k (nay t) = sym (h j k (eqb-false j 0 t)) ∙ all_at P n j k (and_right (Q 0) (all_below P n) e)

    back : all_below Q n ≡ true → (j : ℕ) → j < n → Told (eqb j 0) → P j ≡ true
    back e j k (yea t) = ap P (eqb-true j 0 t) ∙ z
    back e j k (nay t) = h j k (eqb-false j 0 t) ∙ all_at Q n j k e

-- ---- places

module _ (c : Cell) where
  abbrev u : ℕ → Bool
  u = has c.used.bits

  abbrev w : State
  w = cell_of c

  abbrev place : ℕ → Place
  place q = get_or c.places q no_place

  module _ (claimed going : Set) (held : (q : ℕ) → q < 64 → member claimed q ≡ any_below (claims w q) 64)
      (moved : (q : ℕ) → q < 64 → bit (member going q) ≡ count_below (goes w q) 64) where
    floor_same : floor_fits (place 0) (get_or c.locks 0 0) (member claimed 0) (member going 0) ≡ place_fits w 0
    unfolding floor_fits floor_stands place_fits cell_of
    floor_same = ap₂ ◌&&◌ (ap (◌||◌ (eqb (get_or c.locks 0 0) none)) (held 0 (omega arith)))
        (ap (λ (b : Bool). nameless (place 0).name && (eqb (place 0).parent 0 && (not (eqb (place 0).way 0) && b))) (none_moved (member going 0) ∙ ap (λ (n : ℕ). eqb n 0) (moved 0 (omega arith)))
        ∙ ap (◌&&◌ (nameless (place 0).name)) (and_assoc (eqb (place 0).parent 0) (not (eqb (place 0).way 0)) (eqb (count_below (goes w 0) 64) 0))
        ∙ and_assoc (nameless (place 0).name) (eqb (place 0).parent 0 && not (eqb (place 0).way 0)) (eqb (count_below (goes w 0) 64) 0))

    child_same : (q : ℕ) → q < 64 → q ≢ 0 → child_test c.places c.locks c.used claimed going q ≡ place_fits w q
    unfolding child_fits child_stands place_fits cell_of
    child_same q l n = rw (ne_eqb q 0 n)
        (ap₂ ◌&&◌ (ap (◌||◌ (eqb (get_or c.locks q 0) none)) (held q l))
        (ap (λ (b : Bool). leb 1 (place q).name.name && (u (place q).parent && b)) (one_moved (member going q) (eqb (place q).way 0) ∙ ap (λ (k : ℕ). eqb k (cond (eqb (place q).way 0) 0 1)) (moved q l))
        ∙ and_assoc (leb 1 (place q).name.name) (u (place q).parent) (eqb (count_below (goes w q) 64) (cond (eqb (place q).way 0) 0 1))))

    places_same : u 0 ≡ true → (floor_fits (place 0) (get_or c.locks 0 0) (member claimed 0) (member going 0) && all_below (child_at c.places c.locks c.used claimed going) 64) ≡ all_below (place_sound w) 64
    unfolding child_at
    places_same f = ap (λ (b : Bool). b && all_below (child_at c.places c.locks c.used claimed going) 64) (floor_same ∙ sym (first f))
        ∙ all_first (child_at c.places c.locks c.used claimed going) (place_sound w) 64 (omega arith) refl others
      where
        first : u 0 ≡ true → place_sound w 0 ≡ place_fits w 0
        first f = unfold cell_of in rw f

        others : (q : ℕ) → q < 64 → q ≢ 0 → child_at c.places c.locks c.used claimed going q ≡ place_sound w q
        others q l n = unfold cell_of in rw (ne_eqb q 0 n) (cond_cong (u q) _ _ true (λ e. child_same q l n))

  -- the whole, once nobody is left
  pub lands_same : (claimed going rest : Set) → Passed c claimed going rest → rest.bits ≡ 0 → lands_fit c.places c.locks c.used claimed going ≡ core_sound (cell_of c)
  unfolding lands_fit floor_sound children_fit all_lead core_sound cell_of
  lands_same claimed going rest p e =
      let held = passed_held c claimed going rest p e in
      let moved = passed_moved c claimed going rest p e in
      sym (and_assoc (u 0) (floor_fits (place 0) (get_or c.locks 0 0) (member claimed 0) (member going 0)) (children_fit c.places c.locks c.used claimed going))
      ∙ and_cong (u 0) _ _ (λ f.
      and_assoc (floor_fits (place 0) (get_or c.locks 0 0) (member claimed 0) (member going 0)) (all_below (child_at c.places c.locks c.used claimed going) 64) (all_lead (λ q. (get_or c.places q no_place).parent) c.used)
      ∙ ap (λ (b : Bool). b && all_lead (λ q. (get_or c.places q no_place).parent) c.used) (places_same claimed going held moved f)
      ∙ sym (ap (λ (b : Bool). b && (all_below (place_sound w) 64 && all_below (leads w) 64)) (passed_fit c claimed going rest p e)))
