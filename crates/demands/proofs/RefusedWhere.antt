-- A question where a place is is refused with 10, 3 or 5, each exactly under its condition.
-- Idea: by the tests of the call; where all are passed a place or none is answered.
use Rattle.std.specs.Prelude.{◌≡◌, ◌⊎◌, Bool, true, false, cond, ℕ, ◌≤◌, ◌<◌, leb, eqb}
use Rattle.std.proofs.Common.{sym, ◌∙◌, inl, inr, leb-true, leb-false}
use Rattle.table.proofs.BaseLaws.{Told, yea, nay, told}
use Rattle.table.specs.Cell.{none, cell_of}
use Rattle.table.specs.Sound.{sound}
use Rattle.table.specs.declared.Cell.{Cell}
use Rattle.meaning.specs.Answers.{Found, At, Nowhere, Unfound}
use Rattle.meaning.specs.Refusals.{place_too_large, not_yet_given, unsound_table}
use Rattle.meaning.specs.Where.{parent_of, place_name, nearest, common, found_place, nearest_of, common_of}
use Rattle.meaning.proofs.WhereLaws.{nearest_unsound, nearest_large, nearest_unused, nearest_used, common_unsound, common_large, common_unused, common_used}
use Rattle.demands.specs.Refusals.{nearest_call, common_call, Grounds, nearest_10, nearest_3, nearest_5, common_10, common_3, common_5}
use Rattle.demands.proofs.RefusedLaws.{never, of}

-- a place that was found, or none, is no refusal
not_refused : {A : Type 0} (b : Bool) (p number : ℕ) → ◌≡◌ {A = Found} (cond b Nowhere (At p)) (Unfound number) → A
not_refused true p number e = never (cc)
not_refused false p number e = never (cc)

answers : {A : Type 0} (p number : ℕ) → found_place p ≡ Unfound number → A
answers p number e = not_refused (eqb p none) p number e

-- from the answer to the condition
pub nearest_grounds : (t : Cell) (q n number : ℕ) → nearest_of t q n ≡ Unfound number → Grounds (nearest_call t q n) number 0
nearest_grounds t q n number e = go (told (sound (cell_of t))) (told (leb 64 q)) (told ((cell_of t).land.used q))
  where
    go : Told (sound (cell_of t)) → Told (leb 64 q) → Told ((cell_of t).land.used q) → Grounds (nearest_call t q n) number 0
    go (nay s) _ _ =
        let f : Unfound unsound_table ≡ Unfound number = sym (nearest_unsound t q n s) ∙ e in
        let z : unsound_table ≡ number = cc in of z (nearest_10 s)
    go (yea s) (yea l) _ =
        let f : Unfound place_too_large ≡ Unfound number = sym (nearest_large t q n s (leb-true 64 q l)) ∙ e in
        let z : place_too_large ≡ number = cc in of z (nearest_3 s (leb-true 64 q l))
    go (yea s) (nay l) (nay u) =
        let f : Unfound not_yet_given ≡ Unfound number = sym (nearest_unused t q n s (leb-false 64 q l) u) ∙ e in
        let z : not_yet_given ≡ number = cc in of z (nearest_5 s (leb-false 64 q l) u)
    go (yea s) (nay l) (yea u) =
        answers (nearest (parent_of (cell_of t).land.place) (place_name (cell_of t).land.place) q n) number (sym (nearest_used t q n s (leb-false 64 q l) u) ∙ e)

pub common_grounds : (t : Cell) (q r number : ℕ) → common_of t q r ≡ Unfound number → Grounds (common_call t q r) number 0
common_grounds t q r number e = go (told (sound (cell_of t))) (told (leb 64 q)) (told (leb 64 r)) (told ((cell_of t).land.used q)) (told ((cell_of t).land.used r))
  where
    -- one of the two is above 63
    large : sound (cell_of t) ≡ true → (64 ≤ q) ⊎ (64 ≤ r) → Grounds (common_call t q r) number 0
    large s l =
        let f : Unfound place_too_large ≡ Unfound number = sym (common_large t q r s l) ∙ e in
        let z : place_too_large ≡ number = cc in of z (common_3 s l)

    -- both are below 64, and one is not in use
    unused : sound (cell_of t) ≡ true → q < 64 → r < 64 → ((cell_of t).land.used q ≡ false) ⊎ ((cell_of t).land.used r ≡ false)
        → Grounds (common_call t q r) number 0
    unused s l m u =
        let f : Unfound not_yet_given ≡ Unfound number = sym (common_unused t q r s l m u) ∙ e in
        let z : not_yet_given ≡ number = cc in of z (common_5 s l m u)

    go : Told (sound (cell_of t)) → Told (leb 64 q) → Told (leb 64 r) → Told ((cell_of t).land.used q) → Told ((cell_of t).land.used r)
        → Grounds (common_call t q r) number 0
    go (nay s) _ _ _ _ =
        let f : Unfound unsound_table ≡ Unfound number = sym (common_unsound t q r s) ∙ e in
        let z : unsound_table ≡ number = cc in of z (common_10 s)
    go (yea s) (yea l) _ _ _ = large s (inl (leb-true 64 q l))
    go (yea s) (nay l) (yea m) _ _ = large s (inr (leb-true 64 r m))
    go (yea s) (nay l) (nay m) (nay u) _ = unused s (leb-false 64 q l) (leb-false 64 r m) (inl u)
    go (yea s) (nay l) (nay m) (yea u) (nay v) = unused s (leb-false 64 q l) (leb-false 64 r m) (inr v)
    go (yea s) (nay l) (nay m) (yea u) (yea v) =
        answers (common (parent_of (cell_of t).land.place) q r) number (sym (common_used t q r s (leb-false 64 q l) (leb-false 64 r m) u v) ∙ e)
