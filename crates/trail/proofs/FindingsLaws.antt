-- What a finding says, of every file, trail and listing: `upheld_exactly`.
-- Idea: permitted moves may be taken off the front of a trail, and what is left decides; a trail leads to its end or stops, and never both.
use Rattle.std.specs.Prelude.{◌≡◌, refl, ◌≢◌, ◌⊎◌, true, List, [], ◌∷◌, ◌++◌, ℕ, zero, suc, ◌+◌, ◌*◌, ◌/◌, ◌%◌, eqb, length}
use Rattle.std.proofs.Common.{sym, ap, ap₂, ◌∙◌, subst, inl, inr, arith}
use borrow.Author.Tests.{eqb-true, eqb-false, eq-eqb, ne_eqb}
use Rattle.table.proofs.BaseLaws.{Told, yea, nay, told, clash}
use Rattle.table.specs.Cell.{State}
use Rattle.meaning.specs.Calculus.{Tree}
use Rattle.meaning.specs.File.{Load, accepted, refused, load}
use Rattle.meaning.specs.Plain.{tree_of}
use Rattle.meaning.specs.TreeListing.{tree_listing}
use Rattle.text.specs.Same.{same_text}
use Rattle.text.proofs.SameLaws.{text_same, same_text_lem}
use Rattle.trail.specs.declared.Finding.{Finding}
use Rattle.trail.specs.declared.Finding.TheVariants.{Upheld, Denied, BadFile}
use Rattle.trail.specs.Trail.{allows, moved, Follows, ends, goes, odd_byte, other_layout, judged, finding_of, finding}
use Rattle.trail.specs.Findings.{Leads, LeadsFrom, Reason, is_not_permitted, no_action, is_other_layout, Stops, StopsFrom, by_odd_byte, by_move, SaysExactly}

-- ---- moves at the front of a trail

-- those that are permitted may be taken off
pub judged_after : (n k : ℕ) (rest text : List ℕ) {t u : Tree} {made : List ℕ} → Follows t made u → length made ≡ k * 2
    → judged n t (made ++ rest) text ≡ judged (n + k) u rest text
unfolding judged
judged_after n zero rest text {t} ends e = ap (λ (m : ℕ). judged m t rest text) (omega arith)
judged_after n (suc k) rest text ends e = absurd (omega arith)
judged_after n zero rest text (goes p f) e = absurd (omega arith)
judged_after n (suc k) rest text {u} (goes p f) e = rw p
    (judged_after (n + 1) k rest text f (omega arith) ∙ ap (λ (m : ℕ). judged m u rest text) (omega arith))

-- what is left decides: a trail with nothing left and the listing is upheld
pub leads_upheld : (n : ℕ) {t u : Tree} {trail : List ℕ} (text : List ℕ) → Follows t trail u → text ≡ tree_listing u → judged n t trail text ≡ Upheld
unfolding judged
leads_upheld n text ends e = rw (text_same text _ e)
leads_upheld n text (goes p f) e = rw p (leads_upheld (n + 1) text f e)

-- and one with a reason to stop is denied for it
reason_denied : (n : ℕ) (u : Tree) (rest text : List ℕ) {reason : ℕ} → Reason u text rest reason → judged n u rest text ≡ Denied n reason
unfolding judged
reason_denied n u _ text (is_not_permitted {a} p l) = rw (p, ne_eqb (length (u.unused a)) 0 l)
reason_denied n u _ text (no_action {a} p l) = rw (p, eq-eqb (length (u.unused a)) 0 l)
reason_denied n u _ text (is_other_layout d) = go (told (same_text text (tree_listing u)))
  where
    go : Told (same_text text (tree_listing u)) → judged n u [] text ≡ Denied n other_layout
    go (yea s) = absurd (d (same_text_lem text (tree_listing u) s))
    go (nay s) = rw s

pub stops_denied : {t : Tree} {trail text : List ℕ} {moves reason : ℕ} → Stops t trail text moves reason → judged 0 t trail text ≡ Denied moves reason
stops_denied {t} {trail} {text} {moves} {reason} s =
    ap (λ (w : List ℕ). judged 0 t w text) (sym s.whole) ∙ judged_after 0 moves s.rest text s.follows s.count
    ∙ reason_denied (0 + moves) s.after s.rest text s.why ∙ ap (λ (n : ℕ). Denied n reason) (omega arith)

-- ---- a trail of whole moves leads to its end or stops

abbrev Outcome : Tree → List ℕ → List ℕ → Type 0
Outcome t trail text = Leads t trail text ⊎ ((moves : ℕ) × ((reason : ℕ) × Stops t trail text moves reason))

-- the same after one move more at the front
one_more : {t : Tree} {a b : ℕ} {rest text : List ℕ} → allows t a b ≡ true → Outcome (moved t a b) rest text → Outcome t (a ∷ b ∷ rest) text
one_more p (inl l) = inl (record { after = l.after; follows = goes p l.follows; listed = l.listed })
one_more {a = a} {b} p (inr (moves, (reason, s))) = inr (
  suc moves,
  (
    reason,
    record {
      made = a ∷ b ∷ s.made;
      rest = s.rest;
      whole = ap (λ (w : List ℕ). a ∷ b ∷ w) s.whole;
      count = omega (arith, s.count);
      after = s.after;
      follows = goes p s.follows;
      why = s.why;
    },
  ),
)

-- it stops at once
at_once : {t : Tree} {trail text : List ℕ} {reason : ℕ} → Reason t text trail reason → Outcome t trail text
at_once {t} {trail} {text} {reason} w =
    inr (0, (reason, record { made = []; rest = trail; whole = refl; count = omega arith; after = t; follows = ends; why = w }))

pub outcome : (t : Tree) (trail text : List ℕ) → length trail % 2 ≡ 0 → Outcome t trail text
outcome t [] text e = go (told (same_text text (tree_listing t)))
  where
    go : Told (same_text text (tree_listing t)) → Outcome t [] text
    go (yea s) = inl (record { after = t; follows = ends; listed = same_text_lem text (tree_listing t) s })
    go (nay s) = at_once (is_other_layout (λ q. clash (text_same text (tree_listing t) q) s))
outcome t (a ∷ []) text e = absurd (omega arith)
outcome t (a ∷ b ∷ rest) text e = go (told (allows t a b)) (told (eqb (length (t.unused a)) 0)) (outcome (moved t a b) rest text (omega arith))
  where
    go : Told (allows t a b) → Told (eqb (length (t.unused a)) 0) → Outcome (moved t a b) rest text → Outcome t (a ∷ b ∷ rest) text
    go (yea p) _ o = one_more p o
    go (nay p) (yea l) o = at_once (no_action p (eqb-true (length (t.unused a)) 0 l))
    go (nay p) (nay l) o = at_once (is_not_permitted p (eqb-false (length (t.unused a)) 0 l))

-- ---- a file, a trail and a listing

module _ (file trail text : List ℕ) where
  -- what is found on an accepted file
  found_odd : (c : State) → load file ≡ accepted c → length trail % 2 ≡ 1 → finding file trail text ≡ Denied (length trail / 2) odd_byte
  unfolding finding finding_of
  found_odd c e o = rw (e, ne_eqb (length trail % 2) 0 (λ z. omega arith))

  found_even : (c : State) → load file ≡ accepted c → length trail % 2 ≡ 0 → finding file trail text ≡ judged 0 (tree_of c) trail text
  unfolding finding finding_of
  found_even c e o = rw (e, eq-eqb (length trail % 2) 0 o)

  found_bad : (number offset : ℕ) → load file ≡ refused number offset → finding file trail text ≡ BadFile number offset
  unfolding finding finding_of
  found_bad number offset e = rw e

  -- a trail that is followed has whole moves
  follows_even : {t u : Tree} {s : List ℕ} → Follows t s u → length s % 2 ≡ 0
  follows_even ends = refl
  follows_even (goes p f) = omega (arith, follows_even f)

  leads_found : LeadsFrom file trail text → finding file trail text ≡ Upheld
  leads_found l = found_even l.cell l.loaded (follows_even l.leads.follows) ∙ leads_upheld 0 text l.leads.follows l.leads.listed

  stops_found : {moves reason : ℕ} → StopsFrom file trail text moves reason → finding file trail text ≡ Denied moves reason
  stops_found (by_odd_byte c e o) = found_odd c e o
  stops_found (by_move c e o s) = found_even c e o ∙ stops_denied s

  -- each is found for one of three causes
  data Cause : Finding → Type 0 where
    leading : LeadsFrom file trail text → Cause Upheld
    stopping : {moves reason : ℕ} → StopsFrom file trail text moves reason → Cause (Denied moves reason)
    refusing : {number offset : ℕ} → load file ≡ refused number offset → Cause (BadFile number offset)

  cause : Cause (finding file trail text)
  cause = go (load file) refl
    where
      even : (c : State) → load file ≡ accepted c → length trail % 2 ≡ 0 → Outcome (tree_of c) trail text → Cause (finding file trail text)
      even c e o (inl l) = let w : LeadsFrom file trail text = record { cell = c; loaded = e; leads = l } in subst Cause (sym (leads_found w)) (leading w)
      even c e o (inr (moves, (reason, s))) = let w : StopsFrom file trail text moves reason = by_move c e o s in subst Cause (sym (stops_found w)) (stopping w)

      whole : (c : State) → load file ≡ accepted c → Told (eqb (length trail % 2) 0) → Cause (finding file trail text)
      whole c e (yea o) = let z : length trail % 2 ≡ 0 = eqb-true (length trail % 2) 0 o in even c e z (outcome (tree_of c) trail text z)
      whole c e (nay o) =
          let d = eqb-false (length trail % 2) 0 o in
          let w : StopsFrom file trail text (length trail / 2) odd_byte = by_odd_byte c e (odd (length trail) d) in
          subst Cause (sym (stops_found w)) (stopping w)
        where
          odd : (n : ℕ) → n % 2 ≢ 0 → n % 2 ≡ 1
          odd n d = omega arith

      go : (l : Load) → load file ≡ l → Cause (finding file trail text)
      go (accepted c) e = whole c e (told (eqb (length trail % 2) 0))
      go (refused number offset) e = subst Cause (sym (found_bad number offset e)) (refusing e)

  -- what was the cause of each
  was_leading : {f : Finding} → Cause f → f ≡ Upheld → LeadsFrom file trail text
  was_leading (leading l) e = l
  was_leading (stopping s) e = let z : ◌≡◌ {A = ℕ} 0 1 = cc in absurd (omega arith)
  was_leading (refusing r) e = let z : ◌≡◌ {A = ℕ} 0 1 = cc in absurd (omega arith)

  was_stopping : {f : Finding} {moves reason : ℕ} → Cause f → f ≡ Denied moves reason → StopsFrom file trail text moves reason
  was_stopping (leading l) e = let z : ◌≡◌ {A = ℕ} 0 1 = cc in absurd (omega arith)
  was_stopping {moves = moves} {reason} (stopping {moves = m} {reason = r} s) e =
      let p : m ≡ moves = cc in let q : r ≡ reason = cc in
      subst (λ (k : ℕ). StopsFrom file trail text k reason) p (subst (StopsFrom file trail text m) q s)
  was_stopping (refusing r) e = let z : ◌≡◌ {A = ℕ} 0 1 = cc in absurd (omega arith)

  was_refusing : {f : Finding} {number offset : ℕ} → Cause f → f ≡ BadFile number offset → load file ≡ refused number offset
  was_refusing (leading l) e = let z : ◌≡◌ {A = ℕ} 0 1 = cc in absurd (omega arith)
  was_refusing (stopping s) e = let z : ◌≡◌ {A = ℕ} 0 1 = cc in absurd (omega arith)
  was_refusing {number = number} {offset} (refusing {number = n} {offset = o} r) e = let p : n ≡ number = cc in let q : o ≡ offset = cc in r ∙ ap₂ refused p q

  -- of an accepted file without a yes
  was_denied : {f : Finding} → Cause f → (c : State) → load file ≡ accepted c → (LeadsFrom file trail text → ⊥) → (moves : ℕ) × ((reason : ℕ) × (f ≡ Denied moves reason))
  was_denied (leading l) c e never = absurd (never l)
  was_denied (stopping {moves = m} {reason = r} s) c e never = (m, (r, refl))
  was_denied (refusing r) c e never = let z : ◌≡◌ {A = ℕ} 0 1 = cc in absurd (omega arith)

  pub upheld_exactly : SaysExactly file trail text
  upheld_exactly = record {
    upheld = (was_leading cause, leads_found);
    bad_file = λ number offset. (was_refusing cause, found_bad number offset);
    denied = λ moves reason. (was_stopping cause, stops_found);
    otherwise = was_denied cause;
  }
