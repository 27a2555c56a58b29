-- The floor's text, written over a part that has room for it, or first to a page that has. Assumes nothing.
-- Idea: no text that fits the page is cut there, so what was written to it is the text.
use Rattle.std.specs.Prelude.{◌≡◌, refl, Bool, true, false, ◌&&◌, ℕ, ◌+◌, ◌<◌, ◌≤◌, eqb, ltb, length, set, take, replicate}
use Rattle.std.proofs.Common.{sym, ◌∙◌, subst, arith, length-take-le, eq-eqb, ne_eqb, lt-ltb, le-ltb}
use Rattle.std.proofs.Math.Path.{ap}
use Rattle.std.proofs.Math.Bool.{cond}
use mathlib.Core.List.{List, [], ◌∷◌}
use Rattle.std.proofs.lemmas.List.{length-replicate}
use lib.Pointwise.{pointwise}
use Rattle.table.specs.Base.{tab}
use Rattle.meaning.specs.Text.{overlay}
use Rattle.text.specs.Same.{same_text}
use Rattle.text.specs.Wrote.{capped, Wrote, Fits}
use Rattle.text.proofs.TextLaws.{over_start, over_length, wrote_as, wrote_length}
use Rattle.text.proofs.RoomLaws.{fits_as, fits_exactly, stores}
use Rattle.lengths.specs.Longest.{longest_listing}
use Rattle.lister.specs.Sheet.{Shown, OnPage, contents_on, floor_on, WroteIf}

no_length : (t : List ℕ) → length t ≡ 0 → t ≡ []
no_length [] e = refl
no_length (x ∷ t) e = absurd (omega arith)

-- ---- the floor

module _ (h : Shown) {b : List ℕ} (f : Fits (floor_on h) 0 b) where
  -- where there are no contents, the floor's text is `0`
  floor_nothing : length (contents_on 65 h 0) ≡ 0 → floor_on h ≡ 48 ∷ []
  unfolding floor_on tab
  floor_nothing e = ap (λ (z : Bool). cond z (48 ∷ []) (contents_on 65 h 0)) (eq-eqb (length (contents_on 65 h 0)) 0 e)

  -- and else the contents
  floor_contents : (length (contents_on 65 h 0) ≡ 0 → ⊥) → floor_on h ≡ contents_on 65 h 0
  unfolding floor_on tab
  floor_contents n = ap (λ (z : Bool). cond z (48 ∷ []) (contents_on 65 h 0)) (ne_eqb (length (contents_on 65 h 0)) 0 n)

  contents_fit : Fits (contents_on 65 h 0) 0 b
  contents_fit = go (contents_on 65 h 0) refl
    where
      go : (t : List ℕ) → contents_on 65 h 0 ≡ t → Fits (contents_on 65 h 0) 0 b
      go [] e = record { room = (let n = ap length e in omega (arith, f.room)); placed = f.placed }
      go (x ∷ t) e = fits_as (floor_contents (λ z. let n = ap length e in omega arith)) f

  -- and are no longer than the floor's text
  pub floor_page : length (floor_on h) ≤ longest_listing → OnPage (contents_on 65 h 0) 0 b
  floor_page l = record { fits = contents_fit; short = go (contents_on 65 h 0) refl }
    where
      go : (t : List ℕ) → contents_on 65 h 0 ≡ t → length (contents_on 65 h 0) ≤ longest_listing
      go [] e = let n = ap length e in omega arith
      go (x ∷ t) e = let m = ap length (floor_contents (λ z. let n = ap length e in omega arith)) in omega arith

  module _ {xs : List ℕ} {n : ℕ} (w : Wrote (contents_on 65 h 0) 0 b xs n) where
    long : n ≡ length (contents_on 65 h 0)
    long = fits_exactly contents_fit w ∙ omega arith

    untouched : n ≡ 0 → xs ≡ b
    unfolding overlay
    untouched e = w.text ∙ ap (λ (t : List ℕ). overlay t b) (no_length (contents_on 65 h 0) (sym long ∙ e))

    pub zero_in : n ≡ 0 → 0 < length xs
    zero_in e = let k = ap length (untouched e) in let m = ap length (floor_nothing (sym long ∙ e)) in omega (arith, f.room)

    pub floor_none : n ≡ 0 → Wrote (floor_on h) 0 b (set xs 0 48) 1
    floor_none e = wrote_as (sym (floor_nothing (sym long ∙ e))) (subst (λ (z : List ℕ). Wrote (48 ∷ []) 0 b (set z 0 48) 1) (sym (untouched e)) (stores (48 ∷ []) (fits_as (floor_nothing (sym long ∙ e)) f)))

    pub floor_some : (n ≡ 0 → ⊥) → Wrote (floor_on h) 0 b xs n
    floor_some q = wrote_as (sym (floor_contents (λ z. q (long ∙ z)))) w

-- ---- whole or not at all

-- a text that has room is written whole, and the position handed over is added
pub wholly : {t b e : List ℕ} {at r : ℕ} (whole : Bool) → length t ≤ length b → Wrote t at b e r → WroteIf whole t at b e r
wholly {t} {b} {e} {at} {r} whole l w = record { count = w.count; text = w.text ∙ go whole }
  where
    go : (z : Bool) → overlay t b ≡ cond (z && ltb (length b) (length t)) b (overlay t b)
    go true = sym (rw (le-ltb (length b) (length t) l))
    go false = refl

-- as far as there is room
pub partly : {t b e : List ℕ} {at r : ℕ} → Wrote t at b e r → WroteIf false t at b e r
partly w = record { count = w.count; text = w.text }

-- not at all
pub not_at_all : {t b : List ℕ} {at r : ℕ} → length b < length t → r ≡ capped (at + length t) → WroteIf true t at b b r
not_at_all {t} {b} l e = record { count = e; text = sym (rw (lt-ltb (length b) (length t) l)) }

-- ---- the page

module _ {t page xs : List ℕ} {n : ℕ} (f : Fits t 0 page) (w : Wrote t 0 page xs n) where
  pub page_long : n ≡ length t
  page_long = fits_exactly f w ∙ omega arith

  pub page_holds : take n xs ≡ t
  page_holds = ap (λ (k : ℕ). take k xs) page_long ∙ ap (take (length t)) w.text ∙ over_start t page f.room

  pub page_within : n ≤ length xs
  page_within = omega (arith, page_long, f.room, wrote_length w)

  pub page_cut : n ≡ length (take n xs)
  page_cut = sym (length-take-le n xs page_within)

pub page_fits : (t : List ℕ) → length t ≤ longest_listing → Fits t 0 (replicate longest_listing 0)
page_fits t l = let n = length-replicate {A = ℕ} longest_listing 0 in record { room = omega arith; placed = omega arith }

-- ---- the listing

-- where there are as many bytes as the longest has
pub long_fits : {t b : List ℕ} → length t ≤ longest_listing → longest_listing ≤ length b → length b ≤ 18446744073709551615 → Fits t 0 b
long_fits l m n = record { room = omega arith; placed = omega arith }

-- the same text under another name
pub wrote_if_as : {s t b e : List ℕ} {whole : Bool} {at r : ℕ} → s ≡ t → WroteIf whole s at b e r → WroteIf whole t at b e r
wrote_if_as {s} {t} {b} {e} {whole} {at} {r} q w = subst (λ (l : List ℕ). WroteIf whole l at b e r) q w

pub wrote_if_length : {t b e : List ℕ} {whole : Bool} {at r : ℕ} → WroteIf whole t at b e r → length e ≡ length b
wrote_if_length {t} {b} {e} {whole} w = ap length w.text ∙ go (whole && ltb (length b) (length t))
  where
    go : (z : Bool) → length (cond z b (overlay t b)) ≡ length b
    go true = refl
    go false = over_length t b

-- ---- the comparison of two texts

pub same_pairs : (s t : List ℕ) → pointwise eqb s t ≡ same_text s t
unfolding same_text
same_pairs [] [] = refl
same_pairs [] (y ∷ t) = refl
same_pairs (x ∷ s) [] = refl
same_pairs (x ∷ s) (y ∷ t) = ap (◌&&◌ (eqb x y)) (same_pairs s t)
