-- Texts that are the same are equal, and two texts may be compared byte by byte. Assumes nothing.
use Rattle.std.specs.Prelude.{◌≡◌, refl, ◌≢◌, true, false, ◌&&◌, List, [], ◌∷◌, ℕ, zero, suc, ◌≤◌, ◌<◌, eqb, length, get_or, drop}
use Rattle.std.proofs.Common.{sym, ap, ap₂, ◌∙◌, subst, not-suc-le-zero, le_of_suc-le-suc, arith, eqb-true, eq-eqb, ne_eqb}
use Rattle.std.proofs.Math.Bool.{and-false}
use Rattle.table.proofs.BaseLaws.{clash, and_left, and_right}
use Rattle.text.specs.Same.{same_text}

-- ---- the same and equal

-- a text is the same as itself
pub text_itself : (s : List ℕ) → same_text s s ≡ true
unfolding same_text
text_itself [] = refl
text_itself (x ∷ s) = rw (eq-eqb x x refl) (text_itself s)

pub text_same : (s t : List ℕ) → s ≡ t → same_text s t ≡ true
text_same s t e = subst (λ (r : List ℕ). same_text s r ≡ true) e (text_itself s)

pub same_text_lem : (s t : List ℕ) → same_text s t ≡ true → s ≡ t
unfolding same_text
same_text_lem [] [] e = refl
same_text_lem [] (y ∷ t) e = clash e refl
same_text_lem (x ∷ s) [] e = clash e refl
same_text_lem (x ∷ s) (y ∷ t) e = ap₂ ◌∷◌ (eqb-true x y (and_left (eqb x y) (same_text s t) e)) (same_text_lem s t (and_right (eqb x y) (same_text s t) e))

-- ---- byte by byte

-- the same byte at i: the rest decides
pub same_step : (i : ℕ) (s t : List ℕ) → i < length s → i < length t → get_or s i 0 ≡ get_or t i 0
    → same_text (drop (suc i) s) (drop (suc i) t) ≡ same_text (drop i s) (drop i t)
unfolding same_text
same_step i [] t l m e = absurd (not-suc-le-zero l)
same_step i (x ∷ s) [] l m e = absurd (not-suc-le-zero m)
same_step zero (x ∷ s) (y ∷ t) l m e = sym (rw (eq-eqb x y e))
same_step (suc i) (x ∷ s) (y ∷ t) l m e = same_step i s t (le_of_suc-le-suc l) (le_of_suc-le-suc m) e

-- another byte at i
pub same_differ : (i : ℕ) (s t : List ℕ) → i < length s → i < length t → get_or s i 0 ≢ get_or t i 0 → false ≡ same_text (drop i s) (drop i t)
unfolding same_text
same_differ i [] t l m e = absurd (not-suc-le-zero l)
same_differ i (x ∷ s) [] l m e = absurd (not-suc-le-zero m)
same_differ zero (x ∷ s) (y ∷ t) l m e = sym (rw (ne_eqb x y e))
same_differ (suc i) (x ∷ s) (y ∷ t) l m e = same_differ i s t (le_of_suc-le-suc l) (le_of_suc-le-suc m) e

-- nothing is left of either
pub same_end : (i : ℕ) (s t : List ℕ) → length s ≤ i → length s ≡ length t → true ≡ same_text (drop i s) (drop i t)
unfolding same_text
same_end zero [] [] l e = refl
same_end zero [] (y ∷ t) l e = absurd (omega arith)
same_end zero (x ∷ s) t l e = absurd (not-suc-le-zero l)
same_end (suc i) [] [] l e = refl
same_end (suc i) [] (y ∷ t) l e = absurd (omega arith)
same_end (suc i) (x ∷ s) [] l e = absurd (omega arith)
same_end (suc i) (x ∷ s) (y ∷ t) l e = same_end i s t (le_of_suc-le-suc l) (omega arith)

-- texts of different lengths
pub same_length : (s t : List ℕ) → length s ≢ length t → false ≡ same_text s t
unfolding same_text
same_length [] [] n = absurd (n refl)
same_length [] (y ∷ t) n = refl
same_length (x ∷ s) [] n = refl
same_length (x ∷ s) (y ∷ t) n = sym (and-false (eqb x y)) ∙ ap (◌&&◌ (eqb x y)) (same_length s t (λ e. n (ap suc e)))
