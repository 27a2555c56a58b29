-- Laws of writers that have room for their whole text: positions are exact, and what is left has room for what follows. Assumes nothing.
use Rattle.std.specs.Prelude.{◌≡◌, List, [], ◌∷◌, ◌++◌, ℕ, ◌+◌, ◌-◌, ◌<◌, ◌≤◌, length, set}
use Rattle.std.proofs.Common.{sym, ap, ap₂, ◌∙◌, append-nil, append_assoc, arith, length-append, length-drop}
use Rattle.meaning.specs.Text.{overlay}
use Rattle.text.specs.Wrote.{Wrote, Fits}
use Rattle.text.proofs.TextLaws.{part, back, part_is, capped_low, least_low, wrote_length, exactly, next, store}

pub fits_less : {s t b : List ℕ} {at : ℕ} → length s ≤ length t → Fits t at b → Fits s at b
fits_less l f = record { room = omega (arith, l, f.room); placed = f.placed }

pub fits_as : {s t b : List ℕ} {at : ℕ} → t ≡ s → Fits t at b → Fits s at b
fits_as {s} {t} e f = let n : length t ≡ length s = ap length e in record { room = omega (arith, f.room); placed = f.placed }

pub fits_first : (s t : List ℕ) {b : List ℕ} {at : ℕ} → Fits (s ++ t) at b → Fits s at b
fits_first s t f = fits_less (omega (arith, length-append s t)) f

-- where the text ends is known
pub fits_exactly : {s b xs : List ℕ} {at mid : ℕ} → Fits s at b → Wrote s at b xs mid → mid ≡ at + length s
fits_exactly f w = exactly (omega (arith, f.room, f.placed)) w

-- ---- a text of two parts, of which the first is written
module _ {s b xs : List ℕ} {at mid i : ℕ} (t : List ℕ) (w : Wrote s at b xs mid) (f : Fits (s ++ t) at b) (e : i ≡ mid - at) where
  first_long : i ≡ length s
  first_long = omega (arith, fits_exactly (fits_first s t f) w)

  pub first_in : i ≤ length xs
  first_in = omega (arith, first_long, (fits_first s t f).room, wrote_length w)

  pub fits_next : Fits t mid (part i xs)
  fits_next =
      let n : length (part i xs) ≡ length xs - i = ap length (part_is i xs) ∙ length-drop i xs in
      record { room = omega (arith, first_long, f.room, length-append s t, wrote_length w); placed = omega (arith, first_long, f.placed, fits_exactly (fits_first s t f) w, wrote_length w, (fits_first s t f).room) }

  -- the second is written after it
  pub then_next : {ys : List ℕ} {r : ℕ} → Wrote t mid (part i xs) ys r → Wrote (s ++ t) at b (back i xs ys) r
  then_next v = next f.placed w (e ∙ least_low (mid - at) (length xs) (omega (arith, first_in))) v

-- ---- stores

-- one byte after a text
module _ {s b xs : List ℕ} {at mid i : ℕ} (x : ℕ) (w : Wrote s at b xs mid) (f : Fits (s ++ (x ∷ [])) at b) (e : i ≡ mid - at) where
  pub store_in : i < length xs
  store_in = omega (arith, first_long (x ∷ []) w f e, f.room, length-append s (x ∷ []), wrote_length w)

  pub stored : Wrote (s ++ (x ∷ [])) at b (set xs i x) (mid + 1)
  stored = record {
    count = (let n : mid + 1 ≡ at + length (s ++ (x ∷ [])) = omega (arith, length-append s (x ∷ []), fits_exactly (fits_first s (x ∷ []) f) w) in
        n ∙ sym (capped_low _ (omega (arith, f.room, f.placed))));
    text = ap₂ (λ (z : List ℕ) (j : ℕ). set z j x) w.text (first_long (x ∷ []) w f e) ∙ store s b x (omega (arith, f.room, length-append s (x ∷ [])));
  }

-- bytes one after another, from the i-th on
abbrev pub set_all : List ℕ → ℕ → List ℕ → List ℕ
set_all b i [] = b
set_all b i (x ∷ t) = set_all (set b i x) (i + 1) t

stores_on : (s t b : List ℕ) → length (s ++ t) ≤ length b → set_all (overlay s b) (length s) t ≡ overlay (s ++ t) b
stores_on s [] b l = ap (λ (z : List ℕ). overlay z b) (sym (append-nil s))
stores_on s (x ∷ t) b l =
    let n : length s + 1 ≡ length (s ++ (x ∷ [])) = omega (arith, length-append s (x ∷ [])) in
    let m : length ((s ++ (x ∷ [])) ++ t) ≡ length (s ++ (x ∷ t)) = ap length (append_assoc s (x ∷ []) t) in
    ap₂ (λ (z : List ℕ) (j : ℕ). set_all z j t) (store s b x (omega (arith, length-append s (x ∷ t)))) n
    ∙ stores_on (s ++ (x ∷ [])) t b (omega arith)
    ∙ ap (λ (z : List ℕ). overlay z b) (append_assoc s (x ∷ []) t)

-- a text of so many bytes, each stored where it stands
pub stores : (t : List ℕ) {b : List ℕ} {at : ℕ} → Fits t at b → Wrote t at b (set_all b 0 t) (at + length t)
unfolding overlay
stores t {b} {at} f = record { count = sym (capped_low _ (omega (arith, f.room, f.placed))); text = stores_on [] t b f.room }
