-- The small steps of the typed report's code: the line, the window, the bytes that are shown. Assumes nothing.
use Rattle.std.specs.Prelude.{◌≡◌, Bool, ℕ, zero, suc, ◌+◌, ◌-◌, ◌≤◌, ◌<◌, leb, ltb, eqb, get_or, take, drop, replicate, set}
use Rattle.std.proofs.Math.Path.{refl}
use Rattle.std.proofs.Common.{sym, ap, ap₂, ◌∙◌, length-drop, drop_of_length-le, take_all}
use Rattle.std.proofs.Math.Bool.{true, false, cond}
use mathlib.Core.List.{List, [], ◌∷◌, map}
use native.Mathlib.Omega.{arith}
use Rattle.std.proofs.Math.ListN.{length}
use Rattle.std.proofs.lemmas.List.{length-map, length-replicate, get_or-replicate, get_or-take}
use Rattle.std.proofs.Math.Seq.{length-take-le, take-take}
use borrow.Author.Tests.{eq-eqb, ne_eqb, ltb-true, ltb-false}
use Rattle.table.proofs.BaseLaws.{Told, yea, nay, told}
use Rattle.meaning.specs.Text.{overlay}
use Rattle.text.specs.Wrote.{Wrote, capped, least}
use Rattle.text.proofs.TextLaws.{bytes_more, bytes_all, part, part_is}
use Rattle.language.specs.TypedReport.{line_length, line_of, most_shown, shown, shown_from, window}

-- ---- the line

module _ (file : List ℕ) where
  -- the last byte, and the one before it, tell
  pub line_empty : length file ≡ 0 → file ≡ line_of file
  unfolding line_of line_length
  line_empty e = go file e
    where
      go : (s : List ℕ) → length s ≡ 0 → s ≡ take (cond (eqb (get_or s (length s - 1) 0) 10) (cond (eqb (get_or s (length s - 2) 0) 13) (length s - 2) (length s - 1)) (length s)) s
      go [] e = refl
      go (x ∷ s) e = absurd (omega arith)

  pub line_open : (get_or file (length file - 1) 0 ≡ 10 → ⊥) → file ≡ line_of file
  unfolding line_of line_length
  line_open h = rw (ne_eqb _ _ h) (sym (take_all (length file) file (omega arith)))

  pub line_feed : get_or file (length file - 1) 0 ≡ 10 → (get_or file (length file - 2) 0 ≡ 13 → ⊥) → take (length file - 1) file ≡ line_of file
  unfolding line_of line_length
  line_feed h k = rw (eq-eqb _ _ h, ne_eqb _ _ k)

  pub line_both : get_or file (length file - 1) 0 ≡ 10 → get_or file (length file - 2) 0 ≡ 13 → take (length file - 2) file ≡ line_of file
  unfolding line_of line_length
  line_both h k = rw (eq-eqb _ _ h, eq-eqb _ _ k)

  -- the byte before the last, read in the file without its last
  module _ (some : 1 ≤ length file) (h : get_or file (length file - 1) 0 ≡ 10) where
    front : length (take (length file - 1) file) ≡ length file - 1
    front = length-take-le (length file - 1) file (omega arith)

    before : 2 ≤ length file → get_or (take (length file - 1) file) (length (take (length file - 1) file) - 1) 0 ≡ get_or file (length file - 2) 0
    before l =
        let i : length (take (length file - 1) file) - 1 ≡ length file - 2 = omega (arith, front) in
        get_or-take (length file - 1) file (length (take (length file - 1) file) - 1) 0 (omega (arith, front)) ∙ ap (λ (j : ℕ). get_or file j 0) i

    pub line_ended : 1 ≤ length (take (length file - 1) file)
        → get_or (take (length file - 1) file) (length (take (length file - 1) file) - 1) 0 ≡ 13
        → take (length (take (length file - 1) file) - 1) (take (length file - 1) file) ≡ line_of file
    line_ended l k =
        let i : length (take (length file - 1) file) - 1 ≡ length file - 2 = omega (arith, front) in
        ap (λ (j : ℕ). take j (take (length file - 1) file)) i ∙ take-take (length file - 2) (length file - 1) file (omega arith)
        ∙ line_both h (sym (before (omega (arith, front))) ∙ k)

    pub line_plain : 1 ≤ length (take (length file - 1) file)
        → (get_or (take (length file - 1) file) (length (take (length file - 1) file) - 1) 0 ≡ 13 → ⊥) → take (length file - 1) file ≡ line_of file
    line_plain l k = line_feed h (λ q. k (before (omega (arith, front)) ∙ q))

    pub line_alone : length (take (length file - 1) file) < 1 → take (length file - 1) file ≡ line_of file
    line_alone l =
        let one : length file ≡ 1 = omega (arith, front) in
        let z : length file - 2 ≡ length file - 1 = omega arith in
        line_feed h (λ k. let t : 13 ≡ 10 = sym k ∙ ap (λ (j : ℕ). get_or file j 0) z ∙ h in omega arith)

-- ---- the window

-- it does not begin after the offset
pub from_within : (size offset : ℕ) → shown_from size offset ≤ offset
unfolding shown_from
from_within size offset = go (leb size most_shown)
  where
    go : (b : Bool) → cond b 0 (offset - 40) ≤ offset
    go true = omega arith
    go false = omega arith

-- from where the window begins, or the text's end where that comes first, so many bytes as are left, or 72
pub window_is : (line : List ℕ) (offset from i m : ℕ) → from ≡ shown_from (length line) offset → i ≡ least from (length line)
    → m ≡ least (length (part i line)) most_shown → take m (part i line) ≡ window line offset
unfolding window least
window_is line offset from i m f e g =
    ap (take m) (part_is i line) ∙ most (told (ltb from (length line))) (told (ltb (length line - i) most_shown))
    ∙ ap (λ (n : ℕ). take most_shown (drop n line)) f
  where
    start : Told (ltb from (length line)) → drop i line ≡ drop from line
    start (yea t) = let q : i ≡ from = e ∙ rw t in ap (λ (n : ℕ). drop n line) q
    start (nay t) = let q : i ≡ length line = e ∙ rw t in
        drop_of_length-le line {i = i} (omega arith) ∙ sym (drop_of_length-le line {i = from} (ltb-false from (length line) t))

    left : m ≡ least (length line - i) most_shown
    left = g ∙ ap (λ (n : ℕ). least n most_shown) (ap length (part_is i line) ∙ length-drop i line)

    most : Told (ltb from (length line)) → Told (ltb (length line - i) most_shown) → take m (drop i line) ≡ take most_shown (drop from line)
    most p (yea t) = let q : m ≡ length line - i = left ∙ rw t in
        take_all m (drop i line) (omega (arith, length-drop i line)) ∙ start p
        ∙ sym (take_all most_shown (drop from line) (omega (arith, ltb-true (length line - i) most_shown t, length-drop i line, ap length (start p))))
    most p (nay t) = let q : m ≡ most_shown = left ∙ rw t in ap₂ take q (start p)

-- ---- bytes

-- a text of k bytes of which all that there is room for are written
pub filled : (t : List ℕ) {b xs : List ℕ} {k at i n r : ℕ} → length t ≡ k → n ≡ least k (length b) → n ≤ i → xs ≡ overlay (take i t) b → r ≡ capped (at + k)
    → Wrote t at b xs r
filled t {b} {xs} {k} {at} {i} {n} long e l w q = record {
  count = q ∙ ap (λ (m : ℕ). capped (at + m)) (sym long);
  text = bytes_all t b xs i n (e ∙ ap (λ (m : ℕ). least m (length b)) (sym long)) l w;
}

-- one byte more of a text as it is shown
pub shown_more : (t b xs : List ℕ) (i x : ℕ) → i < length t → i < length b → xs ≡ overlay (take i (map shown t)) b → x ≡ shown (get_or t i 0)
    → set xs i x ≡ overlay (take (i + 1) (map shown t)) b
shown_more t b xs i x l h e s =
    let n : length (map shown t) ≡ length t = length-map t shown in
    ap (set xs i) (s ∙ sym (shown_at t i l)) ∙ bytes_more (map shown t) b xs i (omega arith) h e
  where
    shown_at : (u : List ℕ) (j : ℕ) → j < length u → get_or (map shown u) j 0 ≡ shown (get_or u j 0)
    shown_at [] j l = absurd (omega arith)
    shown_at (y ∷ u) zero l = refl
    shown_at (y ∷ u) (suc j) l = shown_at u j (omega arith)

-- one blank more
pub blanks_more : (count i : ℕ) (b xs : List ℕ) → i < count → i < length b → xs ≡ overlay (take i (replicate count 32)) b
    → set xs i 32 ≡ overlay (take (i + 1) (replicate count 32)) b
blanks_more count i b xs l h e =
    ap (set xs i) (sym (get_or-replicate {A = ℕ} count i 32 0 l)) ∙ bytes_more (replicate count 32) b xs i (omega (arith, length-replicate {A = ℕ} count 32)) h e
