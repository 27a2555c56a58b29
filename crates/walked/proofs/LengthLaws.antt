-- How long the line of a file is, by its last bytes; and the window of a line, cut at once. Assumes nothing.
use Rattle.std.specs.Prelude.{◌≡◌, Bool, ℕ, ◌+◌, ◌-◌, ◌≤◌, ltb, eqb, get_or, take, drop}
use Rattle.std.proofs.Math.Path.{refl}
use Rattle.std.proofs.Common.{sym, ap, ap₂, ◌∙◌, length-drop, drop_of_length-le, take_all}
use Rattle.std.proofs.Math.Bool.{true, false, cond}
use mathlib.Core.List.{List, [], ◌∷◌}
use native.Mathlib.Omega.{arith}
use Rattle.std.proofs.Math.ListN.{length}
use borrow.Author.Tests.{eq-eqb, ne_eqb, ltb-true, ltb-false}
use Rattle.table.proofs.BaseLaws.{Told, yea, nay, told}
use Rattle.text.specs.Wrote.{least}
use Rattle.language.specs.TypedReport.{line_length, most_shown, shown_from, window}

module _ (file : List ℕ) where
  -- the last byte, and the one before it, tell
  pub line_empty : length file ≡ 0 → 0 ≡ line_length file
  unfolding line_length
  line_empty e = go file e
    where
      go : (s : List ℕ) → length s ≡ 0 → 0 ≡ cond (eqb (get_or s (length s - 1) 0) 10) (cond (eqb (get_or s (length s - 2) 0) 13) (length s - 2) (length s - 1)) (length s)
      go [] e = refl
      go (x ∷ s) e = absurd (omega arith)

  pub line_open : (get_or file (length file - 1) 0 ≡ 10 → ⊥) → length file ≡ line_length file
  unfolding line_length
  line_open h = rw (ne_eqb _ _ h)

  pub line_feed : get_or file (length file - 1) 0 ≡ 10 → (get_or file (length file - 2) 0 ≡ 13 → ⊥) → length file - 1 ≡ line_length file
  unfolding line_length
  line_feed h k = rw (eq-eqb _ _ h, ne_eqb _ _ k)

  pub line_both : get_or file (length file - 1) 0 ≡ 10 → get_or file (length file - 2) 0 ≡ 13 → length file - 2 ≡ line_length file
  unfolding line_length
  line_both h k = rw (eq-eqb _ _ h, eq-eqb _ _ k)

  -- a lone byte 10
  pub line_alone : length file ≡ 1 → get_or file (length file - 1) 0 ≡ 10 → 0 ≡ line_length file
  line_alone one h =
      let z : length file - 2 ≡ length file - 1 = omega arith in
      let o : 0 ≡ length file - 1 = omega arith in
      o ∙ line_feed h (λ k. let t : 13 ≡ 10 = sym k ∙ ap (λ (j : ℕ). get_or file j 0) z ∙ h in omega arith)

  -- the line is a part of the file
  pub line_within : line_length file ≤ length file
  unfolding line_length
  line_within = go (eqb (get_or file (length file - 1) 0) 10) (eqb (get_or file (length file - 2) 0) 13)
    where
      go : (p q : Bool) → cond p (cond q (length file - 2) (length file - 1)) (length file) ≤ length file
      go true true = omega arith
      go true false = omega arith
      go false q = omega arith

-- from where the window begins, or the text's end where that comes first, so many bytes as are left, or 72
pub window_is : (line : List ℕ) (offset from i m : ℕ) → from ≡ shown_from (length line) offset → i ≡ least from (length line)
    → m ≡ least (length line - i) most_shown → take (i + m - i) (drop i line) ≡ window line offset
unfolding window least
window_is line offset from i m f e g =
    let k : i + m - i ≡ m = omega arith in
    ap (λ (n : ℕ). take n (drop i line)) k ∙ most (told (ltb from (length line))) (told (ltb (length line - i) most_shown))
    ∙ ap (λ (n : ℕ). take most_shown (drop n line)) f
  where
    start : Told (ltb from (length line)) → drop i line ≡ drop from line
    start (yea t) = let q : i ≡ from = e ∙ rw t in ap (λ (n : ℕ). drop n line) q
    start (nay t) = let q : i ≡ length line = e ∙ rw t in
        drop_of_length-le line {i = i} (omega arith) ∙ sym (drop_of_length-le line {i = from} (ltb-false from (length line) t))

    most : Told (ltb from (length line)) → Told (ltb (length line - i) most_shown) → take m (drop i line) ≡ take most_shown (drop from line)
    most p (yea t) = let q : m ≡ length line - i = g ∙ rw t in
        take_all m (drop i line) (omega (arith, length-drop i line)) ∙ start p
        ∙ sym (take_all most_shown (drop from line) (omega (arith, ltb-true (length line - i) most_shown t, length-drop i line, ap length (start p))))
    most p (nay t) = let q : m ≡ most_shown = g ∙ rw t in ap₂ take q (start p)
