-- The listing call's answers: refused or listed. Assumes nothing.
-- Idea: the answered length passes the buffer's just if the listing's does, so what was written and the answer fit together.
use Rattle.std.specs.Prelude.{◌≡◌, Bool, true, false, List, ℕ, ◌+◌, ◌<◌, ◌≤◌, leb}
use Rattle.std.proofs.Common.{ap, ◌∙◌}
use native.Mathlib.Omega.{arith}
use Rattle.std.proofs.Math.ListN.{length}
use borrow.Author.Tests.{lt-ltb, le-ltb, le-leb, lt-leb, leb-true, leb-false}
use Rattle.table.proofs.BaseLaws.{Told, yea, nay, told}
use Rattle.table.specs.Cell.{State}
use Rattle.table.specs.Sound.{sound}
use Rattle.meaning.specs.Refusals.{unsound_table, too_long}
use Rattle.meaning.specs.Listing.{listing, list_answer, list_buffer}
use Rattle.meaning.specs.Answers.{Listed, Length, Unlisted}
use Rattle.text.specs.Wrote.{capped}
use Rattle.text.proofs.TextLaws.{capped_low, capped_high}
use Rattle.lister.specs.Sheet.{WroteIf}
use Rattle.lister.proofs.WriteLaws.{wrote_if_length}
use Rattle.listing.specs.Known.{known_answer, known_buffer}

-- a number below the largest that is below a length's answer is below the length
below_length : (m n : ℕ) → m < 18446744073709551615 → m < capped n → m < n
below_length m n l h = go (told (leb n 18446744073709551615))
  where
    go : Told (leb n 18446744073709551615) → m < n
    go (yea t) = omega (arith, capped_low n (leb-true n 18446744073709551615 t))
    go (nay t) = omega (arith, leb-false n 18446744073709551615 t)

-- a number below the largest that a length's answer does not pass, the length does not pass
within_length : (m n : ℕ) → m < 18446744073709551615 → capped n ≤ m → n ≤ m
within_length m n l h = go (told (leb n 18446744073709551615))
  where
    go : Told (leb n 18446744073709551615) → n ≤ m
    go (yea t) = omega (arith, capped_low n (leb-true n 18446744073709551615 t))
    go (nay t) = absurd (omega (arith, capped_high n (leb-false n 18446744073709551615 t)))

-- told the truth of the table, it is the listing call
pub list_told : (c : State) (b e : List ℕ) (r : Listed) (known : Bool) → known ≡ sound c
    → (r ≡ known_answer known c b) × (e ≡ known_buffer known c b) → (r ≡ list_answer c b) × (e ≡ list_buffer c b)
unfolding known_answer known_buffer list_answer list_buffer
list_told c b e r known t (f, g) = (f ∙ ap (λ (z : Bool). known_answer z c b) t, g ∙ ap (λ (z : Bool). known_buffer z c b) t)

pub refused_unsound : (c : State) (b : List ℕ) (known : Bool) → known ≡ false → (Unlisted unsound_table ≡ known_answer known c b) × (b ≡ known_buffer known c b)
unfolding known_answer known_buffer
refused_unsound c b known e = (rw e, rw e)

module _ (c : State) {b e : List ℕ} {n : ℕ} (room : length b < 18446744073709551615) (known : Bool) (s : known ≡ true) (w : WroteIf true (listing c) 0 b e n) where
  same : length e ≡ length b
  same = wrote_if_length w

  pub refused_long : length e < n → (Unlisted too_long ≡ known_answer known c b) × (e ≡ known_buffer known c b)
  unfolding known_answer known_buffer
  refused_long l =
      let k : length b < length (listing c) = omega (arith, below_length (length b) (0 + length (listing c)) room (omega (arith, same, w.count))) in
      (rw (s, lt-leb (length (listing c)) (length b) k), w.text ∙ rw (s, lt-ltb (length b) (length (listing c)) k, lt-leb (length (listing c)) (length b) k))

  pub listed : n ≤ length e → (Length n ≡ known_answer known c b) × (e ≡ known_buffer known c b)
  unfolding known_answer known_buffer
  listed l =
      let k : length (listing c) ≤ length b = omega (arith, within_length (length b) (0 + length (listing c)) room (omega (arith, same, w.count))) in
      let x : n ≡ length (listing c) = w.count ∙ capped_low (0 + length (listing c)) (omega arith) ∙ omega arith in
      (rw (s, le-leb (length (listing c)) (length b) k) (ap Length x), w.text ∙ rw (s, le-ltb (length b) (length (listing c)) k, le-leb (length (listing c)) (length b) k))
