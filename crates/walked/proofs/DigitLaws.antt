-- What a digit does to a number that is read, where 0 tells that it does not continue it. Assumes nothing.
use Rattle.std.specs.Prelude.{◌≡◌, Bool, true, false, ℕ, ◌+◌, ◌*◌, ◌-◌, ◌≤◌, ◌<◌, length, get_or}
use Rattle.std.proofs.Math.Path.{sym, ap}
use Rattle.std.proofs.Common.{◌∙◌, arith}
use Rattle.std.proofs.Math.Bool.{cond}
use borrow.Author.Tests.{le-leb, lt-leb, leb-true}
use Rattle.table.proofs.BaseLaws.{Told, yea, nay, told, and_left}
use Rattle.language.specs.declared.Field.{Field}
use Rattle.language.specs.declared.Control.{Control}
use Rattle.language.specs.declared.Control.TheVariants.{Digits}
use Rattle.language.specs.declared.Event.TheVariants.{Nothing}
use Rattle.language.specs.declared.Moved.{Moved}
use Rattle.language.specs.declared.Moved.TheVariants.{To}
use Rattle.language.specs.Grammar.{Text}
use Rattle.language.specs.Machine.{is_digit, follow, continues, next}
use Rattle.parser.specs.Stretches.{Stretch}
use Rattle.parser.specs.Stretches
use Rattle.walked.specs.Longer.{longer}

module _ (v b : ℕ) (t : Bool) (e : t ≡ is_digit 0 b) (l : 1 ≤ v) where
  -- the longer number has 16 bits
  pub longer_some : (n : ℕ) → t ≡ true → n ≡ v * 10 + (b - 48) → n ≤ 65535 → n ≡ longer v b
  unfolding longer continues
  longer_some n h q k = rw (le-leb 1 v l, sym e ∙ h, le-leb (v * 10 + (b - 48)) 65535 (omega arith)) q

  -- it has more
  pub longer_large : (n : ℕ) → t ≡ true → n ≡ v * 10 + (b - 48) → 65535 < n → 0 ≡ longer v b
  unfolding longer continues
  longer_large n h q k = rw (le-leb 1 v l, sym e ∙ h, lt-leb (v * 10 + (b - 48)) 65535 (omega arith))

  -- no digit
  pub longer_none : t ≡ false → 0 ≡ longer v b
  unfolding longer continues
  longer_none h = rw (le-leb 1 v l, sym e ∙ h)

-- after 0 no digit follows
pub longer_zero : (v b : ℕ) → v < 1 → 0 ≡ longer v b
unfolding longer continues
longer_zero v b l = rw (lt-leb 1 v l)

module _ (f : Field) (v d b n : ℕ) (e : n ≡ longer v b) where
  -- the number has ended
  pub next_follow : (m : Moved) → n < 1 → m ≡ follow f v d b → m ≡ next (Digits f v) d b
  unfolding next longer
  next_follow m l q = go (told (continues v b))
    where
      go : Told (continues v b) → m ≡ cond (continues v b) (To (Digits f (v * 10 + (b - 48))) d Nothing) (follow f v d b)
      go (yea t) = let k : 1 ≤ v = leb-true 1 v (unfold continues in and_left _ _ t) in absurd
          (omega (arith, e ∙ ap (λ z. cond z (v * 10 + (b - 48)) 0) t))
      go (nay t) = rw t q

  -- it goes on
  pub next_digit : 1 ≤ n → To (Digits f n) d Nothing ≡ next (Digits f v) d b
  unfolding next longer
  next_digit l = go (told (continues v b))
    where
      go : Told (continues v b) → To (Digits f n) d Nothing ≡ cond (continues v b) (To (Digits f (v * 10 + (b - 48))) d Nothing) (follow f v d b)
      go (yea t) = rw t (ap (λ z. To (Digits f z) d Nothing) (e ∙ ap (λ z. cond z (v * 10 + (b - 48)) 0) t))
      go (nay t) = absurd (omega (arith, e ∙ ap (λ z. cond z (v * 10 + (b - 48)) 0) t))

-- one digit more of a number
pub stretch_digit : {s : Text} {i j : ℕ} {c : Control} (f : Field) (v n : ℕ) → Stretch s i c j (Digits f v) → j < length s → n ≡ longer v (get_or s j 0) → 1 ≤ n
    → Stretch s i c (j + 1) (Digits f n)
stretch_digit {s} {j} f v n p l e h = Stretches.further p l (Digits f n) (λ d. next_digit f v d (get_or s j 0) n e h)
