-- What a byte does, by the test that tells of it: a bracket, a digit, the beginning of a word or of a number. Assumes nothing.
use Rattle.std.specs.Prelude.{◌≡◌, refl, Bool, true, false, ℕ, zero, suc, ◌+◌, ◌-◌, ◌≤◌, ◌<◌, length, get_or}
use Rattle.std.proofs.Math.Path.{sym, ap}
use Rattle.std.proofs.Common.{◌∙◌, arith}
use mathlib.Core.List.{List, [], ◌∷◌}
use borrow.Author.Tests.{eq-eqb, ne_eqb, leb-true}
use Rattle.table.proofs.BaseLaws.{and_left}
use Rattle.language.specs.declared.Field.{Field}
use Rattle.language.specs.declared.Field.TheVariants.{PlaceName}
use Rattle.language.specs.declared.Control.TheVariants.{After, Before, Digits}
use Rattle.language.specs.declared.Event.{Event}
use Rattle.language.specs.declared.Event.TheVariants.{Nothing, NewAgent}
use Rattle.language.specs.declared.Moved.{Moved}
use Rattle.language.specs.declared.Moved.TheVariants.{To, Off}
use Rattle.language.specs.Machine.{is_digit, begin_word, begin_part, closed, least_of, next}
use Rattle.language.proofs.Coming.{least_one}

-- `]`, and a place is open
pub closed_one : (d : ℕ) (e : Event) (b : ℕ) → (d ≡ 0 → ⊥) → b ≡ 93 → To After (d - 1) e ≡ closed d e b
unfolding closed
closed_one zero e b n q = absurd (n refl)
closed_one (suc d) e b n q = rw (eq-eqb b 93 q) (ap (λ z. To After z e) (omega arith))

-- another byte
pub closed_none : (d : ℕ) (e : Event) (b : ℕ) → (b ≡ 93 → ⊥) → Off ≡ closed d e b
unfolding closed
closed_none zero e b q = refl
closed_none (suc d) e b q = rw (ne_eqb b 93 q)

-- nothing stands past the end of a word
pub past_end : (l : List ℕ) (i : ℕ) → length l ≤ i → 0 ≡ get_or l i 0
past_end [] i h = refl
past_end (x ∷ l) zero h = absurd (omega arith)
past_end (x ∷ l) (suc i) h = past_end l i (omega arith)

-- a digit is not below the least
pub digit_low : (least b : ℕ) (t : Bool) → t ≡ is_digit least b → t ≡ true → 48 + least ≤ b
digit_low least b t e q = leb-true (48 + least) b (and_left _ _ (sym e ∙ q))

module _ (d b : ℕ) (t : Bool) (e : t ≡ is_digit 1 b) where
  -- a name begins
  pub part_digit : (w : ℕ) → w ≡ b - 48 → t ≡ true → To (Digits PlaceName w) d Nothing ≡ begin_part d b
  unfolding begin_part
  part_digit w q h = rw (sym e ∙ h, q)

  -- a word begins
  pub part_word : (m : Moved) → t ≡ false → m ≡ begin_word d NewAgent b → m ≡ begin_part d b
  unfolding begin_part
  part_word m h q = rw (sym e ∙ h) q

module _ (f : Field) (d b : ℕ) (t : Bool) (l : ℕ) (k : l ≡ least_of f) (e : t ≡ is_digit l b) where
  -- a number does not begin
  pub before_off : t ≡ false → Off ≡ next (Before f) d b
  unfolding next
  before_off h = rw (← k, sym e ∙ h)

-- the least value of a number is 0 or 1
pub least_lt : {l : ℕ} (f : Field) → l ≡ least_of f → l < 2
least_lt f e = omega (arith, least_one f)
