-- The digits of a number, the last one after those of its tenth. Assumes nothing.
use Rattle.std.specs.Prelude.{◌≡◌, List, [], ◌∷◌, ◌++◌, ℕ, suc, ◌+◌, ◌/◌, ◌%◌, ◌<◌, ◌≤◌}
use Rattle.std.proofs.Common.{sym, ap, ap₂, ◌∙◌, arith, sub-one}
use Rattle.meaning.specs.Text.{digits}
use Rattle.text.proofs.DigitLaws.{digits_one, digits_more}

some : {k : ℕ} → suc k ≡ 0 → ⊥
some e = omega arith

-- a number of one digit
pub one_digit : (k : ℕ) {n a : ℕ} → n < 10 → a ≡ 48 + n % 10 → digits (suc k) n ≡ a ∷ []
one_digit k {n} l e = digits_one (suc k) n some l ∙ ap (λ (x : ℕ). x ∷ []) (sym e)

-- and of one digit more
pub digit_more : (k : ℕ) {n a : ℕ} {t : List ℕ} → 10 ≤ n → a ≡ 48 + n % 10 → digits k (n / 10) ≡ t → digits (suc k) n ≡ t ++ (a ∷ [])
digit_more k {n} l e h = digits_more (suc k) n some l ∙ ap (λ (j : ℕ). digits j (n / 10) ++ ((48 + n % 10) ∷ [])) (sub-one (suc k)) ∙ ap₂ (λ (s : List ℕ) (x : ℕ). s ++ (x ∷ [])) h (sym e)
