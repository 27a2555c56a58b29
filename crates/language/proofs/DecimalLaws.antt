-- Decimals, digit by digit: a number of one digit, and one digit more.
use Rattle.std.specs.Prelude.{◌≡◌, List, [], ◌∷◌, ◌++◌, ℕ, zero, suc, ◌+◌, ◌*◌, ◌/◌, ◌%◌, ◌≤◌, ◌<◌, ltb}
use Rattle.std.proofs.Common.{sym, ap, ◌∙◌, arith, ltb-true, ltb-false, lt-ltb, le-ltb}
use Rattle.std.proofs.Math.Bridge.{le_by_compare, IsLe}
use Rattle.table.proofs.BaseLaws.{Told, yea, nay, told}
use Rattle.meaning.specs.Text.{digits, decimal}

-- numbers of k digits are below this
unfoldable pub bound : ℕ → ℕ
bound zero = 1
bound (suc k) = 10 * bound k

-- one digit
digits_one : (k n : ℕ) → n < 10 → digits (suc k) n ≡ (48 + n) ∷ []
unfolding digits
digits_one k n l = rw (lt-ltb n 10 l)

-- the last digit after the others
digits_step : (k n : ℕ) → 10 ≤ n → digits (suc k) n ≡ digits k (n / 10) ++ ((48 + n % 10) ∷ [])
unfolding digits
digits_step k n l = rw (le-ltb n 10 l)

-- one digit more than enough changes nothing
digits_fuel : (k n : ℕ) → n < bound (suc k) → digits (suc (suc k)) n ≡ digits (suc k) n
unfolding bound
digits_fuel zero n l = digits_one 1 n (omega arith) ∙ sym (digits_one 0 n (omega arith))
digits_fuel (suc k) n l = go (told (ltb n 10)) (λ h. digits_fuel k (n / 10) h)
  where
    go : Told (ltb n 10) → (n / 10 < bound (suc k) → digits (suc (suc k)) (n / 10) ≡ digits (suc k) (n / 10))
        → digits (suc (suc (suc k))) n ≡ digits (suc (suc k)) n
    go (yea e) r = digits_one _ n (ltb-true n 10 e) ∙ sym (digits_one _ n (ltb-true n 10 e))
    go (nay e) r = digits_step _ n (ltb-false n 10 e) ∙ ap (λ (z : List ℕ). z ++ ((48 + n % 10) ∷ [])) (r (omega arith))
        ∙ sym (digits_step _ n (ltb-false n 10 e))

-- a number of one digit
pub decimal_one : (m : ℕ) → m ≤ 9 → decimal m ≡ (48 + m) ∷ []
decimal_one m l = digits_one 19 m (omega arith)

-- nineteen digits are enough
large : 65535 < bound 19
unfolding bound IsLe
large = le_by_compare 65536 (bound 19) tt

-- one digit more
pub decimal_more : (v m : ℕ) → 1 ≤ v → v ≤ 65535 → m ≤ 9 → decimal (v * 10 + m) ≡ decimal v ++ ((48 + m) ∷ [])
decimal_more v m l h d = digits_step 19 (v * 10 + m) (omega arith)
    ∙ ap (λ (z : List ℕ). z ++ ((48 + (v * 10 + m) % 10) ∷ [])) (ap (digits 19) quotient ∙ sym (digits_fuel 18 v (omega (arith, large))))
    ∙ ap (λ (z : ℕ). decimal v ++ ((48 + z) ∷ [])) remainder
  where
    quotient : (v * 10 + m) / 10 ≡ v
    quotient = omega arith

    remainder : (v * 10 + m) % 10 ≡ m
    remainder = omega arith
