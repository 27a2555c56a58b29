-- A number in decimal can be read back, also from before what is no digit. Of numbers of 16 bits, as names and keys are.
-- Idea: the digits in front of a text are told apart from what follows, and have one value.
use Rattle.std.specs.Prelude.{◌≡◌, refl, ◌≢◌, Bool, true, false, ◌&&◌, cond, ℕ, zero, suc, ◌+◌, ◌-◌, ◌*◌, ◌/◌, ◌%◌, ◌≤◌, ◌<◌, ltb, leb}
use Rattle.std.proofs.Common.{sym, ap, ◌∙◌, arith, ltb-true, ltb-false, le-leb, ne_eqb}
use mathlib.Core.List.{[], ◌∷◌, ◌++◌, append-nil, append_cancel_left, cons≢nil, concat-ne-nil}
use Rattle.table.proofs.BaseLaws.{Told, yea, nay, told}
use Rattle.meaning.specs.Text.{digits, decimal}
use Rattle.meaning.proofs.SortedLaws.{Text}
use Rattle.meaning.proofs.Every.{every_append, every_so}
use Rattle.meaning.specs.Every.{every_none, every_more, Every}
use Rattle.calculus.proofs.TextParts.{Clear, is_mild, clear_mild}

-- ---- digits

-- a byte that is a digit, as a test
abbrev pub is_digit : ℕ → Bool
is_digit c = leb 48 c && leb c 57

-- as a proposition
pub record Digit (c : ℕ) : Type 0 where
  pub low : 48 ≤ c
  pub high : c ≤ 57

-- a decimal has digits only
every_digit : (k n : ℕ) → Every Digit (digits k n)
unfolding digits
every_digit zero n = every_none
every_digit (suc k) n = go (told (ltb n 10)) (every_digit k (n / 10))
  where
    go : Told (ltb n 10) → Every Digit (digits k (n / 10)) → Every Digit (digits (suc k) n)
    go (yea e) _ = let d : Digit (48 + n) = record { low = omega arith; high = omega (arith, ltb-true n 10 e) } in rw e (every_more d every_none)
    go (nay e) rest = let d : Digit (48 + n % 10) = record { low = omega arith; high = omega arith } in
        rw e (every_append rest (every_more d every_none))

-- with twenty digits too
pub decimal_digits : (n : ℕ) → Every Digit (decimal n)
decimal_digits n = every_digit 20 n

-- and one at least
pub decimal_some : (n : ℕ) → decimal n ≢ []
unfolding digits
decimal_some n e = go (told (ltb n 10))
  where
    go : Told (ltb n 10) → ⊥
    go (yea h) = cons≢nil (rw h at e)
    go (nay h) = concat-ne-nil (48 + n % 10) (digits 19 (n / 10)) (rw h at e)

-- no bar and no bracket is in it
pub clear_decimal : (n : ℕ) → Clear (decimal n)
clear_decimal n = clear_mild (every_so mild (decimal_digits n))
  where
    mild : (c : ℕ) → Digit c → is_mild c ≡ true
    mild c d = let l = d.high in rw (ne_eqb c 124 (λ e. absurd (omega arith)), ne_eqb c 91 (λ e. absurd (omega arith)), ne_eqb c 93 (λ e. absurd (omega arith)))

-- the first byte of a text
abbrev pub lead : Text → ℕ
lead [] = 0
lead (c ∷ x) = c

-- a decimal begins with a digit
pub lead_decimal : (n : ℕ) (x : Text) → Digit (lead (decimal n ++ x))
lead_decimal n x = go (decimal_digits n) (decimal_some n)
  where
    go : {l : Text} → Every Digit l → l ≢ [] → Digit (lead (l ++ x))
    go every_none s = absurd (s refl)
    go (every_more d e) s = d

-- ---- the value of digits

-- numbers of at most k digits are below it
ten : ℕ → ℕ
ten zero = 1
ten (suc k) = 10 * ten k

-- the value of digits after others of value a
value_of : ℕ → Text → ℕ
value_of a [] = a
value_of a (c ∷ x) = value_of (a * 10 + (c - 48)) x

-- with one digit more
value_last : (a : ℕ) (x : Text) (c : ℕ) → value_of a (x ++ (c ∷ [])) ≡ value_of a x * 10 + (c - 48)
unfolding value_of
value_last a [] c = refl
value_last a (d ∷ x) c = value_last (a * 10 + (d - 48)) x c

-- the digits of a number have its value
value_digits : (k n : ℕ) → n < ten k → value_of 0 (digits k n) ≡ n
unfolding digits value_of ten
value_digits zero n l = omega arith
value_digits (suc k) n l = go (told (ltb n 10)) (value_digits k (n / 10))
  where
    go : Told (ltb n 10) → (n / 10 < ten k → value_of 0 (digits k (n / 10)) ≡ n / 10) → value_of 0 (digits (suc k) n) ≡ n
    go (yea e) _ = rw e (omega arith)
    go (nay e) rest = rw e (value_last 0 (digits k (n / 10)) (48 + n % 10) ∙ omega (arith, rest (omega (arith, ltb-false n 10 e))))

-- numbers with one decimal are the same
decimal_one : (n m : ℕ) → n < 65536 → m < 65536 → decimal n ≡ decimal m → n ≡ m
unfolding ten
decimal_one n m a b e = sym (value_digits 20 n (omega arith)) ∙ ap (value_of 0) e ∙ value_digits 20 m (omega arith)

-- ---- a decimal and what follows it

-- the digits in front of a text
front : Text → Text
front [] = []
front (c ∷ x) = cond (is_digit c) (c ∷ front x) []

-- of digits and what follows them
front_append : {l : Text} → Every Digit l → (x : Text) → front (l ++ x) ≡ l ++ front x
unfolding front
front_append every_none x = refl
front_append (every_more {x = c} d e) x = rw (le-leb 48 c d.low, le-leb c 57 d.high) (ap (λ z. c ∷ z) (front_append e x))

-- what may follow a decimal: nothing, or a byte that is no digit
pub data Stop : Text → Type 0 where
  stop_end : Stop []
  stop_byte : {c : ℕ} {x : Text} → is_digit c ≡ false → Stop (c ∷ x)

-- there is none in front of it
front_stop : {x : Text} → Stop x → front x ≡ []
unfolding front
front_stop stop_end = refl
front_stop (stop_byte e) = rw e

-- a decimal before such a text is told apart from it, and tells its number
pub decimal_split : (n m : ℕ) {x y : Text} → n < 65536 → m < 65536 → Stop x → Stop y → decimal n ++ x ≡ decimal m ++ y → (n ≡ m) × (x ≡ y)
decimal_split n m {x} {y} u v s r e =
    let g : decimal n ≡ decimal m = sym (whole n s) ∙ ap front e ∙ whole m r in
    (decimal_one n m u v g, append_cancel_left (decimal m) x y (ap (λ z. z ++ x) (sym g) ∙ e))
  where
    whole : (k : ℕ) {z : Text} → Stop z → front (decimal k ++ z) ≡ decimal k
    whole k {z} t = front_append (decimal_digits k) z ∙ ap (λ w. decimal k ++ w) (front_stop t) ∙ append-nil (decimal k)
