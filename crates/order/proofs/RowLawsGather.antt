-- The loops that test a row: the bits that its numbers have between them, and then its numbers as bits of one word. Assumes nothing.
-- Idea: the bits are below 64 where every number is, and then the word has just the numbers of the row so far.
use Rattle.std.specs.Prelude.{◌≡◌, refl, Bool, true, false, ◌&&◌, ◌||◌, List, [], ◌∷◌, ◌++◌, ℕ, zero, suc, ◌+◌, ◌*◌, ◌%◌, ◌^◌, ◌≤◌, ◌<◌, eqb, ltb, length, get_or, take}
use Rattle.std.proofs.Common.{sym, ap, ap₂, ◌∙◌, mod-lt, le_of_suc-le-suc, not-suc-le-zero, arith, lit<, take_all, take-suc, eqb-true, eq-eqb, ltb-true, lt-ltb, le-ltb}
use Rattle.std.specs.Int.Bits.{bit_or, or_add_and}
use Rattle.std.proofs.lemmas.Nat.{or_lt, and_le_l, and_le_r}
use Rattle.sets.specs.Word.{has, word_of}
use Rattle.sets.proofs.WordLaws.{has_word, has_none, has_or, has_pow, one_shifted, same_word}
use Rattle.sets.proofs.ToldLaws.{same_test, and_left, and_right}
use Rattle.order.specs.Row.{occurs, has_all, all_small, row_fits}
use Rattle.order.proofs.RowLaws.{occurs_append, small_append, has_all_lem, has_all_at}

-- the bits of two numbers are below 64 where both numbers are
or_small : (a b : ℕ) → ltb (bit_or a b) 64 ≡ (ltb a 64 && ltb b 64)
or_small a b = same_test (ltb (bit_or a b) 64) (ltb a 64 && ltb b 64) both each
  where
    both : ltb (bit_or a b) 64 ≡ true → (ltb a 64 && ltb b 64) ≡ true
    both e =
        let l = ltb-true (bit_or a b) 64 e in
        ap₂ ◌&&◌ (lt-ltb a 64 (omega (arith, l, or_add_and a b, and_le_r a b))) (lt-ltb b 64 (omega (arith, l, or_add_and a b, and_le_l a b)))

    each : (ltb a 64 && ltb b 64) ≡ true → ltb (bit_or a b) 64 ≡ true
    each e = lt-ltb (bit_or a b) 64 (or_lt 6 a b (ltb-true a 64 (and_left (ltb a 64) (ltb b 64) e)) (ltb-true b 64 (and_right (ltb a 64) (ltb b 64) e)))

-- the first j numbers and one more
more : (order : List ℕ) (j : ℕ) → length order ≡ 64 → j < 64 → take (j + 1) order ≡ take j order ++ (get_or order j 0 ∷ [])
more order j size l = let m : j + 1 ≡ suc j = omega arith in ap (λ (k : ℕ). take k order) m ∙ take-suc order j 0 (omega (arith, size))

-- the bits of the first j numbers are below 64 where these are
abbrev pub Below : List ℕ → ℕ → ℕ → Type 0
Below order bits j = ltb bits 64 ≡ all_small (take j order)

pub below_start : (order : List ℕ) → Below order 0 0
unfolding all_small
below_start order = refl

pub below_turn : (order : List ℕ) (bits j : ℕ) → length order ≡ 64 → Below order bits j → j < 64 → Below order (bit_or bits (get_or order j 0)) (j + 1)
unfolding all_small
below_turn order bits j size a l =
    or_small bits (get_or order j 0) ∙ ap₂ ◌&&◌ a (sym (and_true (ltb (get_or order j 0) 64))) ∙ sym (ap all_small (more order j size l) ∙ small_append (take j order) (get_or order j 0 ∷ []))
  where
    and_true : (b : Bool) → (b && true) ≡ b
    and_true true = refl
    and_true false = refl

pub below_end : (order : List ℕ) (bits j : ℕ) → length order ≡ 64 → Below order bits j → 64 ≤ j → ltb bits 64 ≡ all_small order
below_end order bits j size a l = a ∙ ap all_small (take_all j order (omega (arith, size)))

-- a number of a row of small numbers
pub small_at : (row : List ℕ) (j : ℕ) → all_small row ≡ true → j < length row → get_or row j 0 < 64
unfolding all_small
small_at [] j e l = absurd (not-suc-le-zero l)
small_at (q ∷ row) zero e l = ltb-true q 64 (and_left (ltb q 64) (all_small row) e)
small_at (q ∷ row) (suc j) e l = small_at row j (and_right (ltb q 64) (all_small row) e) (le_of_suc-le-suc l)

-- what is gathered of the first j numbers of a row of small numbers
pub record Gathered (order : List ℕ) (seen j : ℕ) : Type 0 where
  pub word : seen < 2 ^ 64
  pub known : (q : ℕ) → has seen q ≡ occurs q (take j order)

pub gathered_start : (order : List ℕ) → Gathered order 0 0
unfolding occurs
gathered_start order = record { word = lit< tt; known = λ q. has_none q }

pub gathered_turn : {order : List ℕ} {seen j : ℕ} → length order ≡ 64 → all_small order ≡ true → Gathered order seen j → j < 64
    → Gathered order (bit_or seen (1 * 2 ^ (get_or order j 0 % 64) % 2 ^ 64)) (j + 1)
unfolding occurs
gathered_turn {order} {seen} {j} size all a l = record {
  word = or_lt 64 seen (1 * 2 ^ (n % 64) % 2 ^ 64) a.word (mod-lt (1 * 2 ^ (n % 64)) (lit< tt));
  known = λ q. has_or seen (1 * 2 ^ (n % 64) % 2 ^ 64) q
      ∙ ap₂ ◌||◌ (a.known q) (ap (λ (w : ℕ). has w q) (shifted (small_at order j all (omega (arith, size)))) ∙ has_pow n q ∙ sym (or_false (eqb q n)))
      ∙ sym (ap (occurs q) (more order j size l) ∙ occurs_append q (take j order) (n ∷ []));
}
  where
    n : ℕ
    n = get_or order j 0

    shifted : n < 64 → 1 * 2 ^ (n % 64) % 2 ^ 64 ≡ 2 ^ n
    shifted k = let e : n % 64 ≡ n = omega arith in ap (λ (m : ℕ). 1 * 2 ^ m % 2 ^ 64) e ∙ one_shifted n k

    or_false : (b : Bool) → (b || false) ≡ b
    or_false true = refl
    or_false false = refl

-- the word of all numbers
abbrev pub all_bits : ℕ
all_bits = 18446744073709551615

all_word : all_bits ≡ word_of 64 (λ _. true)
unfolding word_of
all_word = refl

-- it has every number below 64
pub all_has : (q : ℕ) → q < 64 → has all_bits q ≡ true
all_has q l = ap (λ (w : ℕ). has w q) all_word ∙ has_word 64 (λ _. true) q l

-- in the end the word has every number, or not
pub gathered_all : {order : List ℕ} {seen j : ℕ} → length order ≡ 64 → all_small order ≡ true → Gathered order seen j → 64 ≤ j → eqb seen all_bits ≡ row_fits order
unfolding row_fits
gathered_all {order} {seen} {j} size all a l = same_test (eqb seen all_bits) (has_all 64 order) there back ∙ sym (ap (λ (b : Bool). b && has_all 64 order) all)
  where
    at : (q : ℕ) → has seen q ≡ occurs q order
    at q = a.known q ∙ ap (occurs q) (take_all j order (omega (arith, size)))

    there : eqb seen all_bits ≡ true → has_all 64 order ≡ true
    there e = has_all_lem 64 order (λ q m. sym (at q) ∙ ap (λ (w : ℕ). has w q) (eqb-true seen all_bits e) ∙ all_has q m)

    back : has_all 64 order ≡ true → eqb seen all_bits ≡ true
    back e = eq-eqb seen all_bits (same_word 64 seen all_bits a.word (lit< tt) (λ q m. at q ∙ has_all_at 64 q order m e ∙ sym (all_has q m)))

-- bits of 64 or more are of a row in which a number is too large
pub large_none : (order : List ℕ) (bits : ℕ) → ltb bits 64 ≡ all_small order → 64 ≤ bits → false ≡ row_fits order
unfolding row_fits
large_none order bits e l = sym (ap (λ (b : Bool). b && has_all 64 order) (sym e ∙ le-ltb bits 64 l))
