-- Laws of a set's word: membership determines the word, and the counts of bits are counts of members. Assumes nothing.
-- Idea: everything goes by the lowest bit first, w % 2 and then w / 2, which is how word_of is built.
use Rattle.std.specs.Prelude.{◌≡◌, refl, ◌⊎◌, Bool, true, false, ◌||◌, cond, ℕ, zero, suc, ◌+◌, ◌*◌, ◌/◌, ◌%◌, ◌^◌, ◌≤◌, ◌<◌, eqb, ltb}
use Rattle.std.proofs.Common.{sym, ap, ap₂, ◌∙◌, subst, inl, inr, ⊎_elim, true≢false, zero-le, suc-le-suc, le_of_suc-le-suc, not-suc-le-zero, zero-lt-suc, mod-lt, div-add-mod', pow-suc, div-one, lt_of_lt_of_le, arith, lit<, pow_mono, shl_exact, ltb-true, ltb-false}
use Rattle.std.proofs.Math.Bool.{xor}
use Rattle.std.proofs.Math.Nat.{pow-succ', div-div-eq-div-mul, zero-div, div-eq_of_lt}
use Rattle.std.proofs.Math.Dec.{eqb-zero-suc, eqb-suc-zero, eqb-suc-suc}
use Rattle.std.proofs.Math.Arith.{digits_div, digits_mod, lt-one}
use Rattle.std.specs.Int.Bits.{bit_or, bit_xor}
use Rattle.std.proofs.lemmas.Nat.{xor_shr, xor_mod, or_shr, or_mod, trailing_le}
use Rattle.std.specs.Int.Count.{ones, ones_step, count_trailing_zeros, under}
use Rattle.sets.specs.Word.{bit, has, word_of, count_of, lowest_of}

-- ---- one bit

-- a remainder by 2 is 0 or 1
pub two_cases : (n : ℕ) → (n % 2 ≡ 0) ⊎ (n % 2 ≡ 1)
two_cases n = go (n % 2) (mod-lt n (zero-lt-suc 1))
  where
    go : (m : ℕ) → m < 2 → (m ≡ 0) ⊎ (m ≡ 1)
    go zero h = inl refl
    go (suc zero) h = inr refl
    go (suc (suc m)) h = absurd (not-suc-le-zero (le_of_suc-le-suc (le_of_suc-le-suc h)))

pub bit_lt : (b : Bool) → bit b < 2
bit_lt true = lit< tt
bit_lt false = lit< tt

bit_is : (b : Bool) → eqb (bit b) 1 ≡ b
bit_is true = refl
bit_is false = refl

bit_mod : (n : ℕ) → bit (eqb (n % 2) 1) ≡ n % 2
bit_mod n = ⊎_elim (λ e. rw e) (λ e. rw e) (two_cases n)

-- ---- membership, lowest bit first

pub has_zero : (w : ℕ) → has w 0 ≡ eqb (w % 2) 1
unfolding has
has_zero w = ap (λ (x : ℕ). eqb (x % 2) 1) (div-one w)

pub has_suc : (w i : ℕ) → has w (suc i) ≡ has (w / 2) i
unfolding has
has_suc w i = ap (λ (x : ℕ). eqb (x % 2) 1) (ap (λ (x : ℕ). w / x) (pow-succ' 2 i) ∙ sym (div-div-eq-div-mul w 2 (2 ^ i)))

-- ---- only the members below n matter

pub word_ext : (n : ℕ) (f g : ℕ → Bool) → ((i : ℕ) → i < n → f i ≡ g i) → word_of n f ≡ word_of n g
unfolding word_of
word_ext zero f g h = refl
word_ext (suc n) f g h = ap₂ (λ (x : ℕ) (b : Bool). x * 2 + bit b) (word_ext n _ _ (λ i l. h (suc i) (suc-le-suc l))) (h 0 (zero-lt-suc n))

-- no more than there are
pub count_most : (n : ℕ) (f : ℕ → Bool) → count_of n f ≤ n
unfolding count_of
count_most zero f = zero-le
count_most (suc n) f = omega (arith, bit_lt (f 0), count_most n (λ i. f (suc i)))

pub count_ext : (n : ℕ) (f g : ℕ → Bool) → ((i : ℕ) → i < n → f i ≡ g i) → count_of n f ≡ count_of n g
unfolding count_of
count_ext zero f g h = refl
count_ext (suc n) f g h = ap₂ (λ (x : ℕ) (b : Bool). bit b + x) (count_ext n _ _ (λ i l. h (suc i) (suc-le-suc l))) (h 0 (zero-lt-suc n))

pub lowest_ext : (n : ℕ) (f g : ℕ → Bool) → ((i : ℕ) → i < n → f i ≡ g i) → lowest_of n f ≡ lowest_of n g
unfolding lowest_of
lowest_ext zero f g h = refl
lowest_ext (suc n) f g h = ap₂ (λ (x : ℕ) (b : Bool). cond b 0 (suc x)) (lowest_ext n _ _ (λ i l. h (suc i) (suc-le-suc l))) (h 0 (zero-lt-suc n))

-- ---- the word of a membership test

word_half : (n : ℕ) (f : ℕ → Bool) → word_of (suc n) f / 2 ≡ word_of n (λ i. f (suc i))
unfolding word_of
word_half n f = digits_div _ (bit_lt (f 0))

word_low : (n : ℕ) (f : ℕ → Bool) → word_of (suc n) f % 2 ≡ bit (f 0)
unfolding word_of
word_low n f = digits_mod _ (bit_lt (f 0))

pub word_lt : (n : ℕ) (f : ℕ → Bool) → word_of n f < 2 ^ n
unfolding word_of
word_lt zero f = lit< tt
word_lt (suc n) f = let h = word_lt n (λ i. f (suc i)) in let b = bit_lt (f 0) in rw (pow-suc 2 n) (omega arith)

-- below n, the members of the word of f are the numbers of which f is true
pub has_word : (n : ℕ) (f : ℕ → Bool) (i : ℕ) → i < n → has (word_of n f) i ≡ f i
has_word zero f i h = absurd (not-suc-le-zero h)
has_word (suc n) f zero h = has_zero _ ∙ ap (λ (x : ℕ). eqb x 1) (word_low n f) ∙ bit_is (f 0)
has_word (suc n) f (suc i) h = has_suc _ i ∙ ap (λ (x : ℕ). has x i) (word_half n f) ∙ has_word n (λ j. f (suc j)) i (le_of_suc-le-suc h)

-- a word is that of its membership test
pub word_has : (n w : ℕ) → w < 2 ^ n → word_of n (has w) ≡ w
unfolding word_of
word_has zero w h = sym (lt-one h)
word_has (suc n) w h =
    let half : w / 2 < 2 ^ n = omega (arith, (rw (pow-suc 2 n) at h)) in
    ap₂ (λ (x y : ℕ). x * 2 + y) (word_ext n _ _ (λ i l. has_suc w i) ∙ word_has n (w / 2) half) (ap bit (has_zero w) ∙ bit_mod w) ∙ div-add-mod' w 2

-- nothing at or past the length is a member
pub has_past : (n w i : ℕ) → w < 2 ^ n → n ≤ i → has w i ≡ false
unfolding has
has_past n w i h l = ap (λ (x : ℕ). eqb (x % 2) 1) (div-eq_of_lt (lt_of_lt_of_le h (pow_mono l)))

-- so a member is below the length
pub has_lt : (n w i : ℕ) → w < 2 ^ n → has w i ≡ true → i < n
has_lt n w i h e = go (ltb i n) refl
  where
    go : (b : Bool) → ltb i n ≡ b → i < n
    go true t = ltb-true i n t
    go false t = absurd (true≢false (sym e ∙ has_past n w i h (ltb-false i n t)))

-- two words of length n with the same members below n are equal
pub same_word : (n w v : ℕ) → w < 2 ^ n → v < 2 ^ n → ((i : ℕ) → i < n → has w i ≡ has v i) → w ≡ v
same_word n w v h k e = sym (word_has n w h) ∙ word_ext n _ _ e ∙ word_has n v k

-- ---- the counts

pub ones_word : (n : ℕ) (f : ℕ → Bool) → ones (word_of n f) ≡ count_of n f
unfolding ones count_of word_of
ones_word zero f = refl
ones_word (suc n) f = ones_step (word_of (suc n) f) ∙ ap₂ (λ (x y : ℕ). x + ones y) (word_low n f) (word_half n f) ∙ ap (λ (x : ℕ). bit (f 0) + x) (ones_word n (λ i. f (suc i)))

under_bit : (b : Bool) (t : ℕ) → under (bit b) t ≡ cond b 0 (suc t)
under_bit true t = refl
under_bit false t = refl

pub trailing_word : (n : ℕ) (f : ℕ → Bool) → count_trailing_zeros n (word_of n f) ≡ lowest_of n f
unfolding count_trailing_zeros lowest_of
trailing_word zero f = refl
trailing_word (suc n) f = ap₂ (λ (x y : ℕ). under x (count_trailing_zeros n y)) (word_low n f) (word_half n f) ∙ under_bit (f 0) _ ∙ ap (λ (x : ℕ). cond (f 0) 0 (suc x)) (trailing_word n (λ i. f (suc i)))

pub ones_has : (n w : ℕ) → w < 2 ^ n → ones w ≡ count_of n (has w)
ones_has n w h = ap ones (sym (word_has n w h)) ∙ ones_word n (has w)

pub trailing_has : (n w : ℕ) → w < 2 ^ n → count_trailing_zeros n w ≡ lowest_of n (has w)
trailing_has n w h = ap (count_trailing_zeros n) (sym (word_has n w h)) ∙ trailing_word n (has w)

pub lowest_le : (n : ℕ) (f : ℕ → Bool) → lowest_of n f ≤ n
lowest_le n f = subst (λ (x : ℕ). x ≤ n) (trailing_word n f) (trailing_le n (word_of n f))

-- ---- the operators on words, by members

or_bits : (p q : ℕ) → (p ≡ 0) ⊎ (p ≡ 1) → (q ≡ 0) ⊎ (q ≡ 1) → eqb (bit_or p q) 1 ≡ (eqb p 1 || eqb q 1)
or_bits p q (inl e) (inl d) = rw (e, d)
or_bits p q (inl e) (inr d) = rw (e, d)
or_bits p q (inr e) (inl d) = rw (e, d)
or_bits p q (inr e) (inr d) = rw (e, d)

xor_bits : (p q : ℕ) → (p ≡ 0) ⊎ (p ≡ 1) → (q ≡ 0) ⊎ (q ≡ 1) → eqb (bit_xor p q) 1 ≡ xor (eqb q 1) (eqb p 1)
unfolding xor
xor_bits p q (inl e) (inl d) = rw (e, d)
xor_bits p q (inl e) (inr d) = rw (e, d)
xor_bits p q (inr e) (inl d) = rw (e, d)
xor_bits p q (inr e) (inr d) = rw (e, d)

pub has_or : (a b i : ℕ) → has (bit_or a b) i ≡ (has a i || has b i)
unfolding has
has_or a b i = ap (λ (x : ℕ). eqb (x % 2) 1) (or_shr a b i) ∙ go (a / 2 ^ i) (b / 2 ^ i)
  where
    go : (x y : ℕ) → eqb (bit_or x y % 2) 1 ≡ (eqb (x % 2) 1 || eqb (y % 2) 1)
    go x y = ap (λ (z : ℕ). eqb z 1) (or_mod x y 1) ∙ or_bits (x % 2) (y % 2) (two_cases x) (two_cases y)

pub has_xor : (a b i : ℕ) → has (bit_xor a b) i ≡ xor (has b i) (has a i)
unfolding has
has_xor a b i = ap (λ (x : ℕ). eqb (x % 2) 1) (xor_shr a b i) ∙ go (a / 2 ^ i) (b / 2 ^ i)
  where
    go : (x y : ℕ) → eqb (bit_xor x y % 2) 1 ≡ xor (eqb (y % 2) 1) (eqb (x % 2) 1)
    go x y = ap (λ (z : ℕ). eqb z 1) (xor_mod x y 1) ∙ xor_bits (x % 2) (y % 2) (two_cases x) (two_cases y)

-- the empty word has no members
pub has_none : (i : ℕ) → has 0 i ≡ false
unfolding has
has_none i = ap (λ (x : ℕ). eqb (x % 2) 1) (zero-div (2 ^ i))

-- 2 ^ k has the one member k
pub has_pow : (k i : ℕ) → has (2 ^ k) i ≡ eqb i k
has_pow zero zero = has_zero 1
has_pow zero (suc i) = has_suc 1 i ∙ has_none i ∙ sym (eqb-suc-zero i)
has_pow (suc k) zero = has_zero (2 ^ suc k) ∙ ap (λ (x : ℕ). eqb x 1) (ap (λ (x : ℕ). x % 2) (pow-suc 2 k) ∙ even (2 ^ k)) ∙ sym (eqb-zero-suc k)
  where
    even : (n : ℕ) → n * 2 % 2 ≡ 0
    even n = omega arith
has_pow (suc k) (suc i) = has_suc (2 ^ suc k) i ∙ ap (λ (x : ℕ). has x i) (ap (λ (x : ℕ). x / 2) (pow-suc 2 k) ∙ half (2 ^ k)) ∙ has_pow k i ∙ sym (eqb-suc-suc i k)
  where
    half : (n : ℕ) → n * 2 / 2 ≡ n
    half n = omega arith

-- the word that a shift of 1 by i makes
pub one_shifted : (i : ℕ) → i < 64 → 1 * 2 ^ i % 2 ^ 64 ≡ 2 ^ i
one_shifted i l = shl_exact 1 i 64 (lit< tt) (omega arith) ∙ one_times (2 ^ i)
  where
    one_times : (n : ℕ) → 1 * n ≡ n
    one_times n = omega arith
