-- The operators on a byte, by its bits: or sets one, and with the complement clears, and tells whether a bit is shared; and what bits the flags have then.
-- Assumes nothing.
-- Idea: two bytes with the same bits are the same; the complement goes by the lowest bit first.
use Rattle.std.specs.Prelude.{◌≡◌, ◌⊎◌, ◌≢◌, Bool, true, not, ◌&&◌, ◌||◌, ℕ, zero, suc, ◌-◌, ◌*◌, ◌/◌, ◌%◌, ◌^◌, ◌<◌, eqb}
use Rattle.std.proofs.Math.Path.{refl}
use Rattle.std.proofs.Common.{sym, ap, ◌∙◌, inl, inr, pow-suc, le_of_suc-le-suc, not-suc-le-zero, arith, lit<}
use Rattle.std.proofs.Math.Bool.{false, or_comm}
use Rattle.std.specs.Int.Bits.{bit_and, bit_or, and_lt}
use Rattle.std.proofs.lemmas.Nat.{or_lt, and_shr, and_mod}
use Rattle.std.proofs.Math.Pow.{pow-lt, shl_exact}
use Rattle.sets.specs.Word.{bit, has, word_of}
use Rattle.sets.proofs.WordLaws.{two_cases, has_zero, has_suc, word_ext, word_has, has_word, has_or, has_none, has_pow}
use Rattle.table.specs.Base.{any_below}
use Rattle.table.proofs.BaseLaws.{Told, yea, nay, told, clash, any_at, any_found}
use Rattle.window.specs.Window.{with_flag, cleared, shares}

-- ---- or

-- the or with one bit sets it
pub or_flag : (flags i : ℕ) → flags < 2 ^ 8 → i < 8 → bit_or flags (2 ^ i) ≡ with_flag i true flags
unfolding with_flag
or_flag w i h l = sym (word_has 8 (bit_or w (2 ^ i)) (or_lt 8 w (2 ^ i) h (pow-lt l)))
    ∙ word_ext 8 _ _ (λ j m. has_or w (2 ^ i) j ∙ ap (◌||◌ (has w j)) (has_pow i j) ∙ or_comm (has w j) (eqb j i))

-- a bit that is shifted to its place
pub or_shifted : (flags i : ℕ) → flags < 2 ^ 8 → i < 8 → bit_or flags (1 * 2 ^ i % 256) ≡ with_flag i true flags
or_shifted w i h l =
    let one : 1 * 2 ^ i ≡ 2 ^ i = omega arith in
    ap (bit_or w) (shl_exact {a = 1} 1 i 8 (lit< tt) (omega arith) ∙ one) ∙ or_flag w i h l

-- and nothing is set where nothing is to be
pub no_flag : (flags i : ℕ) → flags < 2 ^ 8 → flags ≡ with_flag i false flags
unfolding with_flag
no_flag w i h = sym (word_has 8 w h)

-- ---- and

and_bits : (p q : ℕ) → (p ≡ 0) ⊎ (p ≡ 1) → (q ≡ 0) ⊎ (q ≡ 1) → eqb (bit_and p q) 1 ≡ (eqb p 1 && eqb q 1)
and_bits p q (inl e) _ = rw e
and_bits p q (inr e) (inl d) = rw (e, d)
and_bits p q (inr e) (inr d) = rw (e, d)

pub has_and : (a b i : ℕ) → has (bit_and a b) i ≡ (has a i && has b i)
unfolding has
has_and a b i = ap (λ (x : ℕ). eqb (x % 2) 1) (and_shr a b i) ∙ go (a / 2 ^ i) (b / 2 ^ i)
  where
    go : (x y : ℕ) → eqb (bit_and x y % 2) 1 ≡ (eqb (x % 2) 1 && eqb (y % 2) 1)
    go x y = ap (λ (z : ℕ). eqb z 1) (and_mod x y 1) ∙ and_bits (x % 2) (y % 2) (two_cases x) (two_cases y)

-- ---- the complement

has_flip : (n x i : ℕ) → x < 2 ^ n → i < n → has (2 ^ n - 1 - x) i ≡ not (has x i)
has_flip zero x i h l = absurd (not-suc-le-zero l)
has_flip (suc n) x zero h l = has_zero (2 ^ suc n - 1 - x) ∙ low ∙ sym (ap not (has_zero x))
  where
    low : eqb ((2 ^ suc n - 1 - x) % 2) 1 ≡ not (eqb (x % 2) 1)
    low = go (two_cases x)
      where
        go : (x % 2 ≡ 0) ⊎ (x % 2 ≡ 1) → eqb ((2 ^ suc n - 1 - x) % 2) 1 ≡ not (eqb (x % 2) 1)
        go (inl e) = let z : (2 ^ suc n - 1 - x) % 2 ≡ 1 = rw (pow-suc 2 n) (let k = (rw (pow-suc 2 n) at h) in omega arith) in rw (z, e)
        go (inr e) = let z : (2 ^ suc n - 1 - x) % 2 ≡ 0 = rw (pow-suc 2 n) (let k = (rw (pow-suc 2 n) at h) in omega arith) in rw (z, e)
has_flip (suc n) x (suc i) h l =
    let k = (rw (pow-suc 2 n) at h) in
    let half : (2 ^ suc n - 1 - x) / 2 ≡ 2 ^ n - 1 - x / 2 = rw (pow-suc 2 n) (omega arith) in
    has_suc (2 ^ suc n - 1 - x) i ∙ ap (λ (y : ℕ). has y i) half ∙ has_flip n (x / 2) i (omega arith) (le_of_suc-le-suc l) ∙ sym (ap not (has_suc x i))

-- the and with the complement of the ones clears them
pub and_cleared : (flags ones : ℕ) → flags < 2 ^ 8 → ones < 2 ^ 8 → bit_and flags (255 - ones) ≡ cleared flags ones
unfolding cleared
and_cleared w x h k = sym (word_has 8 _ (and_lt 8 w (255 - x) h (omega arith)))
    ∙ word_ext 8 _ _ (λ j m. has_and w (255 - x) j ∙ ap (◌&&◌ (has w j)) (has_flip 8 x j k m))

-- ---- a shared bit

shared_at : (flags mask i : ℕ) → bit_and flags mask ≡ 0 → has flags i && has mask i ≡ false
shared_at a b i e = sym (has_and a b i) ∙ ap (λ (x : ℕ). has x i) e ∙ has_none i

-- the and is empty: none is shared
pub none_shared : (flags mask : ℕ) → bit_and flags mask ≡ 0 → 0 ≡ bit (shares flags mask)
unfolding shares
none_shared a b e = go (told (any_below (λ i. has a i && has b i) 8))
  where
    go : Told (any_below (λ i. has a i && has b i) 8) → 0 ≡ bit (any_below (λ i. has a i && has b i) 8)
    go (yea t) = let f = any_found (λ i. has a i && has b i) 8 t in clash f.1.1 (shared_at a b f.0 e)
    go (nay t) = rw t

-- it is not: one is
pub some_shared : (flags mask : ℕ) → flags < 2 ^ 8 → mask < 2 ^ 8 → bit_and flags mask ≢ 0 → 1 ≡ bit (shares flags mask)
unfolding shares
some_shared a b h k n = go (told (any_below (λ i. has a i && has b i) 8))
  where
    empty : any_below (λ i. has a i && has b i) 8 ≡ false → bit_and a b ≡ 0
    empty t = sym (word_has 8 _ (and_lt 8 a b h k)) ∙ word_ext 8 _ (λ i. false) (λ i l. has_and a b i ∙ out i l) ∙ unfold word_of in refl
      where
        out : (i : ℕ) → i < 8 → has a i && has b i ≡ false
        out i l = at (told (has a i && has b i))
          where
            at : Told (has a i && has b i) → has a i && has b i ≡ false
            at (yea e) = clash (any_at (λ j. has a j && has b j) 8 i l e) t
            at (nay e) = e

    go : Told (any_below (λ i. has a i && has b i) 8) → 1 ≡ bit (any_below (λ i. has a i && has b i) 8)
    go (yea t) = rw t
    go (nay t) = absurd (n (empty t))

-- ---- the flags

-- flag j once flag i is set, if b
pub has_flag : (i : ℕ) (b : Bool) (flags j : ℕ) → j < 8 → has (with_flag i b flags) j ≡ (b && eqb j i || has flags j)
unfolding with_flag
has_flag i b flags j l = has_word 8 _ j l

-- flag j once the ones are cleared
pub has_cleared : (flags ones j : ℕ) → j < 8 → has (cleared flags ones) j ≡ (has flags j && not (has ones j))
unfolding cleared
has_cleared flags ones j l = has_word 8 _ j l
