-- Laws of the set struct: members of what insertion, removal and union make, and loops that collect a set. Assumes nothing.
-- Idea: two sets with the same members below 64 are the same set, so each law is one about a single member.
use Rattle.std.specs.Prelude.{◌≡◌, refl, ◌⊎◌, Bool, true, false, not, ◌&&◌, ◌||◌, ℕ, zero, suc, ◌+◌, ◌*◌, ◌%◌, ◌^◌, ◌≤◌, ◌<◌, eqb}
use Rattle.std.proofs.Common.{sym, ap, ◌∙◌, subst, inl, inr, ⊎_elim, suc-le-suc, zero-le, zero-lt-suc, lt_of_lt_of_le, lt_irrefl, arith, lit<, eq-eqb, ne_eqb, lt-ltb, le-ltb}
use Rattle.std.proofs.Math.Bool.{xor}
use Rattle.std.proofs.Math.Pow.{pow-lt}
use Rattle.std.specs.Int.Bits.{bit_or, bit_xor}
use Rattle.std.proofs.lemmas.Nat.{or_lt, xor_lt}
use Rattle.sets.specs.Word.{has, upto}
use Rattle.sets.proofs.WordLaws.{word_ext, word_has, has_word, has_or, has_xor, has_none, has_pow, one_shifted}
use Rattle.sets.specs.Set.{member, set_of, inserted, inserted_if, removed, united}
use Rattle.sets.specs.declared.Set.{Set}
use Rattle.sets.specs.Set.{empty_set}

-- ---- a set is its members

-- two sets with the same word are the same set
pub set_eq : {s t : Set} → s.bits ≡ t.bits → s ≡ t
set_eq e = λ i. record { bits = e i }

pub set_ext : (f g : ℕ → Bool) → ((i : ℕ) → i < 64 → f i ≡ g i) → set_of f ≡ set_of g
set_ext f g h = set_eq (word_ext 64 f g h)

pub member_set : (f : ℕ → Bool) (i : ℕ) → i < 64 → member (set_of f) i ≡ f i
member_set f i l = has_word 64 f i l

pub set_member : (s : Set) → s.bits < 2 ^ 64 → set_of (member s) ≡ s
set_member s h = set_eq (word_has 64 s.bits h)

-- a number is below, at or above another
pub order : (j i : ℕ) → (j < i) ⊎ ((j ≡ i) ⊎ (i < j))
order zero zero = inr (inl refl)
order zero (suc i) = inl (zero-lt-suc i)
order (suc j) zero = inr (inr (zero-lt-suc j))
order (suc j) (suc i) = ⊎_elim (λ l. inl (suc-le-suc l)) (λ r. inr (⊎_elim (λ e. inl (ap suc e)) (λ l. inr (suc-le-suc l)) r)) (order j i)

-- ---- what the operators on words make

or_swap : (a b : Bool) → (a || b) ≡ (b || a)
or_swap true true = refl
or_swap true false = refl
or_swap false true = refl
or_swap false false = refl

-- the union is the or of the words
pub or_united : (s t : Set) → s.bits < 2 ^ 64 → t.bits < 2 ^ 64 → bit_or s.bits t.bits ≡ (united s t).bits
or_united s t h k = sym (word_has 64 _ (or_lt 64 s.bits t.bits h k)) ∙ word_ext 64 _ _ (λ i l. has_or s.bits t.bits i)

-- insertion is the or with the bit of the number
pub or_inserted : (s : Set) (i : ℕ) → s.bits < 2 ^ 64 → i < 64 → bit_or s.bits (1 * 2 ^ i % 2 ^ 64) ≡ (inserted s i).bits
or_inserted s i h l =
    ap (bit_or w) (one_shifted i l) ∙ sym (word_has 64 (bit_or w (2 ^ i)) (or_lt 64 w (2 ^ i) h (pow-lt l)))
    ∙ word_ext 64 _ _ (λ j m. has_or w (2 ^ i) j ∙ ap (◌||◌ (has w j)) (has_pow i j) ∙ or_swap (has w j) (eqb j i))
  where
    w : ℕ
    w = s.bits

-- inserting a number that is not below 64 does nothing
pub inserted_past : (s : Set) (i : ℕ) → s.bits < 2 ^ 64 → 64 ≤ i → s ≡ inserted s i
inserted_past s i h l = sym (set_member s h)
    ∙ set_ext _ _ (λ j m. sym (ap (λ (b : Bool). b || member s j) (ne_eqb j i (λ e. lt_irrefl j (lt_of_lt_of_le m (subst (λ (x : ℕ). 64 ≤ x) (sym e) l))))))

-- removal of a member is the exclusive or with the bit of the number
pub xor_removed : (s : Set) (i : ℕ) → s.bits < 2 ^ 64 → i < 64 → member s i ≡ true → bit_xor s.bits (1 * 2 ^ i % 2 ^ 64) ≡ (removed s i).bits
unfolding xor
xor_removed s i h l m =
    ap (bit_xor w) (one_shifted i l) ∙ sym (word_has 64 (bit_xor w (2 ^ i)) (xor_lt 64 w (2 ^ i) h (pow-lt l)))
    ∙ word_ext 64 _ _ (λ j k. has_xor w (2 ^ i) j ∙ ap (λ (b : Bool). xor b (has w j)) (has_pow i j) ∙ at j (order j i))
  where
    w : ℕ
    w = s.bits

    flip : (b : Bool) → xor false b ≡ b
    flip true = refl
    flip false = refl

    at : (j : ℕ) → (j < i) ⊎ ((j ≡ i) ⊎ (i < j)) → xor (eqb j i) (has w j) ≡ (not (eqb j i) && has w j)
    at j (inl d) = rw (ne_eqb j i (λ e. omega arith)) (flip (has w j))
    at j (inr (inl e)) = rw (eq-eqb j i e, ap (has w) e ∙ m)
    at j (inr (inr d)) = rw (ne_eqb j i (λ e. omega arith)) (flip (has w j))

-- removing what is no member does nothing
pub removed_none : (s : Set) (i : ℕ) → s.bits < 2 ^ 64 → member s i ≡ false → s ≡ removed s i
removed_none s i h m = sym (set_member s h) ∙ set_ext _ _ (λ j k. at j (order j i))
  where
    at : (j : ℕ) → (j < i) ⊎ ((j ≡ i) ⊎ (i < j)) → member s j ≡ (not (eqb j i) && member s j)
    at j (inl d) = rw (ne_eqb j i (λ e. omega arith))
    at j (inr (inl e)) = rw (eq-eqb j i e) (ap (member s) e ∙ m)
    at j (inr (inr d)) = rw (ne_eqb j i (λ e. omega arith))

-- ---- the members of what was made

pub member_inserted : (s : Set) (i j : ℕ) → j < 64 → member (inserted s i) j ≡ (eqb j i || member s j)
member_inserted s i j l = member_set (λ k. eqb k i || member s k) j l

pub member_removed : (s : Set) (i j : ℕ) → j < 64 → member (removed s i) j ≡ (not (eqb j i) && member s j)
member_removed s i j l = member_set (λ k. not (eqb k i) && member s k) j l

-- ---- a loop over the numbers from 0 on that inserts those of which f is true

pub collect_none : (f : ℕ → Bool) → empty_set ≡ set_of (upto 0 f)
collect_none f = sym (set_member empty_set (lit< tt)) ∙ set_ext _ _ (λ j l. has_none j ∙ sym (ap (λ (b : Bool). b && f j) (le-ltb j 0 zero-le)))

grown : (f : ℕ → Bool) (i j : ℕ) → f i ≡ true → (eqb j i || upto i f j) ≡ upto (i + 1) f j
grown f i j e = go (order j i)
  where
    go : (j < i) ⊎ ((j ≡ i) ⊎ (i < j)) → (eqb j i || upto i f j) ≡ upto (i + 1) f j
    go (inl l) = rw (ne_eqb j i (λ q. omega arith), lt-ltb j i l, lt-ltb j (i + 1) (omega arith))
    go (inr (inl q)) = rw (eq-eqb j i q, lt-ltb j (i + 1) (omega arith), q, e)
    go (inr (inr l)) = rw (ne_eqb j i (λ q. omega arith), le-ltb j i (omega arith), le-ltb j (i + 1) (omega arith))

kept : (f : ℕ → Bool) (i j : ℕ) → f i ≡ false → upto i f j ≡ upto (i + 1) f j
kept f i j e = go (order j i)
  where
    go : (j < i) ⊎ ((j ≡ i) ⊎ (i < j)) → upto i f j ≡ upto (i + 1) f j
    go (inl l) = rw (lt-ltb j i l, lt-ltb j (i + 1) (omega arith))
    go (inr (inl q)) = rw (le-ltb j i (omega arith), lt-ltb j (i + 1) (omega arith), q, e)
    go (inr (inr l)) = rw (le-ltb j i (omega arith), le-ltb j (i + 1) (omega arith))

-- one turn, whether it inserts or not
pub collect_more : (f : ℕ → Bool) (s : Set) (i : ℕ) (b : Bool) → b ≡ f i → s ≡ set_of (upto i f) → inserted_if s i b ≡ set_of (upto (i + 1) f)
collect_more f s i true e q = set_ext _ _ (λ j l. ap (◌||◌ (eqb j i)) (ap (λ (t : Set). member t j) q ∙ member_set (upto i f) j l) ∙ grown f i j (sym e))
collect_more f s i false e q = q ∙ set_ext _ _ (λ j l. kept f i j (sym e))
