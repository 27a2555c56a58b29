-- A loop that takes the members of a set in order, lowest first, until none is left. Assumes nothing.
-- Idea: what is left are the members from some number i on; between i and the lowest that is left there is no member.
use Rattle.std.specs.Prelude.{◌≡◌, refl, ◌⊎◌, Bool, true, false, not, ◌&&◌, cond, ℕ, zero, suc, ◌+◌, ◌*◌, ◌-◌, ◌/◌, ◌%◌, ◌^◌, ◌≤◌, ◌<◌, eqb, leb, Some}
use Rattle.std.proofs.Common.{sym, ap, ap₂, ◌∙◌, subst, inl, inr, zero-le, le_of_suc-le-suc, not-suc-le-zero, pow-suc, lt_of_le_of_lt, arith, lit<, eq-eqb, ne_eqb, le-leb, leb-true}
use Rattle.std.proofs.lemmas.Bool.{false≢true, lt-leb}
use Rattle.std.proofs.Math.Dec.{eqb-zero-suc, eqb-suc-zero, eqb-suc-suc}
use Rattle.std.proofs.Math.Arith.{lt-one}
use Rattle.std.specs.Int.Bits.{bit_and, and_step, and_self}
use Rattle.std.proofs.lemmas.Nat.{and_le_l, and_le_r}
use Rattle.sets.specs.Word.{has, lowest_of}
use Rattle.sets.proofs.WordLaws.{two_cases, has_zero, has_suc, has_none, same_word, lowest_ext, lowest_le, word_lt}
use Rattle.sets.specs.Set.{member, removed}
use Rattle.sets.proofs.SetLaws.{order, member_removed, removed_none}
use Rattle.sets.specs.declared.Set.{Set}
use Rattle.sets.specs.Walk.{lowest_in, Rest, TakesLowest}

-- ---- the lowest member

-- below it there is none
pub lowest_below : (n : ℕ) (f : ℕ → Bool) (j : ℕ) → j < lowest_of n f → f j ≡ false
unfolding lowest_of
lowest_below zero f j l = absurd (not-suc-le-zero l)
lowest_below (suc n) f j l = go (f 0) refl j l (lowest_below n (λ i. f (suc i)))
  where
    m : ℕ
    m = lowest_of n (λ i. f (suc i))

    go : (b : Bool) → f 0 ≡ b → (j : ℕ) → j < cond b 0 (suc m) → ((i : ℕ) → i < m → f (suc i) ≡ false) → f j ≡ false
    go true e j l r = absurd (not-suc-le-zero l)
    go false e zero l r = e
    go false e (suc j) l r = r j (le_of_suc-le-suc l)

-- it is a member, where it is below n
pub lowest_found : (n : ℕ) (f : ℕ → Bool) → lowest_of n f < n → f (lowest_of n f) ≡ true
unfolding lowest_of
lowest_found zero f l = absurd (not-suc-le-zero l)
lowest_found (suc n) f l = go (f 0) refl l (lowest_found n (λ i. f (suc i)))
  where
    m : ℕ
    m = lowest_of n (λ i. f (suc i))

    go : (b : Bool) → f 0 ≡ b → cond b 0 (suc m) < suc n → (m < n → f (suc m) ≡ true) → f (cond b 0 (suc m)) ≡ true
    go true e l r = e
    go false e l r = r (le_of_suc-le-suc l)

-- a word that is not 0 has one
pub lowest_lt : (n w : ℕ) → w < 2 ^ n → 0 < w → lowest_of n (has w) < n
lowest_lt n w h k = go (order (lowest_of n (has w)) n)
  where
    go : (lowest_of n (has w) < n) ⊎ ((lowest_of n (has w) ≡ n) ⊎ (n < lowest_of n (has w))) → lowest_of n (has w) < n
    go (inl l) = l
    go (inr (inl e)) = absurd (let z : w ≡ 0 = same_word n w 0 h (omega arith) (λ i l. lowest_below n (has w) i (subst (λ (m : ℕ). i < m) (sym e) l) ∙ sym (has_none i)) in omega arith)
    go (inr (inr l)) = absurd (let z = lowest_le n (has w) in omega arith)

-- ---- without its lowest member

-- twice a word has the members of the word, one further up
has_double : (v i : ℕ) → has (v * 2) (suc i) ≡ has v i
has_double v i = has_suc (v * 2) i ∙ ap (λ (x : ℕ). has x i) (half v)
  where
    half : (n : ℕ) → n * 2 / 2 ≡ n
    half n = omega arith

no_double : (v : ℕ) → has (v * 2) 0 ≡ false
no_double v = has_zero (v * 2) ∙ ap (λ (x : ℕ). eqb x 1) (even v)
  where
    even : (n : ℕ) → n * 2 % 2 ≡ 0
    even n = omega arith

-- an odd word and the word before it share all bits but the lowest
and_odd : (w : ℕ) → w % 2 ≡ 1 → bit_and w (w - 1) ≡ w / 2 * 2
and_odd w e =
    let p : (w - 1) / 2 ≡ w / 2 = omega arith in
    let q : (w - 1) % 2 ≡ 0 = omega arith in
    and_step w (w - 1) ∙ rw (p, q, e, and_self (w / 2)) (plain (w / 2))
  where
    plain : (v : ℕ) → v * 2 + 0 ≡ v * 2
    plain v = omega arith

-- an even word and the word before it: the same of their halves
and_even : (w : ℕ) → 0 < w → w % 2 ≡ 0 → bit_and w (w - 1) ≡ bit_and (w / 2) (w / 2 - 1) * 2
and_even w l e =
    let p : (w - 1) / 2 ≡ w / 2 - 1 = omega arith in
    let q : (w - 1) % 2 ≡ 1 = omega arith in
    and_step w (w - 1) ∙ rw (p, q, e) (plain (bit_and (w / 2) (w / 2 - 1)))
  where
    plain : (v : ℕ) → v * 2 + 0 ≡ v * 2
    plain v = omega arith

-- the and with the word before it takes a word's lowest member out
pub and_lowest : (n w : ℕ) → w < 2 ^ n → 0 < w → (j : ℕ) → has (bit_and w (w - 1)) j ≡ (not (eqb j (lowest_of n (has w))) && has w j)
unfolding lowest_of
and_lowest zero w h k j = absurd (let z = lt-one h in omega arith)
and_lowest (suc n) w h k j = go (two_cases w) (and_lowest n (w / 2)) j
  where
    half_lt : w / 2 < 2 ^ n
    half_lt = omega (arith, (rw (pow-suc 2 n) at h))

    lowest_half : lowest_of n (λ i. has w (suc i)) ≡ lowest_of n (has (w / 2))
    lowest_half = lowest_ext n (λ i. has w (suc i)) (has (w / 2)) (λ i l. has_suc w i)

    Halves : Type 0
    Halves = w / 2 < 2 ^ n → 0 < w / 2 → (j : ℕ) → has (bit_and (w / 2) (w / 2 - 1)) j ≡ (not (eqb j (lowest_of n (has (w / 2)))) && has (w / 2) j)

    go : (w % 2 ≡ 0) ⊎ (w % 2 ≡ 1) → Halves → (j : ℕ) → has (bit_and w (w - 1)) j ≡ (not (eqb j (cond (has w 0) 0 (suc (lowest_of n (λ i. has w (suc i)))))) && has w j)
    go (inr e) r zero = ap (λ (x : ℕ). has x 0) (and_odd w e) ∙ no_double (w / 2) ∙ sym (rw (has_zero w ∙ ap (λ (x : ℕ). eqb x 1) e))
    go (inr e) r (suc i) = ap (λ (x : ℕ). has x (suc i)) (and_odd w e) ∙ has_double (w / 2) i ∙ sym (has_suc w i) ∙ sym (rw (has_zero w ∙ ap (λ (x : ℕ). eqb x 1) e, eqb-suc-zero i))
    go (inl e) r zero = ap (λ (x : ℕ). has x 0) (and_even w k e) ∙ no_double (bit_and (w / 2) (w / 2 - 1)) ∙ sym (rw (has_zero w ∙ ap (λ (x : ℕ). eqb x 1) e, eqb-zero-suc (lowest_of n (λ i. has w (suc i)))))
    go (inl e) r (suc i) =
        ap (λ (x : ℕ). has x (suc i)) (and_even w k e) ∙ has_double (bit_and (w / 2) (w / 2 - 1)) i
        ∙ r half_lt (omega arith) i
        ∙ ap₂ (λ (m : ℕ) (b : Bool). not (eqb i m) && b) (sym lowest_half) (sym (has_suc w i))
        ∙ sym (rw (has_zero w ∙ ap (λ (x : ℕ). eqb x 1) e, eqb-suc-suc i (lowest_of n (λ i. has w (suc i)))))

pub and_removed : (s : Set) → s.bits < 2 ^ 64 → 0 < s.bits → bit_and s.bits (s.bits - 1) ≡ (removed s (lowest_in s)).bits
and_removed s h k = same_word 64 _ _ (lt_of_le_of_lt (and_le_l s.bits (s.bits - 1)) h) (word_lt 64 _)
    (λ i l. and_lowest 64 s.bits h k i ∙ sym (member_removed s (lowest_in s) i l))

-- what has no members has no lowest one to remove
pub removed_empty : (s : Set) → s.bits ≡ 0 → s ≡ removed s (lowest_in s)
removed_empty s e = removed_none s (lowest_in s) (subst (λ (x : ℕ). x < 2 ^ 64) (sym e) (lit< tt)) (ap (λ (x : ℕ). has x (lowest_in s)) e ∙ has_none (lowest_in s))

-- a set gets smaller
pub removed_less : (s : Set) → s.bits < 2 ^ 64 → 0 < s.bits → (removed s (lowest_in s)).bits < s.bits
removed_less s h k = subst (λ (x : ℕ). x < s.bits) (and_removed s h k) (let l = and_le_r s.bits (s.bits - 1) in omega arith)

-- ---- the members from i on

pub rest_start : (s : Set) → s.bits < 2 ^ 64 → Rest (member s) 0 s
rest_start s h = record { small = h; end = zero-le; left = λ j l. sym (rw (le-leb 0 j zero-le)) }

module _ {g : ℕ → Bool} {i : ℕ} {s : Set} (r : Rest g i s) where
  -- from i on there is none, where nothing is left
  pub rest_end : s.bits ≡ 0 → (j : ℕ) → i ≤ j → j < 64 → g j ≡ false
  rest_end e j h l = sym (ap (λ (b : Bool). b && g j) (le-leb i j h)) ∙ sym (r.left j l) ∙ ap (λ (x : ℕ). has x j) e ∙ has_none j

  module _ (k : 0 < s.bits) where
    pub rest_lt : lowest_in s < 64
    rest_lt = lowest_lt 64 s.bits r.small k

    both_true : (a b : Bool) → (a && b) ≡ true → (a ≡ true) × (b ≡ true)
    both_true true b e = (refl, e)
    both_true false b e = absurd (false≢true e)

    found : (leb i (lowest_in s) && g (lowest_in s)) ≡ true
    found = sym (r.left (lowest_in s) rest_lt) ∙ lowest_found 64 (member s) rest_lt

    -- the lowest that is left is a member, at or past i
    pub rest_member : g (lowest_in s) ≡ true
    rest_member = (both_true (leb i (lowest_in s)) (g (lowest_in s)) found).1

    pub rest_from : i ≤ lowest_in s
    rest_from = leb-true i (lowest_in s) (both_true (leb i (lowest_in s)) (g (lowest_in s)) found).0

    -- between i and it there is none
    pub rest_skip : (j : ℕ) → i ≤ j → j < lowest_in s → g j ≡ false
    rest_skip j h l =
        let m = rest_lt in
        sym (ap (λ (b : Bool). b && g j) (le-leb i j h)) ∙ sym (r.left j (omega arith)) ∙ lowest_below 64 (member s) j l

    pub rest_more : Rest g (lowest_in s + 1) (removed s (lowest_in s))
    rest_more = record { small = word_lt 64 _; end = (let l = rest_lt in omega arith); left = λ j l. member_removed s (lowest_in s) j l ∙ at j l (order j (lowest_in s)) }
      where
        m : ℕ
        m = lowest_in s

        at : (j : ℕ) → j < 64 → (j < m) ⊎ ((j ≡ m) ⊎ (m < j)) → (not (eqb j m) && member s j) ≡ (leb (m + 1) j && g j)
        at j l (inl d) = rw (ne_eqb j m (λ e. omega arith), lt-leb (m + 1) j (omega arith)) (lowest_below 64 (member s) j d)
        at j l (inr (inl e)) = rw (eq-eqb j m e, lt-leb (m + 1) j (omega arith))
        at j l (inr (inr d)) = let f = rest_from in rw (ne_eqb j m (λ e. omega arith), le-leb (m + 1) j (omega arith)) (r.left j l ∙ ap (λ (b : Bool). b && g j) (le-leb i j (omega arith)))

-- ---- a turn of a `for` over a set

-- the member that a turn takes, and what it leaves: the lowest member is taken, and any walk over the members of g goes on past it
pub record Turn (s : Set) (i : ℕ) (t : Set) : Type 0 where
  pub some : 0 < s.bits
  pub lowest : i ≡ lowest_in s
  pub left : t ≡ removed s (lowest_in s)
  pub below : i < 64
  pub taken : member s i ≡ true

pub turn_of : {s : Set} {i : ℕ} {t : Set} → s.bits < 2 ^ 64 → TakesLowest s (Some i) t → Turn s i t
turn_of {s} {i} {t} h (k, (e, f)) = record {
  some = k;
  lowest = e;
  left = f ∙ ap (removed s) e;
  below = subst (λ (x : ℕ). x < 64) (sym e) (lowest_lt 64 s.bits h k);
  taken = ap (member s) e ∙ lowest_found 64 (member s) (lowest_lt 64 s.bits h k);
}

-- what was taken is a member, at or past i; those before it are none
module _ {g : ℕ → Bool} {i : ℕ} {s : Set} (r : Rest g i s) {j : ℕ} {t : Set} (step : TakesLowest s (Some j) t) where
  turn : Turn s j t
  turn = turn_of r.small step

  pub turn_below : j < 64
  turn_below = turn.below

  pub turn_member : g j ≡ true
  turn_member = ap g turn.lowest ∙ rest_member r turn.some

  pub turn_from : i ≤ j
  turn_from = subst (λ (x : ℕ). i ≤ x) (sym turn.lowest) (rest_from r turn.some)

  pub turn_skip : (m : ℕ) → i ≤ m → m < j → g m ≡ false
  turn_skip m h l = rest_skip r turn.some m h (subst (λ (x : ℕ). m < x) turn.lowest l)

  pub turn_more : Rest g (j + 1) t
  turn_more = subst (λ (u : Set). Rest g (j + 1) u) (sym turn.left) (subst (λ (x : ℕ). Rest g (x + 1) (removed s (lowest_in s))) (sym turn.lowest) (rest_more r turn.some))
