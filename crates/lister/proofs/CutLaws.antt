-- Two texts in a buffer, compared byte by byte. Assumes nothing.
-- Idea: bytes that are the same are passed, one or eight at a time, and the rest is compared.
use Rattle.std.specs.Prelude.{◌≡◌, Bool, true, false, List, [], ◌∷◌, ℕ, zero, suc, ◌+◌, ◌*◌, ◌-◌, ◌≤◌, ◌<◌, ltb, leb, length, take, drop}
use Rattle.std.proofs.Math.Path.{refl, ap}
use Rattle.std.proofs.Common.{sym, ap₂, ◌∙◌, add-one, drop-cons}
use native.Mathlib.Omega.{arith}
use Rattle.std.proofs.Math.Dec.{eqb}
use Rattle.std.proofs.Math.ListN.{get_or}
use borrow.Author.Tests.{eqb-true, eq-eqb, leb-true, leb-false, ltb-true, ltb-false, le-ltb}
use Rattle.table.specs.Base.{all_below}
use Rattle.table.proofs.BaseLaws.{Told, yea, nay, told, all_at, all_yes}
use Rattle.meaning.specs.Sorted.{leq}
use Rattle.meaning.proofs.SortedLaws.{leq_less, leq_more, leq_same}
use Rattle.text.specs.Wrote.{least}
use Rattle.lister.specs.Cuts.{cut, alike}

-- ---- bytes from one position to another

-- none
pub cut_none : (b : List ℕ) (s e : ℕ) → e ≤ s → cut b s e ≡ []
cut_none b s e l = let z : e - s ≡ 0 = omega arith in ap (λ (k : ℕ). take k (drop s b)) z

-- the first of them, and the others
pub cut_more : (b : List ℕ) (s e : ℕ) → s < e → e ≤ length b → cut b s e ≡ get_or b s 0 ∷ cut b (s + 1) e
cut_more b s e l h =
    let z : e - s ≡ suc (e - (s + 1)) = omega arith in
    ap (λ (k : ℕ). take k (drop s b)) z ∙ ap (take (suc (e - (s + 1)))) (drop-cons b s 0 (omega arith))
    ∙ ap (λ (k : ℕ). get_or b s 0 ∷ take (e - (s + 1)) (drop k b)) (sym (add-one s))

-- ---- eight bytes at a time

module _ (b : List ℕ) (s t : ℕ) where
  -- bytes that are alike are the same
  pub alike_at : (n : ℕ) → alike b s t n ≡ true → (k : ℕ) → k < n → get_or b (s + k) 0 ≡ get_or b (t + k) 0
  unfolding alike
  alike_at n a k l = eqb-true _ _ (all_at (λ k. eqb (get_or b (s + k) 0) (get_or b (t + k) 0)) n k l a)

  -- no bytes are alike
  pub alike_none : alike b s t 0 ≡ true
  unfolding alike all_below
  alike_none = refl

  -- eight more
  eight_more : (i : ℕ) → alike b s t i ≡ true → alike b (s + i) (t + i) 8 ≡ true → alike b s t (i + 8) ≡ true
  unfolding alike
  eight_more i a c = all_yes (λ k. eqb (get_or b (s + k) 0) (get_or b (t + k) 0)) (i + 8) (λ k l. eq-eqb _ _ (go k l (told (ltb k i))))
    where
      go : (k : ℕ) → k < i + 8 → Told (ltb k i) → get_or b (s + k) 0 ≡ get_or b (t + k) 0
      go k l (yea u) = alike_at i a k (ltb-true k i u)
      go k l (nay u) =
          let m : i ≤ k = omega (arith, ltb-false k i u) in
          let x : (s + i) + (k - i) ≡ s + k = omega arith in
          let y : (t + i) + (k - i) ≡ t + k = omega arith in
          ap (λ (j : ℕ). get_or b j 0) (sym x)
          ∙ eqb-true _ _ (all_at (λ k. eqb (get_or b (s + i + k) 0) (get_or b (t + i + k) 0)) 8 (k - i) (omega arith) c)
          ∙ ap (λ (j : ℕ). get_or b j 0) y

  -- so many times eight
  pub alike_more : (k : ℕ) → alike b s t (8 * k) ≡ true → alike b (s + 8 * k) (t + 8 * k) 8 ≡ true → alike b s t (8 * (k + 1)) ≡ true
  alike_more k a c = let e : 8 * (k + 1) ≡ 8 * k + 8 = omega arith in ap (alike b s t) e ∙ eight_more (8 * k) a c

-- ---- one text before the other

other : {x y : ℕ} → y ≤ x → (x ≡ y → ⊥) → y < x
other l d = omega arith

module _ (b : List ℕ) (s e t f : ℕ) (h : e ≤ length b) (k : f ≤ length b) where
  -- what is left of the two once i bytes are passed
  abbrev pub leq_from : ℕ → Bool
  leq_from i = leq (cut b (s + i) e) (cut b (t + i) f)

  -- nothing is passed
  pub from_start : leq (cut b s e) (cut b t f) ≡ leq_from 0
  from_start = let x : s ≡ s + 0 = omega arith in let y : t ≡ t + 0 = omega arith in ap₂ (λ (m n : ℕ). leq (cut b m e) (cut b n f)) x y

  -- a byte that is less decides
  pub from_less : (i : ℕ) → s + i < e → t + i < f → get_or b (s + i) 0 < get_or b (t + i) 0 → leq_from i ≡ true
  from_less i l m d = ap₂ leq (cut_more b (s + i) e l h) (cut_more b (t + i) f m k) ∙ leq_less _ _ d

  -- and so does one that is more
  pub from_more : (i : ℕ) → s + i < e → t + i < f → get_or b (t + i) 0 < get_or b (s + i) 0 → leq_from i ≡ false
  from_more i l m d = ap₂ leq (cut_more b (s + i) e l h) (cut_more b (t + i) f m k) ∙ leq_more _ _ d

  -- so another byte decides
  pub from_differ : (i : ℕ) → s + i < e → t + i < f → (get_or b (s + i) 0 ≡ get_or b (t + i) 0 → ⊥) → leq_from i ≡ ltb (get_or b (s + i) 0) (get_or b (t + i) 0)
  from_differ i l m d = go (told (ltb (get_or b (s + i) 0) (get_or b (t + i) 0)))
    where
      go : Told (ltb (get_or b (s + i) 0) (get_or b (t + i) 0)) → leq_from i ≡ ltb (get_or b (s + i) 0) (get_or b (t + i) 0)
      go (yea u) = from_less i l m (ltb-true _ _ u) ∙ sym u
      go (nay u) = let n = ltb-false (get_or b (s + i) 0) (get_or b (t + i) 0) u in from_more i l m (other n d) ∙ sym u

  -- the same byte is passed
  pub from_same : (i : ℕ) → s + i < e → t + i < f → get_or b (s + i) 0 ≡ get_or b (t + i) 0 → leq_from i ≡ leq_from (i + 1)
  from_same i l m d =
      let x : s + i + 1 ≡ s + (i + 1) = omega arith in
      let y : t + i + 1 ≡ t + (i + 1) = omega arith in
      ap₂ leq (cut_more b (s + i) e l h) (cut_more b (t + i) f m k) ∙ leq_same _ _ d ∙ ap₂ (λ (m n : ℕ). leq (cut b m e) (cut b n f)) x y

  -- so many of them
  pub from_all : (n : ℕ) → s + n ≤ e → t + n ≤ f → ((j : ℕ) → j < n → get_or b (s + j) 0 ≡ get_or b (t + j) 0) → leq (cut b s e) (cut b t f) ≡ leq_from n
  from_all zero l m d = from_start
  from_all (suc n) l m d =
      from_all n (omega arith) (omega arith) (λ j w. d j (omega arith)) ∙ from_same n (omega arith) (omega arith) (d n (omega arith))
      ∙ ap leq_from (add-one n)

  -- where one has ended, the other is longer or not
  pub from_end : {n : ℕ} (i : ℕ) → s ≤ e → t ≤ f → n ≡ least (e - s) (f - t) → i ≡ n → leb (e - s) (f - t) ≡ leq_from i
  unfolding least leq
  from_end {n} i a c q w = go (told (leb (e - s) (f - t)))
    where
      ended : e - s ≤ f - t → Told (ltb (e - s) (f - t)) → e ≤ s + i
      ended v (yea z) = let y : n ≡ e - s = q ∙ rw z in omega arith
      ended v (nay z) = let y : n ≡ f - t = q ∙ rw z in let x = ltb-false (e - s) (f - t) z in omega arith

      go : Told (leb (e - s) (f - t)) → leb (e - s) (f - t) ≡ leq_from i
      go (yea u) = u ∙ sym (ap (λ (x : List ℕ). leq x (cut b (t + i) f)) (cut_none b (s + i) e (ended (leb-true (e - s) (f - t) u) (told (ltb (e - s) (f - t))))))
      go (nay u) =
          let v = leb-false (e - s) (f - t) u in
          let y : n ≡ f - t = q ∙ rw (le-ltb (e - s) (f - t) (omega arith)) in
          u ∙ sym (ap₂ leq (cut_more b (s + i) e (omega arith) h) (cut_none b (t + i) f (omega arith)))
