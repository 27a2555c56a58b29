-- Eight bytes as one number: two such numbers are equal exactly if the bytes are. Assumes nothing.
-- Idea: what is below a power of 256 and what is above it are told apart by the number.
use Rattle.std.specs.Prelude.{◌≡◌, true, List, ℕ, ◌+◌, ◌*◌, ◌<◌, eqb}
use Rattle.std.proofs.Common.{sym, ◌∙◌, arith}
use Rattle.std.proofs.Math.Path.{ap}
use Rattle.std.proofs.Math.ListN.{get_or}
use borrow.Author.Tests.{eqb-true, eq-eqb}
use Rattle.table.specs.Base.{all_below}
use Rattle.table.proofs.BaseLaws.{Told, yea, nay, told, clash}
use Rattle.lister.specs.Cuts.{alike, Eight}
use Rattle.lister.proofs.CutLaws.{alike_at}

-- two bytes
bytes_same : (a b c d : ℕ) → a < 256 → c < 256 → a + 256 * b ≡ c + 256 * d → (a ≡ c) × (b ≡ d)
bytes_same a b c d l m e = (omega arith, omega arith)

-- two numbers of two bytes
pairs_same : (a b c d : ℕ) → a < 65536 → c < 65536 → a + 65536 * b ≡ c + 65536 * d → (a ≡ c) × (b ≡ d)
pairs_same a b c d l m e = (omega arith, omega arith)

-- two numbers of four
fours_same : (a b c d : ℕ) → a < 4294967296 → c < 4294967296 → a + 4294967296 * b ≡ c + 4294967296 * d → (a ≡ c) × (b ≡ d)
fours_same a b c d l m e = (omega arith, omega arith)

module _ (b : List ℕ) (i j : ℕ) where
  -- the bytes k after i and k after j are the same
  abbrev Same : ℕ → Type 0
  Same k = get_or b (i + k) 0 ≡ get_or b (j + k) 0

  -- eight that are the same are alike
  all_alike : get_or b i 0 ≡ get_or b j 0 → Same 1 → Same 2 → Same 3 → Same 4 → Same 5 → Same 6 → Same 7 → alike b i j 8 ≡ true
  unfolding alike all_below
  all_alike e0 e1 e2 e3 e4 e5 e6 e7 = rw (
    eq-eqb (get_or b (i + 0) 0) (get_or b (j + 0) 0) (ap (λ (n : ℕ). get_or b n 0) (omega arith) ∙ e0 ∙ ap (λ (n : ℕ). get_or b n 0) (omega arith)),
    eq-eqb _ _ e1,
    eq-eqb _ _ e2,
    eq-eqb _ _ e3,
    eq-eqb _ _ e4,
    eq-eqb _ _ e5,
    eq-eqb _ _ e6,
    eq-eqb _ _ e7,
  )

  -- from the number on
  from_number : {r s : ℕ} → Eight b i r → Eight b j s → r ≡ s → alike b i j 8 ≡ true
  from_number {r} {s} x y e =
      let h = fours_same _ _ _ _ (omega (arith, x.first, x.second)) (omega (arith, y.first, y.second)) (sym x.number ∙ e ∙ y.number) in
      let l = pairs_same _ _ _ _ (omega (arith, x.first)) (omega (arith, y.first)) h.0 in
      let m = pairs_same _ _ _ _ (omega (arith, x.third)) (omega (arith, y.third)) h.1 in
      let p = bytes_same _ _ _ _ x.first.0 y.first.0 l.0 in
      let q = bytes_same _ _ _ _ x.second.0 y.second.0 l.1 in
      let u = bytes_same _ _ _ _ x.third.0 y.third.0 m.0 in
      let v = bytes_same _ _ _ _ x.fourth.0 y.fourth.0 m.1 in
      all_alike p.0 p.1 q.0 q.1 u.0 u.1 v.0 v.1

  -- and back
  to_number : {r s : ℕ} → Eight b i r → Eight b j s → alike b i j 8 ≡ true → r ≡ s
  to_number x y e = omega (
    arith,
    x.number,
    y.number,
    ap (λ (n : ℕ). get_or b n 0) zero_after,
    alike_at b i j 8 e 0 (omega arith),
    ap (λ (n : ℕ). get_or b n 0) zero_after_too,
    alike_at b i j 8 e 1 (omega arith),
    alike_at b i j 8 e 2 (omega arith),
    alike_at b i j 8 e 3 (omega arith),
    alike_at b i j 8 e 4 (omega arith),
    alike_at b i j 8 e 5 (omega arith),
    alike_at b i j 8 e 6 (omega arith),
    alike_at b i j 8 e 7 (omega arith),
  )
    where
      zero_after : i ≡ i + 0
      zero_after = omega arith

      zero_after_too : j ≡ j + 0
      zero_after_too = omega arith

  -- the numbers are equal exactly if the bytes are
  pub eight_alike : {r s : ℕ} → Eight b i r → Eight b j s → eqb r s ≡ alike b i j 8
  eight_alike {r} {s} x y = go (told (eqb r s)) (told (alike b i j 8))
    where
      go : Told (eqb r s) → Told (alike b i j 8) → eqb r s ≡ alike b i j 8
      go (yea e) f = e ∙ sym (from_number x y (eqb-true r s e))
      go (nay e) (yea f) = clash (eq-eqb r s (to_number x y f)) e
      go (nay e) (nay f) = e ∙ sym f
