-- Texts as they are written: the parts of a line, eight bytes at a time, a copy, a name with its keys. Assumes nothing.
use Rattle.std.specs.Prelude.{◌≡◌, true, List, ℕ, ◌+◌, ◌-◌, ◌≤◌, ◌<◌, ltb}
use Rattle.std.proofs.Math.Path.{ap}
use Rattle.std.proofs.Common.{sym, ◌∙◌}
use native.Mathlib.Omega.{arith}
use Rattle.std.proofs.Math.Dec.{eqb}
use Rattle.std.proofs.Math.ListN.{get_or}
use borrow.Author.Tests.{eqb-true, eq-eqb, ltb-true, ltb-false}
use Rattle.table.proofs.BaseLaws.{Told, yea, nay, told, all_at, all_yes}
use Rattle.lister.specs.Cuts.{alike}
use Rattle.lister.proofs.CutLaws.{alike_at}

module _ (b : List ℕ) (s t : ℕ) where
  -- eight more
  pub alike_more : (i : ℕ) → alike b s t i ≡ true → alike b (s + i) (t + i) 8 ≡ true → alike b s t (i + 8) ≡ true
  unfolding alike
  alike_more i a c = all_yes (λ k. eqb (get_or b (s + k) 0) (get_or b (t + k) 0)) (i + 8) (λ k l. eq-eqb _ _ (go k l (told (ltb k i))))
    where
      go : (k : ℕ) → k < i + 8 → Told (ltb k i) → get_or b (s + k) 0 ≡ get_or b (t + k) 0
      go k l (yea u) = alike_at b s t i a k (ltb-true k i u)
      go k l (nay u) =
          let m : i ≤ k = omega (arith, ltb-false k i u) in
          let x : (s + i) + (k - i) ≡ s + k = omega arith in
          let y : (t + i) + (k - i) ≡ t + k = omega arith in
          ap (λ (j : ℕ). get_or b j 0) (sym x)
          ∙ eqb-true _ _ (all_at (λ k. eqb (get_or b (s + i + k) 0) (get_or b (t + i + k) 0)) 8 (k - i) (omega arith) c)
          ∙ ap (λ (j : ℕ). get_or b j 0) y
