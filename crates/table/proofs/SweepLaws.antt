-- A loop over a table that makes f into g, one index after the other, and writes only where they differ. Assumes nothing.
-- Idea: before turn i the table is g below i and f from i on.
use Rattle.std.specs.Prelude.{◌≡◌, ◌≢◌, ◌⊎◌, cond, ℕ, ◌+◌, ◌≤◌, ◌<◌, ltb, set}
use Rattle.std.proofs.Math.Path.{sym, ap}
use Rattle.std.proofs.Common.{◌∙◌, inl, inr, zero-le, arith}
use mathlib.Core.List.{List}
use Rattle.std.proofs.Math.ListN.{get_or}
use borrow.Author.Tests.{ltb-true, ltb-false, lt-ltb, le-ltb}
use Rattle.table.specs.Base.{upd, tab}
use Rattle.table.proofs.BaseLaws.{Told, yea, nay, told, eq?, upd_at, upd_other, get_d_tab, tab_ext, set_tab}

module _ {A : Type 0} (d : A) (f g : ℕ → A) where
  -- g below i, f from i on
  unfoldable pub below : ℕ → ℕ → A
  below i j = cond (ltb j i) (g j) (f j)

  pub sweep_start : (l : List A) → l ≡ tab f 64 0 → l ≡ tab (below 0) 64 0
  unfolding below
  sweep_start l e = e ∙ tab_ext d 64 f (below 0) (λ j m. sym (rw (le-ltb j 0 zero-le)))

  -- the elements from this turn on are still f's
  pub sweep_from : (l : List A) (i j : ℕ) → i ≤ j → j < 64 → l ≡ tab (below i) 64 0 → get_or l j d ≡ f j
  unfolding below
  sweep_from l i j h m e = ap (λ (z : List A). get_or z j d) e ∙ get_d_tab (below i) 64 j d m ∙ rw (le-ltb j i h)

  pub sweep_at : (l : List A) (i : ℕ) → i < 64 → l ≡ tab (below i) 64 0 → get_or l i d ≡ f i
  sweep_at l i m e = sweep_from l i i (omega arith) m e

  step_to : (i j : ℕ) → j ≢ i → below i j ≡ below (i + 1) j
  unfolding below
  step_to i j n = go (told (ltb j i))
    where
      go : Told (ltb j i) → below i j ≡ below (i + 1) j
      go (yea t) = rw (t, lt-ltb j (i + 1) (omega (arith, ltb-true j i t)))
      go (nay t) = rw (t, le-ltb j (i + 1) (omega (arith, ltb-false j i t)))

  here : (i : ℕ) → below (i + 1) i ≡ g i
  unfolding below
  here i = rw (lt-ltb i (i + 1) (omega arith))

  -- a turn that writes
  pub sweep_hit : (l : List A) (i : ℕ) (v : A) → i < 64 → v ≡ g i → l ≡ tab (below i) 64 0 → set l i v ≡ tab (below (i + 1)) 64 0
  sweep_hit l i v m e q =
      ap (λ (z : List A). set z i v) q ∙ set_tab d (below i) 64 i v m
      ∙ tab_ext d 64 (upd (below i) i v) (below (i + 1)) (λ j _. go j (eq? j i))
    where
      go : (j : ℕ) → (j ≡ i) ⊎ (j ≢ i) → upd (below i) i v j ≡ below (i + 1) j
      go j (inl t) = upd_at (below i) i j v t ∙ e ∙ sym (here i) ∙ ap (below (i + 1)) (sym t)
      go j (inr n) = upd_other (below i) i j v n ∙ step_to i j n

  -- turns that write nothing, where f and g agree
  pub sweep_skip : (l : List A) (i m : ℕ) → i ≤ m → ((j : ℕ) → i ≤ j → j < m → g j ≡ f j) → l ≡ tab (below i) 64 0 → l ≡ tab (below m) 64 0
  unfolding below
  sweep_skip l i m h e q = q ∙ tab_ext d 64 (below i) (below m) (λ j _. go j (told (ltb j i)) (told (ltb j m)))
    where
      go : (j : ℕ) → Told (ltb j i) → Told (ltb j m) → below i j ≡ below m j
      go j (yea s) t = rw (s, lt-ltb j m (omega (arith, ltb-true j i s)))
      go j (nay s) (yea t) = rw (s, t) (sym (e j (ltb-false j i s) (ltb-true j m t)))
      go j (nay s) (nay t) = rw (s, t)

  pub sweep_miss : (l : List A) (i : ℕ) → g i ≡ f i → l ≡ tab (below i) 64 0 → l ≡ tab (below (i + 1)) 64 0
  sweep_miss l i e q = sweep_skip l i (i + 1) (omega arith) (λ j h k. let n : j ≡ i = omega arith in ap g n ∙ e ∙ sym (ap f n)) q

  pub sweep_end : (l : List A) (i : ℕ) → i ≡ 64 → l ≡ tab (below i) 64 0 → l ≡ tab g 64 0
  unfolding below
  sweep_end l i e q = q ∙ ap (λ (k : ℕ). tab (below k) 64 0) e ∙ tab_ext d 64 (below 64) g (λ j m. rw (lt-ltb j 64 m))
