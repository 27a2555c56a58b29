-- A walk that joins one part for each of the numbers that pass a test, skipped turns, and the room that a turn has. Assumes nothing.
-- Idea: a turn that is skipped joins nothing, so the fold may jump to the next member; no turn makes the text shorter.
use Rattle.std.specs.Prelude.{◌≡◌, ◌≢◌, ◌⊎◌, Bool, true, false, cond, List, [], ◌++◌, eqb}
use Rattle.std.proofs.Common.{sym, ◌∙◌, inl, inr, length-append}
use Rattle.std.proofs.Math.Path.{ap}
use Prim.Native.Nat.{ℕ, zero, suc, ◌+◌, ◌-◌, ◌<◌, ◌≤◌}
use native.Mathlib.Omega.{arith}
use Rattle.std.proofs.Math.ListN.{length}
use Rattle.table.specs.Base.{fold_up}
use Rattle.table.proofs.BaseLaws.{eq?}
use Rattle.meaning.specs.Text.{gap, joined}
use Rattle.text.specs.Wrote.{Wrote, Fits}
use Rattle.text.proofs.TextLaws.{join, join_more, part, back, gap_at, wrote_as}
use Rattle.text.proofs.RoomLaws.{fits_less, fits_as, fits_first, fits_exactly, first_in, fits_next, then_next}

-- turns that change nothing
fold_skip : {S : Type 0} (f : ℕ → S → S) (s : S) (n m : ℕ) → n ≤ m → ((j : ℕ) → n ≤ j → j < m → (t : S) → f j t ≡ t) → fold_up f n s ≡ fold_up f m s
unfolding fold_up
fold_skip f s n zero l h = let e : n ≡ 0 = omega arith in ap (λ (k : ℕ). fold_up f k s) e
fold_skip {S} f s n (suc m) l h = go (eq? n (suc m)) (fold_skip f s n m)
  where
    go : (n ≡ suc m) ⊎ (n ≢ suc m) → (n ≤ m → ((j : ℕ) → n ≤ j → j < m → (t : S) → f j t ≡ t) → fold_up f n s ≡ fold_up f m s) → fold_up f n s ≡ f m (fold_up f m s)
    go (inl e) r = ap (λ (k : ℕ). fold_up f k s) e
    go (inr q) r = r (omega arith) (λ j a b t. h j a (omega arith) t) ∙ sym (h m (omega arith) (omega arith) (fold_up f m s))

-- ---- one part more, where there is room for it

-- what stands between, and a part after it, each handed its position and lent the rest from there on
module _ (by : List ℕ) {s b xs : List ℕ} {from at i : ℕ} (t : List ℕ) (w : Wrote s from b xs at) (f : Fits (joined by s t) from b) (e : i ≡ at - from) where
  -- nothing, or what stands between
  abbrev between : List ℕ
  between = cond (eqb at from) [] by

  so : between ≡ gap by s
  so = gap_at by (let n = length-append (s ++ gap by s) t in let m = length-append s (gap by s) in omega (arith, f.room, f.placed)) w

  all : Fits ((s ++ between) ++ t) from b
  all = fits_as (ap (λ (g : List ℕ). (s ++ g) ++ t) (sym so)) f

  half : Fits (s ++ between) from b
  half = fits_first (s ++ between) t all

  pub begun_before : from ≤ at
  begun_before = omega (arith, fits_exactly (fits_first s between half) w)

  pub between_in : i ≤ length xs
  between_in = first_in between w half e

  pub between_fits : Fits (cond (eqb at from) [] by) at (part i xs)
  between_fits = fits_next between w half e

  module _ {ys : List ℕ} {mid j : ℕ} (v : Wrote (cond (eqb at from) [] by) at (part i xs) ys mid) (g : j ≡ mid - from) where
    parted : Wrote (s ++ between) from b (back i xs ys) mid
    parted = then_next between w half e v

    pub parted_after : from ≤ mid
    parted_after = omega (arith, fits_exactly half parted)

    pub part_in : j ≤ length (back i xs ys)
    part_in = first_in t parted all g

    pub part_fits : Fits t mid (part j (back i xs ys))
    part_fits = fits_next t parted all g

    pub turned : {zs : List ℕ} {r : ℕ} → Wrote t mid (part j (back i xs ys)) zs r → Wrote (joined by s t) from b (back j (back i xs ys) zs) r
    turned u = wrote_as (ap (λ (z : List ℕ). (s ++ z) ++ t) so) (then_next t parted all g u)

-- ---- the walk

module _ (by : List ℕ) (g : ℕ → Bool) (F : ℕ → List ℕ) (s₀ : List ℕ) where
  -- turns that join nothing
  pub skipped : (i m : ℕ) → i ≤ m → ((j : ℕ) → i ≤ j → j < m → g j ≡ false) → fold_up (join by g F s₀) i s₀ ≡ fold_up (join by g F s₀) m s₀
  skipped i m l h = fold_skip (join by g F s₀) s₀ i m l (λ j a b t. ap (λ (z : Bool). cond z (joined by t (F j)) t) (h j a b))

  -- no turn makes the text shorter
  turn_grows : (b : Bool) (k : ℕ) (s : List ℕ) → length s ≤ length (cond b (joined by s (F k)) s)
  turn_grows true k s = omega (arith, length-append (s ++ gap by s) (F k), length-append s (gap by s))
  turn_grows false k s = omega arith

  pub grows : (n m : ℕ) → n ≤ m → length (fold_up (join by g F s₀) n s₀) ≤ length (fold_up (join by g F s₀) m s₀)
  unfolding fold_up
  grows n zero l = let e : n ≡ 0 = omega arith in let h = ap (λ (k : ℕ). length (fold_up (join by g F s₀) k s₀)) e in omega arith
  grows n (suc m) l = go (eq? n (suc m)) (grows n m)
    where
      go : (n ≡ suc m) ⊎ (n ≢ suc m) → (n ≤ m → length (fold_up (join by g F s₀) n s₀) ≤ length (fold_up (join by g F s₀) m s₀))
          → length (fold_up (join by g F s₀) n s₀) ≤ length (join by g F s₀ m (fold_up (join by g F s₀) m s₀))
      go (inl e) r = let h = ap (λ (k : ℕ). length (fold_up (join by g F s₀) k s₀)) e in omega arith
      go (inr q) r = omega (arith, r (omega arith), turn_grows (g m) m (fold_up (join by g F s₀) m s₀))

  -- a part that is joined has room where the whole text has
  pub turn_fits : {b : List ℕ} {at : ℕ} (k n : ℕ) → g k ≡ true → k < n → Fits (fold_up (join by g F s₀) n s₀) at b → Fits (joined by (fold_up (join by g F s₀) k s₀) (F k)) at b
  turn_fits k n p l f = fits_less (let e = ap length (join_more by g F s₀ k p) in omega (arith, grows (k + 1) n (omega arith))) f
