-- Reading and writing past the last element. Assumes nothing.
use Rattle.std.specs.Prelude.{◌≡◌, List, ℕ, ◌≤◌, get_or, length}
use Rattle.std.proofs.Common.{sym, subst, ◌∙◌, arith}
use Rattle.std.proofs.Math.ListN.{get_or-eq_default}
use Rattle.table.specs.Base.{upd, tab}
use Rattle.table.proofs.BaseLaws.{upd_other, tab_get_d, tab_ext}

-- at and past 64 there is nothing to read
pub read_past : {A : Type 0} (d : A) (l : List A) (q : ℕ) → length l ≡ 64 → 64 ≤ q → get_or l q d ≡ d
read_past d l q e m = get_or-eq_default l d (subst (λ (n : ℕ). n ≤ q) (sym e) m)

-- and nothing to store
pub store_past : {A : Type 0} (d : A) (l : List A) (q : ℕ) (v : A) → length l ≡ 64 → 64 ≤ q → l ≡ tab (upd (λ j. get_or l j d) q v) 64 0
store_past d l q v e m = sym (tab_get_d d l 64 e) ∙ tab_ext d 64 _ _ (λ j k. sym (upd_other (λ j. get_or l j d) q j v (λ h. omega arith)))
