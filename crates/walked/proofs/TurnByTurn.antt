-- Walks taken turn by turn: over the members of a set, along a row, and a fold. Assumes nothing.
use Rattle.std.specs.Prelude.{◌≡◌, refl, Bool, List, [], ◌∷◌, ℕ, zero, suc, ◌+◌, ◌<◌, get_or, set, replicate}
use Rattle.std.proofs.Common.{sym, ap, ◌∙◌, subst, arith, not-suc-le-zero, add-one}
use Rattle.std.proofs.lemmas.List.{length-replicate, get_or-replicate}
use Rattle.sets.specs.Set.{removed}
use Rattle.sets.proofs.WalkLaws.{rest_lt, rest_more, removed_less}
use Rattle.sets.specs.Walk.{lowest_in, Rest}
use Rattle.sets.specs.declared.Set.{Set}
use Rattle.table.specs.Base.{fold_up, tab}
use Rattle.table.proofs.BaseLaws.{as_tab}
use Rattle.lister.specs.Cuts.{put_in}

-- equal turns below n
pub fold_ext : {S : Type 0} (f g : ℕ → S → S) (n : ℕ) (s : S) → ((j : ℕ) → j < n → (t : S) → f j t ≡ g j t) → fold_up f n s ≡ fold_up g n s
unfolding fold_up
fold_ext f g zero s h = refl
fold_ext f g (suc n) s h = h n (omega arith) (fold_up f n s) ∙ ap (g n) (fold_ext f g n s (λ j l t. h j (omega arith) t))

-- the member that a turn takes is below 64
pub taken_lt : {g : ℕ → Bool} {i x : ℕ} {s : Set} → Rest g i s → 0 < s.bits → x ≡ lowest_in s → x < 64
taken_lt r k e = omega (arith, rest_lt r k)

-- what a turn leaves
pub left_over : {g : ℕ → Bool} {i x : ℕ} {s t : Set} → Rest g i s → 0 < s.bits → x ≡ lowest_in s → t ≡ removed s (lowest_in s) → Rest g (x + 1) t
left_over {g} {i} {x} {s} {t} r k e q = subst (λ (z : ℕ). Rest g (z + 1) t) (sym e) (subst (λ (z : Set). Rest g (lowest_in s + 1) z) (sym q) (rest_more r k))

-- and it is less
pub left_less : {g : ℕ → Bool} {i : ℕ} {s t : Set} → Rest g i s → 0 < s.bits → t ≡ removed s (lowest_in s) → t.bits < s.bits
left_less {g} {i} {s} r k e = subst (λ (z : Set). z.bits < s.bits) (sym e) (removed_less s r.small k)

-- one number is moved on
step : (j i x : ℕ) (row : List ℕ) → j < i → put_in j i x row ≡ put_in (suc j) i (get_or row j 0) (set row j x)
unfolding put_in
step j i x [] l = refl
step zero zero x (y ∷ row) l = absurd (not-suc-le-zero l)
step zero (suc i) x (y ∷ row) l = refl
step (suc j) zero x (y ∷ row) l = absurd (not-suc-le-zero l)
step (suc j) (suc i) x (y ∷ row) l = ap (λ (r : List ℕ). y ∷ r) (step j i x row (omega arith))

-- and the next is to be put in after it
pub put_step : (j i x : ℕ) (row : List ℕ) → j < i → put_in j i x row ≡ put_in (j + 1) i (get_or row j 0) (set row j x)
put_step j i x row l = step j i x row l ∙ ap (λ (k : ℕ). put_in k i (get_or row j 0) (set row j x)) (sym (add-one j))

-- the last has its place
pub put_end : (i x : ℕ) (row : List ℕ) → put_in i i x row ≡ set row i x
unfolding put_in
put_end i x [] = refl
put_end zero x (y ∷ row) = refl
put_end (suc i) x (y ∷ row) = ap (λ (r : List ℕ). y ∷ r) (put_end i x row)

-- a row of one value
pub row_of : (v : ℕ) → replicate 64 v ≡ tab (λ _. v) 64 0
row_of v = as_tab 0 (replicate 64 v) 64 (λ _. v) (length-replicate 64 v) (λ j m. get_or-replicate 64 j v 0 m)
