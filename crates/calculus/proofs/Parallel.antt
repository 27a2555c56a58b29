-- Terms in parallel: one of them can be put before the others, and a part at the top of all is a part of one.
-- Idea: by the number of terms; `upd f i nil` is f without its i-th term.
use Rattle.std.specs.Prelude.{◌≡◌, refl, ◌≢◌, ◌⊎◌, ℕ, zero, suc, ◌≤◌, ◌<◌}
use Rattle.std.proofs.Common.{ap, inl, inr, arith}
use Rattle.std.proofs.Math.Path.{fun_ext}
use Rattle.table.specs.Base.{upd}
use Rattle.table.proofs.BaseLaws.{eq?, upd_at, upd_other}
use Rattle.calculus.specs.Terms.{Term, nil, ◌∣◌, ◌≅◌, struct_refl, struct_symm, struct_par_zero, struct_par}
use Rattle.calculus.proofs.TermLaws.{◌⨾◌, of_path, zero_par, swap, swap_middle, pars, struct_par_right}
use Rattle.calculus.proofs.Equivalence.{Takes, take_left, take_right, Like, Match, inverted}
use Rattle.calculus.specs.TermOf.{parallel}

-- equal terms in parallel
pub parallel_same : {f g : ℕ → Term} (n : ℕ) → ((i : ℕ) → f i ≡ g i) → parallel f n ≡ parallel g n
parallel_same n h = ap (λ k. parallel k n) (fun_ext h)

-- equivalent terms in parallel
pub parallel_cong : {f g : ℕ → Term} (n : ℕ) → ((i : ℕ) → f i ≅ g i) → parallel f n ≅ parallel g n
unfolding parallel
parallel_cong zero h = struct_refl
parallel_cong (suc n) h = pars (h n) (parallel_cong n h)

-- nothing in parallel
pub parallel_none : {f : ℕ → Term} (n : ℕ) → ((i : ℕ) → f i ≡ nil) → parallel f n ≅ nil
unfolding parallel
parallel_none zero h = struct_refl
parallel_none (suc n) h = pars (of_path (h n)) (parallel_none n h) ⨾ struct_par_zero

-- pairs in parallel
pub parallel_par : (f g : ℕ → Term) (n : ℕ) → parallel (λ i. f i ∣ g i) n ≅ parallel f n ∣ parallel g n
unfolding parallel
parallel_par f g zero = struct_symm struct_par_zero
parallel_par f g (suc n) = struct_par_right (parallel_par f g n) ⨾ swap_middle

beyond : (f : ℕ → Term) (i n : ℕ) (v : Term) → n ≤ i → parallel (upd f i v) n ≡ parallel f n
unfolding parallel
beyond f i zero v l = refl
beyond f i (suc n) v l = rw (upd_other f i n v (omega arith), beyond f i n v (omega arith))

-- one of them before the others
pub parallel_first : (f : ℕ → Term) (i n : ℕ) → i < n → parallel f n ≅ f i ∣ parallel (upd f i nil) n
unfolding parallel
parallel_first f i zero l = absurd (omega arith)
parallel_first f i (suc n) l = go (eq? n i) (λ k. parallel_first f i n k)
  where
    go : (n ≡ i) ⊎ (n ≢ i) → (i < n → parallel f n ≅ f i ∣ parallel (upd f i nil) n) → parallel f (suc n) ≅ f i ∣ parallel (upd f i nil) (suc n)
    go (inl e) r = rw (upd_at f i n nil e, beyond f i n nil (omega arith)) (pars (of_path (ap f e)) (struct_symm zero_par))
    go (inr d) r = rw (upd_other f i n nil d) (struct_par_right (r (omega arith)) ⨾ swap)

-- a part of them is a part of one of them
record PartOfOne (f : ℕ → Term) (n : ℕ) (L Z : Term) : Type 0 where
  which : ℕ
  less : which < n
  rest : Term
  takes : Takes (f which) L rest
  left : Z ≅ rest ∣ parallel (upd f which nil) n

part_of_one : (f : ℕ → Term) (n : ℕ) {L Z : Term} → Takes (parallel f n) L Z → PartOfOne f n L Z
unfolding parallel
part_of_one f (suc n) (take_left o) = record {
  which = n;
  less = omega arith;
  rest = _;
  takes = o;
  left = rw (upd_at f n n nil refl, beyond f n n nil (omega arith)) (struct_par_right (struct_symm zero_par));
}
part_of_one f (suc n) (take_right o) =
    let k = part_of_one f n o in
    record {
      which = k.which;
      less = omega (arith, k.less);
      rest = k.rest;
      takes = k.takes;
      left = rw (upd_other f k.which n nil (omega (arith, k.less))) (struct_par_right k.left ⨾ swap);
    }
part_of_one f zero x = elim x [ ]

-- a part like L of two rows of 64, and R is left: it is of the first row or of the second
pub data Found (f g : ℕ → Term) (L R : Term) : Type 0 where
  in_first : {M Z : Term} (x : ℕ) → x < 64 → Takes (f x) M Z → Like M L → (Z ∣ parallel (upd f x nil) 64) ∣ parallel g 64 ≅ R → Found f g L R
  in_second : {M Z : Term} (x : ℕ) → x < 64 → Takes (g x) M Z → Like M L → parallel f 64 ∣ (Z ∣ parallel (upd g x nil) 64) ≅ R → Found f g L R

-- every such part is found in one of them
pub found : (f g : ℕ → Term) {L R : Term} → Takes L L nil → parallel f 64 ∣ parallel g 64 ≅ L ∣ R → Found f g L R
found f g {L} {R} o e = go k.takes k.like (k.same ⨾ zero_par)
  where
    k : Match (parallel f 64 ∣ parallel g 64) L (nil ∣ R)
    k = inverted e (take_left o)

    go : {M Z : Term} → Takes (parallel f 64 ∣ parallel g 64) M Z → Like M L → Z ≅ R → Found f g L R
    go (take_left q) l s = let z = part_of_one f 64 q in in_first z.which z.less z.takes l (struct_par (struct_symm z.left) ⨾ s)
    go (take_right q) l s = let z = part_of_one g 64 q in in_second z.which z.less z.takes l (struct_par_right (struct_symm z.left) ⨾ s)
