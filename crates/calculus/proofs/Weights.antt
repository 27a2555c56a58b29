-- How many places and agents with actions a term has; equivalent terms have as many. Assumes nothing.
use Rattle.std.specs.Prelude.{◌≡◌, refl, List, [], ◌∷◌, ℕ, zero, suc, ◌+◌, ◌≤◌}
use Rattle.std.proofs.Common.{sym, ap, ◌∙◌}
use native.Mathlib.Omega.{arith}
use Rattle.table.specs.Base.{sum_below}
use Rattle.table.specs.declared.Action.{Action}
use Rattle.calculus.specs.Terms.{Term, weigh, ◌≅◌, struct_refl, struct_symm, struct_trans, struct_par_zero}
use Rattle.calculus.specs.Terms.{struct_par_comm, struct_par_assoc, struct_amb, struct_par, struct_enter, struct_exit, struct_open, struct_release}
use Rattle.calculus.specs.TermOf.{prefix, row, parallel}

-- equivalent terms have as many
pub weigh_same : (A B : ℕ) {P Q : Term} → P ≅ Q → weigh A B P ≡ weigh A B Q
unfolding weigh
weigh_same A B struct_refl = refl
weigh_same A B (struct_symm e) = sym (weigh_same A B e)
weigh_same A B (struct_trans e f) = weigh_same A B e ∙ weigh_same A B f
weigh_same A B struct_par_zero = omega arith
weigh_same A B struct_par_comm = omega arith
weigh_same A B struct_par_assoc = omega arith
weigh_same A B (struct_amb e) = ap (λ (n : ℕ). B + n) (weigh_same A B e)
weigh_same A B (struct_par {R = R} e) = ap (λ (n : ℕ). n + weigh A B R) (weigh_same A B e)
weigh_same A B (struct_enter e) = refl
weigh_same A B (struct_exit e) = refl
weigh_same A B (struct_open e) = refl
weigh_same A B (struct_release e) = refl

-- many in parallel have those of each
pub parallel_weighs : (A B : ℕ) (f : ℕ → Term) (n : ℕ) → weigh A B (parallel f n) ≡ sum_below (λ i. weigh A B (f i)) n
unfolding weigh parallel sum_below
parallel_weighs A B f zero = refl
parallel_weighs A B f (suc n) = omega (arith, parallel_weighs A B f n)

-- a row of actions is one agent at most, and has no place
pub row_weighs : (A B : ℕ) (l : List Action) → weigh A B (row l) ≤ A
unfolding weigh row
row_weighs A B [] = omega arith
row_weighs A B (x ∷ l) = go x.kind (row_weighs A B l)
  where
    go : (k : ℕ) → weigh A B (row l) ≤ A → weigh A B (prefix k x.name (row l)) ≤ A
    go zero r = unfold prefix in r
    go (suc zero) r = unfold prefix in omega arith
    go (suc (suc zero)) r = unfold prefix in omega arith
    go (suc (suc (suc zero))) r = unfold prefix in omega arith
    go (suc (suc (suc (suc k)))) r = unfold prefix in omega arith
