-- 64 levels are enough: what a place holds is its agents and, for each place in it, what that place holds.
-- Idea: one level more or less makes a difference only below a row of 64 places that are not the floor, and no way up is that long.
use Rattle.std.specs.Prelude.{◌≡◌, ◌≢◌, true}
use Rattle.std.proofs.Math.Path.{sym, ap, subst, fun_ext}
use Prim.Native.Nat.{ℕ, zero, suc, ◌+◌}
use Rattle.std.proofs.Common.{arith}
use Rattle.table.specs.Base.{iter}
use Rattle.table.proofs.BaseLaws.{cond_cong}
use Rattle.meaning.specs.Calculus.{Tree, stands_at}
use Rattle.calculus.proofs.Up.{sixty_three}
use Rattle.calculus.specs.Formed.{Formed}
use Rattle.calculus.proofs.MoveCases.{Stands, stands_in}
use Rattle.calculus.specs.Terms.{Term, amb, nil, ◌∣◌}
use Rattle.calculus.specs.TermOf.{parallel, agent_at, place_at, level, contents, held}

-- n places in a row, from q upwards, that are not the floor
data Chain (f : ℕ → ℕ) : ℕ → ℕ → Type 0 where
  chain_none : {q : ℕ} → Chain f 0 q
  chain_more : {n q : ℕ} → q ≢ 0 → Chain f n (f q) → Chain f (suc n) q

chain_floor : (f : ℕ → ℕ) → f 0 ≡ 0 → {n q : ℕ} → Chain f (suc n) q → iter f n q ≢ 0
unfolding iter
chain_floor f z (chain_more {n = zero} d c) e = d e
chain_floor f z (chain_more {n = suc n} d c) e = chain_floor f z c e

-- only what a place in p holds matters
place_same : (t : Tree) (g h : ℕ → Term) (p q : ℕ) → (Stands t q p → g q ≡ h q) → place_at t g p q ≡ place_at t h p q
unfolding place_at
place_same t g h p q k = cond_cong (stands_at t q p) (amb (t.name q) (g q)) (amb (t.name q) (h q)) nil
    (λ e. ap (amb (t.name q)) (k (stands_in t q p e)))

module _ (t : Tree) (w : Formed t) where
  deep : (k d p : ℕ) → k + d ≡ 64 → t.used p ≡ true → Chain t.parent d p → contents t (suc k) p ≡ contents t k p
  unfolding contents level
  deep zero d p e u c =
      let c' : Chain t.parent 64 p = subst (λ n. Chain t.parent n p) (omega arith) c in
      absurd (chain_floor t.parent w.floor_parent c'
      (sixty_three t.parent w.floor_parent (λ q _. w.small _ (w.parent_used q)) (w.small p u) (w.tree p)))
  deep (suc k) d p e u c =
      ap (λ g. parallel (agent_at t p) 64 ∣ parallel g 64) (fun_ext λ q. place_same t (contents t (suc k)) (contents t k) p q
      (λ i. deep k (suc d) q (omega arith) i.used (chain_more i.placed (subst (Chain t.parent d) (sym i.parent) c))))

  -- what a place in use holds, one level opened
  pub unfolds : (p : ℕ) → t.used p ≡ true → held t p ≡ level t (held t) p
  unfolding contents
  unfolds p u = sym (deep 64 0 p (omega arith) u chain_none)
