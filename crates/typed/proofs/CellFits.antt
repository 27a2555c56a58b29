-- The term of a cell fits: it has no more places, agents and actions than a table has room for (document 02, W8). Assumes nothing.
use Rattle.std.specs.Prelude.{◌≡◌, Bool, cond, eqb, ltb}
use Rattle.std.proofs.Math.Path.{refl, ap₂}
use Rattle.std.proofs.Math.Bool.{true, false, ◌&&◌}
use mathlib.Core.List.{List, [], ◌∷◌}
use Prim.Native.Nat.{ℕ, zero, suc, ◌+◌, ◌-◌, ◌≤◌}
use native.Mathlib.Omega.{arith}
use Rattle.std.proofs.Math.ListN.{length, get_or}
use Rattle.std.proofs.Common.{le-leb, lt-ltb}
use Rattle.table.proofs.BaseLaws.{length_tab}
use Rattle.table.proofs.SumLaws.{sum_le}
use Rattle.table.specs.Cell.{State, no_action, row_end, unused}
use Rattle.table.specs.declared.Name.{Name}
use Rattle.table.specs.declared.Action.{Action}
use Rattle.meaning.specs.Calculus.{stands_at}
use Rattle.meaning.specs.Plain.{tree_of}
use Rattle.meaning.specs.Listing.{stands_under}
use Rattle.meaning.specs.TreeListing.{acts_in}
use Rattle.calculus.specs.Terms.{Term, amb, nil, weigh}
use Rattle.calculus.specs.TermOf.{prefix, row, parallel, agent_at, place_at, level, contents, term}
use Rattle.calculus.proofs.Weights.{parallel_weighs, row_weighs}
use Rattle.demands.proofs.Actions.{end_most}
use Rattle.demands.proofs.Layouts.{agent_both, place_both}
use Rattle.demands.specs.SameListings.{term_of}
use Rattle.lengths.proofs.Sums.{pick}
use Rattle.lengths.proofs.Levels.{lives_in, stands_in, heap, heap_floor}
use Rattle.typed.proofs.Weighed.{short, term_fits}

-- ---- no more places and agents

module _ (A B : ℕ) where
  -- a row with actions is one agent, one without is none
  agent_weighs : (b : Bool) (l : List Action) → weigh A B (cond b (row l) nil) ≤ pick (ltb 0 (length l) && b) A
  unfolding weigh row
  agent_weighs true [] = omega arith
  agent_weighs true (x ∷ l) = rw (lt-ltb 0 (length (x ∷ l)) (omega arith)) (unfold row in row_weighs A B (x ∷ l))
  agent_weighs false l = omega arith

  -- a place is one, with what it holds
  place_weighs : (b : Bool) (n : Name) (P : Term) (m : ℕ) → weigh A B P ≤ m → weigh A B (cond b (amb n P) nil) ≤ pick b (B + m)
  unfolding weigh
  place_weighs true n P m l = omega arith
  place_weighs false n P m l = omega arith

  module _ (c : State) where
    -- an agent in p is listed there
    agent_most : (p x : ℕ) → weigh A B (agent_at (tree_of c) p x) ≤ pick (lives_in c A B p x) A
    unfolding agent_at
    agent_most p x = rw (agent_both c p x) (unfold acts_in in agent_weighs (eqb ((tree_of c).home x) p) ((tree_of c).unused x))

    -- a place in p stands there
    place_most : (k p q : ℕ) → weigh A B (contents (tree_of c) k q) ≤ heap c A B k q
        → weigh A B (place_at (tree_of c) (contents (tree_of c) k) p q) ≤ pick (stands_in c A B p q) (B + heap c A B k q)
    unfolding place_at stands_at
    place_most k p q l = rw (place_both c p q) (unfold stands_under in place_weighs (stands_at (tree_of c) q p) ((tree_of c).name q)
        (contents (tree_of c) k q) (heap c A B k q) l)

    -- level by level
    contents_most : (k p : ℕ) → weigh A B (contents (tree_of c) k p) ≤ heap c A B k p
    unfolding contents level heap weigh
    contents_most zero p = omega arith
    contents_most (suc k) p = omega (
      arith,
      parallel_weighs A B (agent_at (tree_of c) p) 64,
      parallel_weighs A B (place_at (tree_of c) (contents (tree_of c) k) p) 64,
      sum_le (λ x. weigh A B (agent_at (tree_of c) p x)) (λ x. pick (lives_in c A B p x) A) 64 (agent_most p),
      sum_le (λ q. weigh A B (place_at (tree_of c) (contents (tree_of c) k) p q)) (λ q. pick (stands_in c A B p q) (B + heap c A B k q)) 64
          (λ q. place_most k p q (contents_most k q)),
    )

-- ---- no longer rows

-- a row of k actions at most is short
row_short : (l : List Action) (k : ℕ) → length l ≤ k → short k (row l) ≡ true
unfolding row short
row_short [] k h = refl
row_short (x ∷ l) zero h = absurd (omega arith)
row_short (x ∷ l) (suc k) h = go x.kind (row_short l (suc k) (omega arith)) (row_short l k (omega arith))
  where
    go : (j : ℕ) → short (suc k) (row l) ≡ true → short k (row l) ≡ true → short (suc k) (prefix j x.name (row l)) ≡ true
    go zero a b = unfold prefix in a
    go (suc zero) a b = unfold prefix in b
    go (suc (suc zero)) a b = unfold prefix in b
    go (suc (suc (suc zero))) a b = unfold prefix in b
    go (suc (suc (suc (suc j)))) a b = unfold prefix in b

-- many in parallel
parallel_short : (f : ℕ → Term) (n : ℕ) → ((i : ℕ) → short 16 (f i) ≡ true) → short 16 (parallel f n) ≡ true
unfolding parallel short
parallel_short f zero h = refl
parallel_short f (suc n) h = ap₂ ◌&&◌ (h n) (parallel_short f n h)

module _ (c : State) where
  -- a row of a cell has sixteen actions at most
  unused_short : (x : ℕ) → length ((tree_of c).unused x) ≤ 16
  unfolding tree_of
  unused_short x = go (c.given x)
    where
      size : length (unused (c.agent x)) ≤ 16
      size = unfold unused in omega (
        arith,
        length_tab (λ j. get_or (c.agent x).actions j no_action) (row_end (c.agent x).count - (c.agent x).next) (c.agent x).next,
        (end_most (c.agent x).count).1,
      )

      go : (b : Bool) → length (cond b (unused (c.agent x)) []) ≤ 16
      go true = size
      go false = omega arith

  -- what a place holds
  contents_short : (k p : ℕ) → short 16 (contents (tree_of c) k p) ≡ true
  unfolding contents level short
  contents_short zero p = refl
  contents_short (suc k) p = ap₂ ◌&&◌ (parallel_short (agent_at (tree_of c) p) 64 agents)
      (parallel_short (place_at (tree_of c) (contents (tree_of c) k) p) 64 (λ q. places q (contents_short k q)))
    where
      agents : (x : ℕ) → short 16 (agent_at (tree_of c) p x) ≡ true
      agents x = unfold agent_at in go (eqb ((tree_of c).home x) p)
        where
          go : (b : Bool) → short 16 (cond b (row ((tree_of c).unused x)) nil) ≡ true
          go true = row_short ((tree_of c).unused x) 16 (unused_short x)
          go false = unfold short in refl

      places : (q : ℕ) → short 16 (contents (tree_of c) k q) ≡ true → short 16 (place_at (tree_of c) (contents (tree_of c) k) p q) ≡ true
      places q e = unfold place_at in go (stands_at (tree_of c) q p)
        where
          go : (b : Bool) → short 16 (cond b (amb ((tree_of c).name q) (contents (tree_of c) k q)) nil) ≡ true
          go true = unfold short in e
          go false = unfold short in refl

  -- so the term of a cell fits
  pub term_fits_lem : term_fits (term_of c) ≡ true
  unfolding term_fits term
  term_fits_lem = ap₂ ◌&&◌ (le-leb (weigh 0 1 (contents (tree_of c) 64 0)) 63 (omega (arith, contents_most 0 1 c 64 0, heap_floor c 0 1 64)))
      (ap₂ ◌&&◌ (le-leb (weigh 1 0 (contents (tree_of c) 64 0)) 64 (omega (arith, contents_most 1 0 c 64 0, heap_floor c 1 0 64)))
      (contents_short 64 0))
