-- Trees have one listing exactly if their terms are equal by the structural equivalence of source 002 section 2.2 (document 02, W7):
-- `same_listing`. Of formed trees whose names, keys and numbers have 16 bits, as those of sound tables are.
use Rattle.std.specs.Prelude.{◌≡◌, ◌↔◌, Bool, true, false, cond, List, eqb}
use Rattle.std.proofs.Common.{sym, ◌∙◌}
use Prim.Native.Nat.{ℕ, zero, suc}
use Rattle.table.specs.declared.Action.{Action}
use Rattle.meaning.specs.Calculus.{Tree, stands_at}
use Rattle.meaning.specs.TreeListing.{tree_listing}
use Rattle.meaning.specs.Every.{every_none, every_more, Every}
use Rattle.calculus.specs.Terms.{Term, nil, ◌≅◌}
use Rattle.calculus.specs.TermOf.{parallel, agent_at, place_at, level, contents, term}
use Rattle.calculus.specs.Formed.{Good, none, more, Formed}
use Rattle.calculus.specs.Numbers.{Row16, Numbers16}
use Rattle.calculus.specs.TermListing.{listed}
use Rattle.calculus.proofs.OneListing.{one_listing}
use Rattle.calculus.proofs.RowTexts.{Fine}
use Rattle.calculus.proofs.ListedTerms.{Proper, proper_amb, proper_nil, proper_par, proper_row, one_listed}
use Rattle.calculus.proofs.TreeListed.{tree_listed}

-- a row in range, with numbers of 16 bits
good_fine : {l : List Action} → Good l → Row16 l → Every Fine l
good_fine none every_none = every_none
good_fine (more a b c g) (every_more n e) = every_more (record { first = a; last = b; small = n }) (good_fine g e)

-- ---- the term of such a tree

-- one term or nothing
cond_proper : (b : Bool) {P : Term} → Proper P → Proper (cond b P nil)
cond_proper true p = p
cond_proper false p = proper_nil

-- many in parallel
parallel_proper : (f : ℕ → Term) (n : ℕ) → ((i : ℕ) → Proper (f i)) → Proper (parallel f n)
unfolding parallel
parallel_proper f zero h = proper_nil
parallel_proper f (suc n) h = proper_par (h n) (parallel_proper f n h)

module _ (t : Tree) (w : Formed t) (s : Numbers16 t) where
  -- its rows
  pub fine_rows : (x : ℕ) → Every Fine (t.unused x)
  fine_rows x = good_fine (w.good x) (s.actions x)

  -- what a place holds
  contents_proper : (k p : ℕ) → Proper (contents t k p)
  unfolding contents level agent_at place_at
  contents_proper zero p = proper_nil
  contents_proper (suc k) p = proper_par
      (parallel_proper (agent_at t p) 64 (λ x. cond_proper (eqb (t.home x) p) (proper_row (fine_rows x))))
      (parallel_proper (place_at t (contents t k) p) 64 (λ q. cond_proper (stands_at t q p) (proper_amb (s.names q) (contents_proper k q))))

  -- and the term
  term_proper : Proper (term t)
  unfolding term
  term_proper = contents_proper 64 0

-- ---- the theorem

-- one listing exactly if the terms are equivalent
pub same_listing : (t u : Tree) → Formed t → Numbers16 t → Formed u → Numbers16 u → (tree_listing t ≡ tree_listing u) ↔ (term t ≅ term u)
same_listing t u w n v m = (
  λ e. one_listed (term t) (term u) (term_proper t w n) (term_proper u v m) (sym left ∙ e ∙ right),
  λ e. left ∙ one_listing e ∙ sym right,
)
  where
    left : tree_listing t ≡ listed (term t)
    left = tree_listed t w (fine_rows t w n)

    right : tree_listing u ≡ listed (term u)
    right = tree_listed u v (fine_rows u v m)
