-- What the choice of an agent at stage 2 says: the chosen place qualifies, where none is chosen none does, and a wish that qualifies is granted.
-- By whether it is the wish, the first in the row that qualifies, or none.
use Rattle.std.specs.Prelude.{◌≡◌, refl, List, ℕ, ◌≤◌, ◌<◌, Bool, true, false}
use Rattle.std.proofs.Common.{subst, arith}
use Rattle.order.specs.Row.{occurs, row_fits}
use Rattle.order.proofs.RowLaws.{fits_occurs}
use Rattle.table.proofs.BaseLaws.{clash}
use Rattle.table.specs.Cell.{Land, kind_of, name_of}
use Rattle.table.specs.declared.Agent.{Agent}
use Rattle.meaning.specs.Step.{qualifies, choice}
use Rattle.demands.proofs.Chosen.{Chosen, the_wish, the_first, nothing_fits, choice_first}

-- ---- a choice

module _ {row : List ℕ} {f : ℕ → Bool} {wish : ℕ} where
  chosen_fits : {q : ℕ} → Chosen row f wish q → q < 64 → f q ≡ true
  chosen_fits (the_wish l e) s = e
  chosen_fits (the_first q u l e h) s = e
  chosen_fits (nothing_fits u h) s = absurd (omega arith)

  chosen_none : {q : ℕ} → Chosen row f wish q → 64 ≤ q → (r : ℕ) → r < 64 → occurs r row ≡ true → f r ≡ false
  chosen_none (the_wish l e) s r k o = absurd (omega arith)
  chosen_none (the_first q u l e h) s r k o = absurd (omega arith)
  chosen_none (nothing_fits u h) s r k o = h r k o

  chosen_wish : {q : ℕ} → Chosen row f wish q → wish < 64 → f wish ≡ true → q ≡ wish
  chosen_wish (the_wish l e) k t = refl
  chosen_wish (the_first q u l e h) k t = clash t (u k)
  chosen_wish (nothing_fits u h) k t = clash t (u k)

-- ---- the choice of an agent

module _ (l : Land) (a : Agent) (wish : ℕ) where
  chosen : Chosen l.order (qualifies l (kind_of a) (name_of a) a.home a.remembered) wish (choice l a wish)
  chosen = choice_first l (kind_of a) (name_of a) a.home a.remembered wish

  -- the place that it chooses qualifies
  pub choice_fits : (q : ℕ) → choice l a wish ≡ q → q < 64 → qualifies l (kind_of a) (name_of a) a.home a.remembered q ≡ true
  choice_fits q e = chosen_fits (subst (Chosen l.order _ wish) e chosen)

  -- where it chooses none, no place below 64 qualifies
  pub choice_none : row_fits l.order ≡ true → 64 ≤ choice l a wish
      → (q : ℕ) → q < 64 → qualifies l (kind_of a) (name_of a) a.home a.remembered q ≡ false
  choice_none e s q k = chosen_none chosen s q k (fits_occurs l.order e q k)

  -- a wish that qualifies is its choice
  pub choice_wish : wish < 64 → qualifies l (kind_of a) (name_of a) a.home a.remembered wish ≡ true → choice l a wish ≡ wish
  choice_wish = chosen_wish chosen
