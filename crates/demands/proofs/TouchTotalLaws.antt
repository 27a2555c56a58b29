-- "The sum over places in use equals all touches loaded and added, after any mixture of calls": from every cell as a load leaves it, and from
-- every accepted file.
-- Idea: a step keeps the sum, and a touch call adds what it names or is refused.
use Rattle.std.specs.Prelude.{◌≡◌, List, [], ◌∷◌, ℕ, ◌+◌}
use Rattle.std.proofs.Common.{sym, ap, ◌∙◌, add-zero, arith}
use Rattle.table.specs.Cell.{State, cell_of, table_of}
use Rattle.table.specs.Bounds.{Sized}
use Rattle.table.proofs.CellLaws.{sized_table}
use Rattle.table.specs.Sound.{touch_sum}
use Rattle.table.specs.declared.Cell.{Cell}
use Rattle.meaning.specs.File.{load, accepted}
use Rattle.meaning.specs.Run.{Call, step_call, touch_call, commit_call, touch_reply, step_of, turned_away, call_of, run, answers}
use Rattle.meaning.proofs.AskLaws.{committed}
use Rattle.meaning.specs.Touch.{counted, untouched}
use Rattle.demands.specs.Invariant.{Inv}
use Rattle.demands.proofs.Touches.{touch_sum_lem}
use Rattle.demands.proofs.Touching.{touched, touch_back}
use Rattle.demands.proofs.Always.{step_keeps, stepped, step_back, sized_called, inv_called}
use Rattle.demands.specs.Fresh.{Fresh}
use Rattle.demands.proofs.LoadingFile.{accepted_fresh, loaded_touches}
use Rattle.demands.proofs.LoadingLaws.{fresh_forth}
use Rattle.demands.specs.AfterCalls.{answered}
use Rattle.demands.proofs.DemandThree.{start_inv}
use Rattle.demands.specs.TouchTotal.{added_by, added, TouchTotal, AllTouches}

-- ---- calls on a table

-- a step call
sum_stepped : (t : Cell) (x wish : ℕ) → Sized t → Inv (cell_of t) → touch_sum (cell_of (step_of t x wish).cell) ≡ touch_sum (cell_of t) + 0
sum_stepped t x w z i = stepped (λ (u : Cell). touch_sum (cell_of u) ≡ touch_sum (cell_of t) + 0) t x w (sym (add-zero _))
    (λ _ g. ap touch_sum (step_back t z i.sound x g w) ∙ (step_keeps (cell_of t) i.sound x g w).touched ∙ sym (add-zero _))

-- one call
pub sum_called : (t : Cell) (k : Call) → Sized t → Inv (cell_of t) → touch_sum (cell_of (call_of t k).cell) ≡ touch_sum (cell_of t) + added_by k (call_of t k).reply
unfolding call_of turned_away counted untouched
sum_called t (step_call x w) z i = sum_stepped t x w z i
sum_called t (touch_call q n) z i = touched (λ s. touch_sum (cell_of s.cell) ≡ touch_sum (cell_of t) + added_by (touch_call q n) (touch_reply s.answer)) t q n
    (λ _. sym (add-zero _))
    (λ u _. ap touch_sum (touch_back t q n z u) ∙ touch_sum_lem (cell_of t) q n u (i.sound.places.small q u))
sum_called t (commit_call x w word woken place) z i = committed (λ s. touch_sum (cell_of s.cell) ≡ touch_sum (cell_of t) + 0) t x w word woken place
    (sum_stepped t x w z i) (sym (add-zero _))

-- a list of calls
pub sum_run : (t : Cell) (calls : List Call) → Sized t → Inv (cell_of t) → touch_sum (cell_of (run t calls)) ≡ touch_sum (cell_of t) + added calls (answers t calls)
unfolding run answers added
sum_run t [] z i = sym (add-zero _)
sum_run t (k ∷ calls) z i = omega (arith, sum_run (call_of t k).cell calls (sized_called t k z) (inv_called t k z i), sum_called t k z i)

-- ---- the claim

-- from a fresh cell
pub fresh_total : (c : State) → Fresh c → (calls : List Call) → TouchTotal c calls
fresh_total c f calls = sum_run (table_of c) calls (sized_table c) (start_inv c f calls)
    ∙ ap (λ (d : State). touch_sum d + added calls (answered c calls)) (fresh_forth c f)

module _ (s : List ℕ) (c : State) (e : load s ≡ accepted c) (calls : List Call) where
  -- from an accepted file: the sum grew by what was added
  pub touch_total : TouchTotal c calls
  touch_total = fresh_total c (accepted_fresh s c e) calls

  -- and it is that of all touches loaded and added
  pub all_touches : AllTouches s c calls
  all_touches = touch_total ∙ ap (λ (n : ℕ). n + added calls (answered c calls)) (loaded_touches s c e)
