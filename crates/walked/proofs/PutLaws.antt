-- The step that puts a new place: a move of the place under a number whose lock, touches and row were renewed first. Assumes nothing.
-- Idea: the tables differ in three arrays only, and each is compared number by number.
use Rattle.std.specs.Prelude.{◌≡◌, ℕ, Bool, true, false, cond, List, ◌==◌, slice_index, refl}
use Rattle.std.proofs.Math.Path.{ap}
use Rattle.std.proofs.Common.{◌∙◌}
use Rattle.sets.specs.Set.{inserted}
use Rattle.order.specs.Row.{latest}
use Rattle.table.specs.Base.{tab, upd}
use Rattle.table.proofs.BaseLaws.{tab_ext, get_d_tab}
use Rattle.table.specs.Cell.{none, cell_of, table_of, plain_name, name_of, put_locks, put_used, put_touches, put_order}
use Rattle.table.proofs.CellLaws.{table_eq}
use Rattle.table.specs.declared.Agent.{Agent}
use Rattle.table.specs.declared.Cell.{Cell}
use Rattle.meaning.specs.declared.Word.TheVariants.{Put}
use Rattle.meaning.specs.Update.{linked_place, at_stage, use_up, released}
use Rattle.meaning.specs.Step.{put, wake, rest_stage}
use Rattle.meaning.specs.Run.{made}
use Rattle.updates.proofs.UpdateLaws.{did}
use Rattle.moves.proofs.PutLaws.{inserted_test}
use Rattle.walked.specs.Motions.{move_place}

-- a lock freed first, and then another one twice, are two freed
module _ (locks : List ℕ) (p q : ℕ) where
  -- the locks before
  abbrev lock : ℕ → ℕ
  lock = λ j. slice_index locks j

  twice : (s t : Bool) (n : ℕ) → cond s none (cond s none (cond t none n)) ≡ cond t none (cond s none n)
  twice true true n = refl
  twice true false n = refl
  twice false t n = refl

  pub freed_first : tab (released (λ j. slice_index (tab (upd lock q none) 64 0) j) p p) 64 0 ≡ tab (released lock p q) 64 0
  unfolding upd
  freed_first = tab_ext 0 64 _ _ (λ j l.
      ap (λ (n : ℕ). cond (j == p) none (cond (j == p) none n)) (get_d_tab (upd lock q none) 64 j 0 l) ∙ twice (j == p) (j == q) (lock j))

-- the table that the place is moved in: the number in use, its lock free, no touches, and it is the latest
abbrev pub renewed : Cell → ℕ → Cell
renewed t q =
    put_order (put_touches (put_locks (put_used t (inserted t.used q)) (tab (upd (λ j. slice_index t.locks j) q none) 64 0))
    (tab (upd (λ j. slice_index t.touches j) q 0) 64 0)) (latest q t.order)

-- the table and the answer
pub put_made : (t : Cell) (x : ℕ) (a : Agent) (q : ℕ)
    → made (move_place (cell_of (renewed t q)) x q (linked_place (plain_name (name_of a)) a.remembered) a.remembered a.remembered a.remembered
    (at_stage (use_up a) (rest_stage (use_up a)) 0 0) Put)
    ≡ made (put (cell_of t) x a q)
unfolding cell_of table_of move_place put wake made
put_made t x a q = did _ Put _ (put (cell_of t) x a q)
    (table_eq refl (freed_first t.locks a.remembered q) refl (inserted_test t q) refl
    (tab_ext 0 64 _ _ (λ j l. get_d_tab (upd (λ j. slice_index t.touches j) q 0) 64 j 0 l)) refl)
    refl refl
