-- Before each turn so many moves are made, and what is left of the trail decides the whole.
use mathlib.Core.List.{List}
use Prim.Native.Nat.{ℕ}
use Rattle.table.specs.Cell.{cell_of}
use Rattle.meaning.specs.Plain.{tree_of}
use Rattle.trail.specs.Trail.{judged}
use Rattle.checker.specs.OnTable.{Ready}
use Rattle.checker.proofs.JudgeLaws.{Left}
use Rattle.checker.proofs.run.Given as goal

abbrev pub invariant-loop-n : goal.invariant-loop-n
invariant-loop-n l = Ready l.d × ((text : List ℕ) → Left (judged 0 (tree_of (cell_of l.initial.d)) l.trail text) l.trail text l.d l.n)
