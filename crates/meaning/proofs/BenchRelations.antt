-- What a row of numbers cannot show: the relations of the calculus, of the plain tree and of the listing, each held to a case of the sample.
use Rattle.std.specs.Prelude.{◌≡◌, refl, true, List, [], ◌∷◌, length, eqb}
use Rattle.std.proofs.Common.{ap}
use Rattle.sets.proofs.ToldLaws.{clash}
use Rattle.table.specs.Cell.{bare_table, cell_of}
use Rattle.meaning.specs.declared.Word.TheVariants.{Took, Left}
use Rattle.meaning.specs.Answers.{Did}
use Rattle.meaning.specs.Run.{Call, step_call, step_reply}
use Rattle.meaning.specs.Calculus.{move, Move}
use Rattle.meaning.specs.Plain.{tree_of, History, start, moved, stayed}
use Rattle.meaning.specs.Listing.{listing, Alike}
use Rattle.meaning.specs.BenchTables.{sample}
use Rattle.meaning.proofs.Bench.{computes}

-- agent 0 enters place 3: a move that the calculus permits, and what it makes
pub enters3 : Move (tree_of sample) 0 (move (tree_of sample) 0 3)
unfolding computes
enters3 = record { place = 3; permitted = refl; result = refl }

-- one call of agent 0
abbrev pub called : List Call
called = step_call 0 255 ∷ []

-- "one calculus move for each call answered left or opened"
pub answered_left : History (tree_of sample) called (step_reply (Did Left 0) ∷ []) (move (tree_of sample) 0 3)
answered_left = moved refl enters3 start

-- no change for any other answer
pub answered_took : History (tree_of sample) called (step_reply (Did Took 0) ∷ []) (tree_of sample)
answered_took = stayed refl start

-- the sample is not listed as the empty cell is
pub not_alike : Alike sample (cell_of bare_table) → ⊥
unfolding computes
not_alike e = let one : eqb (length (listing sample)) 1 ≡ true = ap (λ s. eqb (length s) 1) e in clash one refl
