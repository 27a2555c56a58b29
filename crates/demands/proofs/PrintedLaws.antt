-- What `walk` prints, over every cell as a load leaves it and every order: the loaded tree, a line for each call with what it answered, and the
-- plain tree after the calls. So it is of every accepted file; of a refused one its number and offset.
-- Idea: the report goes over the calls as the answers and the run do; the two listings are those of the trees.
use Rattle.std.specs.Prelude.{◌≡◌, refl, List, [], ◌∷◌, ◌++◌, ℕ, suc, length}
use Rattle.std.proofs.Common.{sym, ap, ap₂, ◌∙◌, append_assoc}
use Rattle.table.specs.Base.{tab}
use Rattle.table.specs.Cell.{State, cell_of, table_of}
use Rattle.table.specs.declared.Cell.{Cell}
use Rattle.meaning.specs.Text.{ascii}
use Rattle.meaning.specs.File.{Load, accepted, refused, load}
use Rattle.meaning.specs.Run.{Call, step_of, call_of, run, answers}
use Rattle.meaning.specs.Plain.{tree_of, plain_of}
use Rattle.meaning.specs.Report.{Pair, step_line, listing_line, refused_line, calls_in, report_run, report_of, report}
use Rattle.demands.specs.Fresh.{Fresh}
use Rattle.demands.proofs.LoadingFile.{accepted_fresh}
use Rattle.demands.proofs.LoadingLaws.{fresh_forth}
use Rattle.demands.specs.AfterCalls.{reached, answered, plain_after}
use Rattle.demands.proofs.DemandThree.{reached_tree}
use Rattle.demands.proofs.Layouts.{tree_listing_lem}
use Rattle.demands.specs.Printed.{tree_line, pair_calls, step_lines, printed_of}

-- every call is answered, so there is a line for each
pub answers_each : (t : Cell) (calls : List Call) → length (answers t calls) ≡ length calls
unfolding answers
answers_each t [] = refl
answers_each t (k ∷ calls) = ap suc (answers_each (call_of t k).cell calls)

-- the lines of a run are those of the answers to its pairs' step calls, agent by agent, and the last one lists the cell that is reached
pub report_lines : (t : Cell) (pairs : List Pair)
    → report_run t pairs ≡ step_lines (pair_calls pairs) (answers t (pair_calls pairs)) ++ listing_line (ascii "end") (cell_of (run t (pair_calls pairs)))
unfolding report_run pair_calls step_lines answers run call_of
report_lines t [] = refl
report_lines t (k ∷ pairs) =
    ap (λ (s : List ℕ). step_line k.agent (step_of t k.agent k.wish).answer ++ s)
    (report_lines (step_of t k.agent k.wish).cell pairs)
    ∙ sym (append_assoc (step_line k.agent (step_of t k.agent k.wish).answer) _ _)

-- a cell's line is that of its tree
tree_line_lem : (word : List ℕ) (c : State) → listing_line word c ≡ tree_line word (tree_of c)
unfolding listing_line tree_line tab
tree_line_lem word c = rw (tree_listing_lem c)

-- of a fresh cell: the report of its table
pub fresh_printed : (c : State) → Fresh c → (pairs : List Pair) → report_of (accepted c) pairs ≡ printed_of c (pair_calls pairs)
unfolding report_of printed_of
fresh_printed c f pairs = ap₂ ◌++◌ first
    (report_lines (table_of c) pairs ∙ ap (λ (s : List ℕ). step_lines (pair_calls pairs) (answered c (pair_calls pairs)) ++ s) last)
  where
    first : listing_line (ascii "start") (cell_of (table_of c)) ≡ tree_line (ascii "start") (plain_of c).tree
    first = ap (listing_line (ascii "start")) (fresh_forth c f) ∙ (unfold plain_of in tree_line_lem (ascii "start") c)

    last : listing_line (ascii "end") (cell_of (reached c (pair_calls pairs))) ≡ tree_line (ascii "end") (plain_after c (pair_calls pairs)).tree
    last = tree_line_lem (ascii "end") (cell_of (reached c (pair_calls pairs)))
        ∙ ap (tree_line (ascii "end")) (sym (reached_tree c f (pair_calls pairs)))

-- of an accepted file
pub printed : (file order : List ℕ) (c : State) → load file ≡ accepted c → report file order ≡ printed_of c (pair_calls (calls_in 16384 order))
unfolding report
printed file order c e = ap (λ (l : Load). report_of l (calls_in 16384 order)) e ∙ fresh_printed c (accepted_fresh file c e) (calls_in 16384 order)

-- of a refused file: "one line only, `refused`, number, offset"
pub printed_refused : (file order : List ℕ) (number offset : ℕ) → load file ≡ refused number offset
    → report file order ≡ refused_line number offset
unfolding report report_of
printed_refused file order number offset e = ap (λ (l : Load). report_of l (calls_in 16384 order)) e
