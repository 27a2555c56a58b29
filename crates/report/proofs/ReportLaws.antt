-- The report by what the load or the reading answered: a run from the cell, or a refusal. By cases on the load of the file or of the text.
use Rattle.std.specs.Prelude.{◌≡◌, Bool, true, false, ℕ, Ok, Err}
use Rattle.std.proofs.Math.Path.{refl, ap, ap₂}
use Rattle.std.proofs.Common.{sym, ◌∙◌}
use mathlib.Core.List.{List, ◌++◌}
use Rattle.table.specs.Base.{tab}
use Rattle.table.proofs.BaseLaws.{clash}
use Rattle.table.specs.Cell.{State}
use Rattle.table.specs.declared.Cell.{Cell}
use Rattle.meaning.specs.Answers.{Verdict, Accepted, Rejected}
use Rattle.meaning.specs.declared.Loaded.{Loaded}
use Rattle.meaning.specs.File.{Load, accepted, refused, load, loaded, load_of}
use Rattle.meaning.specs.Report.{refused_line, calls_in, report_of, report}
use Rattle.language.specs.Read.{read_text, read_of}
use Rattle.language.specs.TypedReport.{line_of, pointed, typed_of, typed_report}
use Rattle.report.specs.Run.{report_from}

is_accepted : Verdict → Bool
is_accepted (Ok u) = true
is_accepted (Err r) = false

number_of : Verdict → ℕ
number_of (Ok u) = 0
number_of (Err r) = r.number

offset_of : Verdict → ℕ
offset_of (Ok u) = 0
offset_of (Err r) = r.offset

-- what an accepted load gives: a cell, from which the report is the run of what was answered
pub record Given (l : Load) (z : Loaded) (order : List ℕ) : Type 0 where
  pub cell : State
  pub same : l ≡ accepted cell
  pub run : report_from z.cell order ≡ report_of (accepted cell) (calls_in 16384 order)

module _ (t : Cell) (z : Loaded) where
  -- an answer that accepts is that of a load that is accepted
  pub given_accepted : (l : Load) (order : List ℕ) → z ≡ loaded t l → z.verdict ≡ Accepted → Given l z order
  given_accepted (accepted c) order q v = record {
    cell = c;
    same = refl;
    run = unfold loaded report_of report_from tab in ap (λ (y : Loaded). report_from y.cell order) q;
  }
  given_accepted (refused n o) order q v = unfold loaded is_accepted in clash (sym (ap (λ (y : Loaded). is_accepted y.verdict) q) ∙ ap is_accepted v) refl

  -- one that refuses is that of a load that is refused so
  pub given_refused : (l : Load) (n o : ℕ) → z ≡ loaded t l → z.verdict ≡ Rejected n o → l ≡ refused n o
  given_refused (accepted c) n o q v = unfold loaded is_accepted in clash refl (sym (ap (λ (y : Loaded). is_accepted y.verdict) q) ∙ ap is_accepted v)
  given_refused (refused m p) n o q v = unfold loaded number_of offset_of in
      ap₂ refused (sym (ap (λ (y : Loaded). number_of y.verdict) q) ∙ ap number_of v) (sym (ap (λ (y : Loaded). offset_of y.verdict) q) ∙ ap offset_of v)

module _ (t : Cell) (z : Loaded) (file order : List ℕ) (e : z ≡ load_of t file) where
  -- an accepted file: the run from the cell loaded
  pub report_accepted : z.verdict ≡ Accepted → report_from z.cell order ≡ report file order
  unfolding load_of report
  report_accepted v = let g = given_accepted t z (load file) order e v in g.run ∙ ap (λ (l : Load). report_of l (calls_in 16384 order)) (sym g.same)

  -- a refused file: its one line
  pub report_refused : (n o : ℕ) → z.verdict ≡ Rejected n o → refused_line n o ≡ report file order
  unfolding load_of report report_of
  report_refused n o v = ap (λ (l : Load). report_of l (calls_in 16384 order)) (sym (given_refused t z (load file) n o e v))

-- the line that a file with a typed layout holds, and what the reading of it answered
module _ (t : Cell) (z : Loaded) (file line order : List ℕ) (a : line ≡ line_of file) (e : z ≡ read_of t line) where
  -- an accepted text: the run from the cell that it gives
  pub typed_accepted : z.verdict ≡ Accepted → report_from z.cell order ≡ typed_report file order
  unfolding read_of typed_report typed_of
  typed_accepted v =
      let g = given_accepted t z (read_text line) order e v in
      g.run ∙ ap (λ (l : Load). typed_of line l (calls_in 16384 order)) (sym g.same) ∙ ap (λ (s : List ℕ). typed_of s (read_text s) (calls_in 16384 order)) a

  -- a refused text: the line of the refusal, the text and the caret
  pub typed_refused : (n o : ℕ) → z.verdict ≡ Rejected n o → refused_line n o ++ pointed line o ≡ typed_report file order
  unfolding read_of typed_report typed_of
  typed_refused n o v =
      ap (λ (l : Load). typed_of line l (calls_in 16384 order)) (sym (given_refused t z (read_text line) n o e v))
      ∙ ap (λ (s : List ℕ). typed_of s (read_text s) (calls_in 16384 order)) a
