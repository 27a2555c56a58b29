-- How long a report can be: 316,502 bytes at most, so walk's buffer holds every report whole. Assumes nothing.
use Rattle.std.specs.Prelude.{◌≡◌, List, [], ◌∷◌, ◌++◌, length, get_or, take}
use Rattle.std.proofs.Common.{ap₂, ◌∙◌, arith, length-append}
use Prim.Native.Nat.{ℕ, zero, suc, ◌+◌, ◌*◌, ◌≤◌, ◌<◌}
use Rattle.table.specs.Base.{tab}
use Rattle.table.specs.Cell.{State, cell_of, table_of}
use Rattle.table.specs.declared.Cell.{Cell}
use Rattle.meaning.specs.Text.{ascii, decimal}
use Rattle.meaning.specs.Run.{step_of}
use Rattle.meaning.specs.File.{Load, accepted, refused, load}
use Rattle.meaning.specs.Listing.{listing}
use Rattle.meaning.specs.Report.{step_line, refused_line, listing_line, calls_in, report_run, report_of, report}
use Rattle.text.specs.Wrote.{Wrote}
use Rattle.text.proofs.TextLaws.{capped_low, over_start}
use Rattle.lengths.specs.Longest.{longest_any, longest_report}
use Rattle.lengths.proofs.Parts.{digits_most}
use Rattle.lengths.proofs.ListingLength.{listing_any}
use Rattle.lengths.proofs.LineLength.{step_number_lem, line_length}

-- ---- lines

pub refused_length : (number offset : ℕ) → length (refused_line number offset) ≤ 50
unfolding refused_line tab
refused_length number offset = omega (
  arith,
  digits_most 20 number,
  digits_most 20 offset,
  length-append (ascii "refused ") (decimal number),
  length-append (ascii "refused " ++ decimal number) (ascii " "),
  length-append ((ascii "refused " ++ decimal number) ++ ascii " ") (decimal offset),
  length-append (((ascii "refused " ++ decimal number) ++ ascii " ") ++ decimal offset) (ascii "\n"),
)

listing_line_length : (word : List ℕ) (c : State) → length (listing_line word c) ≤ length word + (longest_any + 2)
unfolding listing_line tab
listing_line_length word c = omega (
  arith,
  listing_any c,
  length-append word (ascii " "),
  length-append (word ++ ascii " ") (listing c),
  length-append ((word ++ ascii " ") ++ listing c) (ascii "\n"),
)

-- ---- the report

-- the lines of at most so many calls, then the last line
run_length : (limit : ℕ) (order : List ℕ) (t : Cell) → ((j : ℕ) → get_or order j 0 < 256) → length (report_run t (calls_in limit order)) ≤ 15 * limit + (longest_any + 5)
unfolding calls_in report_run tab
run_length zero order t bytes = listing_line_length (ascii "end") (cell_of t)
run_length (suc limit) [] t bytes = omega (arith, listing_line_length (ascii "end") (cell_of t))
run_length (suc limit) (agent ∷ []) t bytes = omega (arith, listing_line_length (ascii "end") (cell_of t))
run_length (suc limit) (agent ∷ wish ∷ order) t bytes = omega (
  arith,
  length-append (step_line agent (step_of t agent wish).answer) (report_run (step_of t agent wish).cell (calls_in limit order)),
  line_length agent (step_of t agent wish).answer (bytes 0) (step_number_lem t agent wish),
  run_length limit order (step_of t agent wish).cell (λ j. bytes (suc (suc j))),
)

-- the report of a load and an order of bytes, wherever the cell was loaded from
pub load_longest : (l : Load) (order : List ℕ) → ((j : ℕ) → get_or order j 0 < 256) → length (report_of l (calls_in 16384 order)) ≤ longest_report
unfolding report_of tab
load_longest (accepted c) order bytes = omega (
  arith,
  length-append (listing_line (ascii "start") (cell_of (table_of c))) (report_run (table_of c) (calls_in 16384 order)),
  listing_line_length (ascii "start") (cell_of (table_of c)),
  run_length 16384 order (table_of c) bytes,
)
load_longest (refused number offset) order bytes = omega (arith, refused_length number offset)

-- the report of an order of bytes, on every file
pub report_longest : (cell order : List ℕ) → ((j : ℕ) → get_or order j 0 < 256) → length (report cell order) ≤ longest_report
unfolding report
report_longest cell order bytes = load_longest (load cell) order bytes

-- ---- the whole of it is written

-- what walk's buffer holds, up to the answered length, is a text that is not longer than the longest report: nothing is cut off
pub text_whole : (text before after : List ℕ) (answer : ℕ) → length text ≤ longest_report → longest_report ≤ length before
    → Wrote text 0 before after answer → (answer ≡ length text) × (take answer after ≡ text)
text_whole text before after answer short l w = (count, ap₂ take count w.text ∙ over_start text before (omega arith))
  where
    count : answer ≡ length text
    count = w.count ∙ capped_low (0 + length text) (omega arith) ∙ omega arith

-- so it is with every report
pub report_whole : (cell order before after : List ℕ) (answer : ℕ) → ((j : ℕ) → get_or order j 0 < 256) → longest_report ≤ length before
    → Wrote (report cell order) 0 before after answer → (answer ≡ length (report cell order)) × (take answer after ≡ report cell order)
report_whole cell order before after answer bytes = text_whole (report cell order) before after answer (report_longest cell order bytes)
