-- The report from an accepted cell on.
use Rattle.std.specs.Prelude.{List, ◌++◌, ℕ}
use Rattle.table.specs.Base.{tab}
use Rattle.table.specs.Cell.{cell_of}
use Rattle.table.specs.declared.Cell.{Cell}
use Rattle.meaning.specs.Text.{ascii}
use Rattle.meaning.specs.Report.{listing_line, calls_in, report_run}

-- the first line, a line for each call of the order, and the last line
unfoldable pub report_from : Cell → List ℕ → List ℕ
unfolding tab
report_from t order = listing_line (ascii "start") (cell_of t) ++ report_run t (calls_in 16384 order)
