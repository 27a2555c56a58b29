-- Before each turn the text so far, with the report of the calls that are left, is the whole report.
use Rattle.std.proofs.Common.{ℕ, List, ◌++◌}
use Rattle.meaning.specs.Report.{report_run}
use Rattle.text.specs.Wrote.{Wrote, Placed}
use Rattle.report.proofs.RunLaws.{calls_from, Left}
use Rattle.report.proofs.write_run.Given as goal

abbrev pub invariant-loop-i : goal.invariant-loop-i
invariant-loop-i l = (s b : List ℕ) → Placed 0 b → Wrote s 0 b l.initial.buf l.initial.at
    → Left (s ++ report_run l.initial.d (calls_from l.order 0)) l.order b l.buf l.d l.i l.at
