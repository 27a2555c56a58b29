-- The parts that are lent on are the bytes that were read; that the order's elements are bytes is what its type says.
use Rattle.std.proofs.Common.{sym, ap₂}
use Rattle.std.proofs.Math.Seq.{length-take-le}
use Rattle.meaning.specs.Report.{report}
use Rattle.text.proofs.TextLaws.{least_le, wrote_as}
use Rattle.buffers.proofs.HeldLaws.{taken}
use Rattle.buffers.proofs.write_first.Goals as goal

pub slice_bounds-write_report-end : goal.slice_bounds-write_report-end
slice_bounds-write_report-end c = sym (length-take-le _ _ (least_le _ _ _ c.least-i.ensures).1)

pub slice_bounds-write_report-end-2 : goal.slice_bounds-write_report-end-2
slice_bounds-write_report-end-2 c = sym (length-take-le _ _ (least_le _ _ _ c.least-j.ensures).1)

pub returns-clause-wrote : goal.returns-clause-wrote
returns-clause-wrote c = wrote_as (ap₂ report (taken _ _ _ c.least-i.ensures) (taken _ _ _ c.least-j.ensures)) c.write_report.ensures
