-- The parts that are lent on are the bytes that were read, and the finding on them can be told: a slice is not longer than a number of 64 bits.
use Rattle.std.proofs.Common.{sym, ◌∙◌, subst, arith}
use Rattle.std.proofs.Math.Path.{ap}
use Rattle.std.proofs.Math.Seq.{length-take-le}
use Rattle.text.proofs.TextLaws.{least_le, wrote_as}
use Rattle.trail.specs.AuditLine.{audit_line}
use Rattle.auditing.specs.Counted.{Counted}
use Rattle.auditing.proofs.CountedLaws.{counted, found_taken}
use Rattle.auditing.proofs.write_first.Goals as goal

pub slice_bounds-check_trail-end : goal.slice_bounds-check_trail-end
slice_bounds-check_trail-end c = sym (length-take-le _ _ (least_le _ _ _ c.least-i.ensures).1)

pub slice_bounds-check_trail-end-2 : goal.slice_bounds-check_trail-end-2
slice_bounds-check_trail-end-2 c = sym (length-take-le _ _ (least_le _ _ _ c.least-j.ensures).1)

pub slice_bounds-check_trail-end-3 : goal.slice_bounds-check_trail-end-3
slice_bounds-check_trail-end-3 c = sym (length-take-le _ _ (least_le _ _ _ c.least-h.ensures).1)

pub write_finding-requires : goal.write_finding-requires
write_finding-requires c =
    let within = (least_le _ _ _ c.least-j.ensures).1 in
    subst Counted (sym c.check_trail-f.ensures) (counted _ _ _ (omega (arith, c.well_formed, within, length-take-le c.least-j.result c.args.trail.now within)))

pub returns : goal.returns
returns c =
    let a = c.args in
    wrote_as (ap audit_line (c.check_trail-f.ensures
    ∙ found_taken a.cell.now a.trail.now a.last.now a.n a.m a.k c.least-i.ensures c.least-j.ensures c.least-h.ensures))
    c.write_finding.ensures
