-- The line is its three pieces one after another.
use Rattle.std.proofs.Common.{ℕ, ◌++◌, arith}
use Rattle.std.proofs.Math.Path.{ap}
use Rattle.table.specs.Base.{tab}
use Rattle.meaning.specs.Text.{ascii, decimal}
use Rattle.text.proofs.TextLaws.{least_le, next, wrote_as}
use Rattle.trail.specs.AuditLine.{reason_text, audit_line}
use Rattle.auditing.proofs.write_denied.Goals as goal

pub slice_bounds-write_number-count : goal.slice_bounds-write_number-count
slice_bounds-write_number-count c = (least_le _ _ _ c.offset-i.ensures).1

pub slice_bounds-write_number-start : goal.slice_bounds-write_number-start
slice_bounds-write_number-start c = (least_le _ _ _ c.offset-i.ensures).1

pub slice_bounds-write_reason-count : goal.slice_bounds-write_reason-count
slice_bounds-write_reason-count c = (least_le _ _ _ c.offset-j.ensures).1

pub slice_bounds-write_reason-start : goal.slice_bounds-write_reason-start
slice_bounds-write_reason-start c = (least_le _ _ _ c.offset-j.ensures).1

pub returns : goal.returns
unfolding audit_line tab
returns c =
    let numbered = next (omega (arith, c.well_formed)) c.write_bytes-said.ensures c.offset-i.ensures c.write_number-numbered.ensures in
    wrote_as (ap (λ (k : ℕ). (ascii "no " ++ decimal k) ++ ((ascii " " ++ reason_text c.args.reason) ++ ascii "\n")) c.move_number-number.ensures)
    (next (omega (arith, c.well_formed)) numbered c.offset-j.ensures c.write_reason.ensures)
