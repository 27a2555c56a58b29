-- The window begins where the text does not end before it, and has so many bytes as are left, or 72.
use Rattle.std.proofs.Common.{ap, sym, map}
use Rattle.std.proofs.Math.Seq.{length-take-le}
use Rattle.text.proofs.TextLaws.{least_le, wrote_as}
use Rattle.language.specs.TypedReport.{shown}
use Rattle.report.proofs.TypedLaws.{window_is}
use Rattle.report.proofs.typed.write_window.Goals as goal

pub slice_bounds-rest-count : goal.slice_bounds-rest-count
slice_bounds-rest-count c = (least_le _ _ _ c.least-i.ensures).1

pub slice_bounds-rest-start : goal.slice_bounds-rest-start
slice_bounds-rest-start c = (least_le _ _ _ c.least-i.ensures).1

pub slice_bounds-write_shown-end : goal.slice_bounds-write_shown-end
slice_bounds-write_shown-end c = sym (length-take-le _ _ (least_le _ _ _ c.least-m.ensures).0)

pub returns : goal.returns
returns c =
    wrote_as (ap (map shown) (window_is c.args.line.now c.args.place _ _ _ c.shown_from-from.ensures c.least-i.ensures c.least-m.ensures))
    c.write_shown.ensures
