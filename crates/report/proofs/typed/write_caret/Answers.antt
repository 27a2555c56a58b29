-- The blanks, and the caret with the line's end.
use Rattle.table.specs.Base.{tab}
use Rattle.text.proofs.TextLaws.{least_le, next}
use Rattle.language.specs.TypedReport.{caret_line}
use Rattle.report.proofs.typed.write_caret.Goals as goal

pub slice_bounds-write_bytes-count : goal.slice_bounds-write_bytes-count
slice_bounds-write_bytes-count c = (least_le _ _ _ c.offset-i.ensures).1

pub slice_bounds-write_bytes-start : goal.slice_bounds-write_bytes-start
slice_bounds-write_bytes-start c = (least_le _ _ _ c.offset-i.ensures).1

pub returns : goal.returns
unfolding caret_line tab
returns c = next c.requires c.write_blanks-mid.ensures c.offset-i.ensures c.write_bytes.ensures
