-- The line of the refusal, and the text with its caret after it.
use Rattle.std.proofs.Common.{arith}
use Rattle.text.proofs.TextLaws.{least_le, next, placed_on}
use Rattle.report.proofs.typed.write_refused_text.Goals as goal

pub slice_bounds-write_pointed-count : goal.slice_bounds-write_pointed-count
slice_bounds-write_pointed-count c = (least_le _ _ _ c.offset-i.ensures).1

pub slice_bounds-write_pointed-start : goal.slice_bounds-write_pointed-start
slice_bounds-write_pointed-start c = (least_le _ _ _ c.offset-i.ensures).1

pub write_pointed-requires : goal.write_pointed-requires
write_pointed-requires c = placed_on (omega (arith, c.well_formed)) c.write_refused-said.ensures c.offset-i.ensures

pub returns : goal.returns
returns c = next (omega (arith, c.well_formed)) c.write_refused-said.ensures c.offset-i.ensures c.write_pointed.ensures
