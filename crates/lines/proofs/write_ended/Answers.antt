-- The number, and the byte after it.
use Rattle.text.proofs.TextLaws.{least_le, next}
use Rattle.lines.proofs.write_ended.Goals as goal

pub slice_bounds-write_byte-count : goal.slice_bounds-write_byte-count
slice_bounds-write_byte-count c = (least_le _ _ _ c.offset-i.ensures).1

pub slice_bounds-write_byte-start : goal.slice_bounds-write_byte-start
slice_bounds-write_byte-start c = (least_le _ _ _ c.offset-i.ensures).1

pub returns : goal.returns
returns c = next c.requires c.write_number-mid.ensures c.offset-i.ensures c.write_byte.ensures
