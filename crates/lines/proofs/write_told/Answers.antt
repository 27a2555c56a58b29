-- The word, and the number after it with its byte.
use Rattle.text.proofs.TextLaws.{least_le, next, placed_on}
use Rattle.lines.proofs.write_told.Goals as goal

pub slice_bounds-write_ended-count : goal.slice_bounds-write_ended-count
slice_bounds-write_ended-count c = (least_le _ _ _ c.offset-i.ensures).1

pub slice_bounds-write_ended-start : goal.slice_bounds-write_ended-start
slice_bounds-write_ended-start c = (least_le _ _ _ c.offset-i.ensures).1

pub write_ended-requires : goal.write_ended-requires
write_ended-requires c = placed_on c.requires c.write_bytes-mid.ensures c.offset-i.ensures

pub returns : goal.returns
returns c = next c.requires c.write_bytes-mid.ensures c.offset-i.ensures c.write_ended.ensures
