-- The line is its two pieces one after the other; the position that was handed over is added.
use Rattle.std.proofs.Common.{[], ◌∷◌, arith}
use Rattle.table.specs.Base.{tab}
use Rattle.meaning.specs.Text.{ascii, decimal}
use Rattle.meaning.specs.Report.{refused_line}
use Rattle.text.proofs.TextLaws.{least_le, next, placed_on, wrote_as, moved}
use Rattle.lines.proofs.LineLaws.{refused_grouped}
use Rattle.lines.proofs.write_refused.Goals as goal

pub slice_bounds-write_ended-count : goal.slice_bounds-write_ended-count
slice_bounds-write_ended-count c = (least_le _ _ _ c.offset-i.ensures).1

pub slice_bounds-write_ended-start : goal.slice_bounds-write_ended-start
slice_bounds-write_ended-start c = (least_le _ _ _ c.offset-i.ensures).1

pub write_ended-n-requires : goal.write_ended-n-requires
write_ended-n-requires c = placed_on (omega (arith, c.well_formed)) c.write_told-said.ensures c.offset-i.ensures

pub returns : goal.returns
unfolding refused_line tab
returns c =
    moved (wrote_as (refused_grouped (ascii "refused ") (decimal c.args.number) (32 ∷ []) (decimal c.args.place) (10 ∷ []))
    (next (omega (arith, c.well_formed)) c.write_told-said.ensures c.offset-i.ensures c.write_ended-n.ensures)) c.plus.ensures
