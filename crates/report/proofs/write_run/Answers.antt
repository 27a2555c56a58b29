-- Before each turn the text so far, with the report of the calls that are left, is the whole report.
use Rattle.std.proofs.Common.{refl, arith}
use Rattle.table.specs.Base.{tab}
use Rattle.meaning.specs.Report.{listing_line}
use Rattle.text.specs.Wrote.{Placed}
use Rattle.text.proofs.TextLaws.{least_le, next, placed_on}
use Rattle.report.specs.Run.{report_from}
use Rattle.report.proofs.RunLaws.{pairs_more, pairs_none, left_more, left_none}
use Rattle.report.proofs.write_run.Goals as goal

pub loop-i-init : goal.loop-i-init
loop-i-init c = λ s b p w. record { text = s; wrote = w; rest = refl }

pub overflow_mul-agent : goal.overflow_mul-agent
overflow_mul-agent c = let h = pairs_more _ _ _ c.pairs-i-end.ensures c.loop-i-test.true in omega (arith, h.0)

pub bounds-order-i : goal.bounds-order-i
bounds-order-i c = let h = pairs_more _ _ _ c.pairs-i-end.ensures c.loop-i-test.true in omega (arith, h.1)

pub overflow_mul-i : goal.overflow_mul-i
overflow_mul-i c = let h = pairs_more _ _ _ c.pairs-i-end.ensures c.loop-i-test.true in omega (arith, h.0)

pub overflow_add-i : goal.overflow_add-i
overflow_add-i c = let h = pairs_more _ _ _ c.pairs-i-end.ensures c.loop-i-test.true in omega (arith, h.0)

pub bounds-order-i-in-loop-i : goal.bounds-order-i-in-loop-i
bounds-order-i-in-loop-i c = (pairs_more _ _ _ c.pairs-i-end.ensures c.loop-i-test.true).1

pub slice_bounds-write_step-count : goal.slice_bounds-write_step-count
slice_bounds-write_step-count c = (least_le _ _ _ c.offset-k.ensures).1

pub slice_bounds-write_step-start : goal.slice_bounds-write_step-start
slice_bounds-write_step-start c = (least_le _ _ _ c.offset-k.ensures).1

pub loop-i-preserved : goal.loop-i-preserved
loop-i-preserved c =
    let h = pairs_more _ _ _ c.pairs-i-end.ensures c.loop-i-test.true in
    λ s b p w. let l = c.loop-i.invariant s b p w in left_more l h.0 h.1 _ c.step-s.ensures (next p l.wrote c.offset-k.ensures c.write_step-at.ensures)

pub slice_bounds-write_listing_line-count : goal.slice_bounds-write_listing_line-count
slice_bounds-write_listing_line-count c = (least_le _ _ _ c.offset-k-2.ensures).1

pub slice_bounds-write_listing_line-start : goal.slice_bounds-write_listing_line-start
slice_bounds-write_listing_line-start c = (least_le _ _ _ c.offset-k-2.ensures).1

pub write_listing_line-requires : goal.write_listing_line-requires
write_listing_line-requires c =
    let p : Placed 0 c.args.buf.now = omega (arith, c.well_formed) in
    placed_on p (c.loop-i.invariant _ _ p c.write_listing_line-at.ensures).wrote c.offset-k-2.ensures

pub returns : goal.returns
unfolding report_from listing_line tab
returns c =
    let p : Placed 0 c.args.buf.now = omega (arith, c.well_formed) in
    let left = c.loop-i.invariant _ _ p c.write_listing_line-at.ensures in
    left_none left (pairs_none _ _ _ c.pairs-i-end.ensures c.loop-i-test.false) (next p left.wrote c.offset-k-2.ensures c.write_listing_line.ensures)
