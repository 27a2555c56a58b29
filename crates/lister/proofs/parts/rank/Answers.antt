-- The row is searched by halves: each part that is asked for is an earlier one, and says on which side of it part i comes.
use Rattle.std.proofs.Common.{refl, ◌+◌, ◌-◌, ◌/◌, ◌<◌, arith}
use Rattle.lister.specs.Cuts.{part_at}
use Rattle.lister.proofs.RankLaws.{asked, row_low, rank_none, rank_last, rank_first, search_all, search_up, search_down, search_end}
use Rattle.lister.proofs.parts.rank.Goals as goal

pub returns-then-i-eq0 : goal.returns-then-i-eq0
returns-then-i-eq0 c = let n : c.args.i < 64 = omega (arith, c.requires.0.few) in rank_none c.requires.1 (omega arith) c.if-i-eq0.true

-- the last of the row is an earlier part
pub is_upto-requires : goal.is_upto-requires
is_upto-requires c =
    let n : c.args.i < 64 = omega (arith, c.requires.0.few) in
    let l = row_low c.requires.1 (c.args.i - 1) (omega (arith, c.if-i-eq0.false)) (omega arith) in
    (omega (arith, l), c.requires.0)

pub returns-then-is_upto : goal.returns-then-is_upto
returns-then-is_upto c =
    let n : c.args.i < 64 = omega (arith, c.requires.0.few) in
    rank_last c.requires.1 (omega arith) c.if-i-eq0.false
    (asked (part_at c.args.ends.now c.args.buf.now) c.args.i refl c.is_upto.ensures c.if-is_upto.true)

-- so is the first
pub is_upto-requires-2 : goal.is_upto-requires-2
is_upto-requires-2 c =
    let n : c.args.i < 64 = omega (arith, c.requires.0.few) in
    let l = row_low c.requires.1 0 (omega (arith, c.if-i-eq0.false)) (omega arith) in
    (omega (arith, l), c.requires.0)

pub returns-then-not-is_upto : goal.returns-then-not-is_upto
returns-then-not-is_upto c =
    let n : c.args.i < 64 = omega (arith, c.requires.0.few) in
    rank_first c.requires.1 (omega arith)
    (asked (part_at c.args.ends.now c.args.buf.now) c.args.i refl c.is_upto-2.ensures c.if-not-is_upto.true)

pub loop-low-init : goal.loop-low-init
loop-low-init c =
    let n : c.args.i < 64 = omega (arith, c.requires.0.few) in
    search_all c.requires.1 (omega arith) c.if-i-eq0.false
    (asked (part_at c.args.ends.now c.args.buf.now) c.args.i refl c.is_upto.ensures c.if-is_upto.false)

-- and so is the one in the middle
pub bounds-row-m : goal.bounds-row-m
bounds-row-m c =
    let n : c.args.i < 64 = omega (arith, c.requires.0.few) in
    omega (arith, c.loop-low.invariant.last, c.loop-low-test.true)

pub is_upto-requires-in-loop-low : goal.is_upto-requires-in-loop-low
is_upto-requires-in-loop-low c =
    let l = c.loop-low in
    let n : c.args.i < 64 = omega (arith, c.requires.0.few) in
    let h = row_low c.requires.1 (l.low + (l.high - l.low) / 2) (omega (arith, c.loop-low-test.true, l.invariant.last)) (omega arith) in
    (omega (arith, h), c.requires.0)

pub loop-low-preserved-then-is_upto-2 : goal.loop-low-preserved-then-is_upto-2
loop-low-preserved-then-is_upto-2 c =
    let l = c.loop-low in
    let n : c.args.i < 64 = omega (arith, c.requires.0.few) in
    search_up c.requires.1 (omega arith) l.invariant (l.low + (l.high - l.low) / 2) (omega (arith, c.loop-low-test.true))
    (asked (part_at c.args.ends.now c.args.buf.now) c.args.i refl c.is_upto-in-loop-low.ensures c.if-is_upto-2.true)

pub loop-low-preserved : goal.loop-low-preserved
loop-low-preserved c =
    let l = c.loop-low in
    let n : c.args.i < 64 = omega (arith, c.requires.0.few) in
    search_down c.requires.1 (omega arith) l.invariant (l.low + (l.high - l.low) / 2) (omega arith) (omega (arith, c.loop-low-test.true))
    (asked (part_at c.args.ends.now c.args.buf.now) c.args.i refl c.is_upto-in-loop-low.ensures c.if-is_upto-2.false)

pub returns : goal.returns
returns c =
    let n : c.args.i < 64 = omega (arith, c.requires.0.few) in
    search_end c.requires.1 (omega arith) c.loop-low.invariant c.loop-low-test.false
