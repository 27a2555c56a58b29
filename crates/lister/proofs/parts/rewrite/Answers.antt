-- A turn writes a bar, where one is due, and the part of the copy that the row has next.
use Rattle.std.proofs.Common.{◌≡◌, [], refl, get_or, ℕ, ◌≤◌, ◌<◌, length, ap, ◌∙◌, arith}
use Rattle.meaning.specs.Text.{joined, joined_all, overlay}
use Rattle.text.specs.Wrote.{Fits}
use Rattle.lister.specs.Sheet.{bar}
use Rattle.lister.specs.Cuts.{cut, part_at, in_row}
use Rattle.lister.proofs.PartLaws.{between_in, between_fits, part_in, turned}
use Rattle.lister.proofs.RewriteLaws.{turn_low, turn_after, turn_within, turn_fits, turn_done, turns_start}
use Rattle.lister.proofs.parts.rewrite.Goals as goal
use Rattle.lister.proofs.parts.rewrite.Goals.{In-loop-i, After-start-s}

-- a turn's part is below 64
low : (c : In-loop-i) → (get_or c.args.row.now c.loop-i.i 0) < 64
low c = omega (arith, turn_low c.requires c.loop-i-test.true, c.requires.inside.few)

-- it has room
room : (c : After-start-s)
    → Fits (joined bar (joined_all bar [] (in_row (part_at c.args.ends.now c.args.spare.now) c.loop-i.i c.args.row.now)) (cut c.args.spare.now c.start-s.result (get_or c.args.ends.now (get_or c.args.row.now c.loop-i.i 0) 0))) 0 c.args.buf.now
room c = turn_fits c.requires c.loop-i-test.true refl c.start-s.ensures refl

-- where it lies
whole : (c : After-start-s) → (c.start-s.result ≤ (get_or c.args.ends.now (get_or c.args.row.now c.loop-i.i 0) 0)) × ((get_or c.args.ends.now (get_or c.args.row.now c.loop-i.i 0) 0) ≤ length c.args.spare.now)
whole c = (
  turn_after c.requires c.loop-i-test.true refl c.start-s.ensures refl,
  turn_within c.requires c.loop-i-test.true refl c.start-s.ensures refl,
)

pub loop-i-init : goal.loop-i-init
loop-i-init c = turns_start c.requires

pub start-s-requires : goal.start-s-requires
start-s-requires c = low (goal.at.start-s-requires c).In-loop-i

pub bounds-ends-k : goal.bounds-ends-k
bounds-ends-k c = low (goal.at.bounds-ends-k c).In-loop-i

pub slice_bounds-write_bar-count : goal.slice_bounds-write_bar-count
slice_bounds-write_bar-count c = between_in bar _ c.loop-i.invariant (room (goal.at.slice_bounds-write_bar-count c).After-start-s) (omega arith)

pub slice_bounds-write_bar-start : goal.slice_bounds-write_bar-start
slice_bounds-write_bar-start c = between_in bar _ c.loop-i.invariant (room (goal.at.slice_bounds-write_bar-start c).After-start-s) (omega arith)

pub write_bar-mid-requires : goal.write_bar-mid-requires
write_bar-mid-requires c = between_fits bar _ c.loop-i.invariant (room (goal.at.write_bar-mid-requires c).After-start-s) (omega arith)

pub slice_bounds-write_bytes-count : goal.slice_bounds-write_bytes-count
slice_bounds-write_bytes-count c = (whole (goal.at.slice_bounds-write_bytes-count c).After-start-s).0

pub slice_bounds-write_bytes-start : goal.slice_bounds-write_bytes-start
slice_bounds-write_bytes-start c = (whole (goal.at.slice_bounds-write_bytes-start c).After-start-s).0

pub slice_bounds-write_bytes-end : goal.slice_bounds-write_bytes-end
slice_bounds-write_bytes-end c = (whole (goal.at.slice_bounds-write_bytes-end c).After-start-s).1

pub slice_bounds-write_bytes-count-in-loop-i : goal.slice_bounds-write_bytes-count-in-loop-i
slice_bounds-write_bytes-count-in-loop-i c =
    part_in bar _ c.loop-i.invariant (room (goal.at.slice_bounds-write_bytes-count-in-loop-i c).After-start-s) (omega arith) c.write_bar-mid.ensures (omega arith)

pub slice_bounds-write_bytes-start-in-loop-i : goal.slice_bounds-write_bytes-start-in-loop-i
slice_bounds-write_bytes-start-in-loop-i c =
    part_in bar _ c.loop-i.invariant (room (goal.at.slice_bounds-write_bytes-start-in-loop-i c).After-start-s) (omega arith) c.write_bar-mid.ensures (omega arith)

pub loop-i-preserved : goal.loop-i-preserved
loop-i-preserved c =
    turn_done c.requires c.loop-i-test.true refl c.start-s.ensures refl
    (turned bar _ c.loop-i.invariant (room (goal.at.loop-i-preserved c).After-start-s) (omega arith) c.write_bar-mid.ensures (omega arith) c.write_bytes-at.ensures)

pub returns : goal.returns
returns c =
    let l = c.loop-i in
    let e : l.i ≡ c.args.many = omega arith in
    l.invariant.text ∙ ap (λ (n : ℕ). overlay (joined_all bar [] (in_row (part_at c.args.ends.now c.args.spare.now) n c.args.row.now)) c.args.buf.now) e
