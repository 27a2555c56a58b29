-- A turn writes a full stop, where one is due, and the action that comes next.
use Rattle.std.proofs.Common.{[], inl, refl, arith}
use Rattle.std.proofs.Math.Logic.{inr}
use Rattle.meaning.specs.Text.{joined}
use Rattle.meaning.specs.Listing.{is_unused, agent_text}
use Rattle.text.specs.Wrote.{Fits}
use Rattle.text.proofs.TextLaws.{begun, wrote_as, join_more, least_le}
use Rattle.lister.specs.Sheet.{dot}
use Rattle.lister.proofs.PartLaws.{turn_fits, begun_before, between_in, between_fits, parted_after, part_in, part_fits, turned}
use Rattle.lister.proofs.RowLaws.{text_at, text_to, one_unused, text_start, text_end}
use Rattle.lister.proofs.agents.write_agent.Goals as goal
use Rattle.lister.proofs.agents.write_agent.Goals.{In-loop-k}

-- a turn's action has room
room : (c : In-loop-k) → Fits (joined dot (text_to c.args.a.now c.loop-k.k) (text_at c.args.a.now c.loop-k.k)) c.args.from c.args.buf.now
unfolding agent_text
room c =
    let a = c.args.a.now in
    let e = least_le _ _ _ c.least-end.ensures in
    turn_fits dot (is_unused a) (text_at a) [] _ 16
    (one_unused a _ (omega (arith, c.loop-k.invariant.0)) (omega (arith, e.0))) (omega (arith, e.1)) c.requires

pub loop-k-init : goal.loop-k-init
loop-k-init c = (omega arith, (inr refl, wrote_as (text_start c.args.a.now _ refl) (begun c.requires.placed)))

pub overflow_sub-at : goal.overflow_sub-at
overflow_sub-at c = begun_before dot _ c.loop-k.invariant.1.1 (room c) refl

pub slice_bounds-write_dot-count : goal.slice_bounds-write_dot-count
slice_bounds-write_dot-count c = between_in dot _ c.loop-k.invariant.1.1 (room c) refl

pub slice_bounds-write_dot-start : goal.slice_bounds-write_dot-start
slice_bounds-write_dot-start c = between_in dot _ c.loop-k.invariant.1.1 (room c) refl

pub write_dot-mid-requires : goal.write_dot-mid-requires
write_dot-mid-requires c = between_fits dot _ c.loop-k.invariant.1.1 (room (goal.at.write_dot-mid-requires c).In-loop-k) refl

pub offset_bounds-a-k : goal.offset_bounds-a-k
offset_bounds-a-k c = let e = least_le _ _ _ c.least-end.ensures in omega (arith, e.1)

pub bounds-a-k : goal.bounds-a-k
bounds-a-k c = let e = least_le _ _ _ c.least-end.ensures in omega (arith, e.1)

pub overflow_sub-mid : goal.overflow_sub-mid
overflow_sub-mid c = parted_after dot _ c.loop-k.invariant.1.1 (room (goal.at.overflow_sub-mid c).In-loop-k) refl c.write_dot-mid.ensures refl

pub slice_bounds-write_action-count : goal.slice_bounds-write_action-count
slice_bounds-write_action-count c = part_in dot _ c.loop-k.invariant.1.1 (room (goal.at.slice_bounds-write_action-count c).In-loop-k) refl c.write_dot-mid.ensures refl

pub slice_bounds-write_action-start : goal.slice_bounds-write_action-start
slice_bounds-write_action-start c = part_in dot _ c.loop-k.invariant.1.1 (room (goal.at.slice_bounds-write_action-start c).In-loop-k) refl c.write_dot-mid.ensures refl

pub write_action-at-requires : goal.write_action-at-requires
write_action-at-requires c = part_fits dot _ c.loop-k.invariant.1.1 (room (goal.at.write_action-at-requires c).In-loop-k) refl c.write_dot-mid.ensures refl

pub loop-k-preserved : goal.loop-k-preserved
loop-k-preserved c =
    let v = c.loop-k.invariant in
    let a = c.args.a.now in
    let e = least_le _ _ _ c.least-end.ensures in (
      omega (arith, v.0),
      (
        inl (omega arith),
        wrote_as (join_more dot (is_unused a) (text_at a) [] _ (one_unused a _ (omega (arith, v.0)) (omega (arith, e.0))))
            (turned dot _ v.1.1 (room (goal.at.loop-k-preserved c).In-loop-k) refl c.write_dot-mid.ensures refl c.write_action-at.ensures),
      ),
    )

pub returns : goal.returns
returns c = wrote_as (text_end c.args.a.now _ refl refl c.least-end.ensures c.loop-k-test.false c.loop-k.invariant.1.0) c.loop-k.invariant.1.1
