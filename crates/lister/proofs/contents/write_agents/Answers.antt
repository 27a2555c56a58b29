-- A turn writes a bar, where one is due, and the text of the agent that comes next; then the texts are put in order.
use Rattle.std.proofs.Common.{refl, arith, rules, ◌<◌}
use Rattle.sets.specs.Set.{member}
use Rattle.sets.proofs.WalkLaws.{rest_start}
use Rattle.meaning.specs.Text.{joined}
use Rattle.meaning.specs.Listing.{texts_of}
use Rattle.text.specs.Wrote.{Fits}
use Rattle.lister.specs.Listed.{agent_on}
use Rattle.lister.specs.Sheet.{bar}
use Rattle.lister.specs.Marked.{barred}
use Rattle.lister.proofs.PartLaws.{begun_before, between_in, between_fits, parted_after, part_in, part_fits, turned}
use Rattle.lister.proofs.TurnLaws.{walked_none, turn_low, turn_room, turn_slot, turn_after, mark_small, walked_more, walked_marked, walked_all}
use Rattle.lister.proofs.contents.write_agents.Goals as goal
use Rattle.lister.proofs.contents.write_agents.Goals.{In-Some}

-- the agent of a turn is below 64
low : (c : In-Some) → c.in-Some.x < 64
low c =
    let F = agent_on c.args.c.now in
    turn_low (member c.args.agents) F c.requires.0 c.requires.1 c.loop-x.invariant c.in-Some.ensures.steps

-- there is a mark left for it
slot : (c : In-Some) → c.loop-x.listed < 64
slot c =
    let F = agent_on c.args.c.now in
    turn_slot (member c.args.agents) F c.requires.0 c.requires.1 c.loop-x.invariant c.in-Some.ensures.steps

-- and room for its text
room : (c : In-Some) →
    let F = agent_on c.args.c.now in
    Fits (joined bar (barred (texts_of (member c.args.agents) F c.loop-x.invariant.upto)) (F c.in-Some.x)) c.args.from c.args.buf.now
room c =
    let F = agent_on c.args.c.now in
    turn_room (member c.args.agents) F c.requires.0 c.requires.1 c.loop-x.invariant c.in-Some.ensures.steps

pub loop-x-init : goal.loop-x-init
loop-x-init c =
    let F = agent_on c.args.c.now in
    walked_none (member c.args.agents) F c.requires.0 c.requires.1 (rw c.into_iter-x-iterator.ensures.into_iter_gives (rest_start _ (search rules)))

pub overflow_sub-at : goal.overflow_sub-at
overflow_sub-at c = begun_before bar _ c.loop-x.invariant.wrote (room c) refl

pub slice_bounds-write_bar-count : goal.slice_bounds-write_bar-count
slice_bounds-write_bar-count c = between_in bar _ c.loop-x.invariant.wrote (room c) refl

pub slice_bounds-write_bar-start : goal.slice_bounds-write_bar-start
slice_bounds-write_bar-start c = between_in bar _ c.loop-x.invariant.wrote (room c) refl

pub write_bar-mid-requires : goal.write_bar-mid-requires
write_bar-mid-requires c = between_fits bar _ c.loop-x.invariant.wrote (room (goal.at.write_bar-mid-requires c).In-Some) refl

pub overflow_sub-mid : goal.overflow_sub-mid
overflow_sub-mid c = parted_after bar _ c.loop-x.invariant.wrote (room (goal.at.overflow_sub-mid c).In-Some) refl c.write_bar-mid.ensures refl

pub slice_bounds-write_agent-count : goal.slice_bounds-write_agent-count
slice_bounds-write_agent-count c = part_in bar _ c.loop-x.invariant.wrote (room (goal.at.slice_bounds-write_agent-count c).In-Some) refl c.write_bar-mid.ensures refl

pub slice_bounds-write_agent-start : goal.slice_bounds-write_agent-start
slice_bounds-write_agent-start c = part_in bar _ c.loop-x.invariant.wrote (room (goal.at.slice_bounds-write_agent-start c).In-Some) refl c.write_bar-mid.ensures refl

pub write_agent-at-requires : goal.write_agent-at-requires
write_agent-at-requires c = part_fits bar _ c.loop-x.invariant.wrote (room (goal.at.write_agent-at-requires c).In-Some) refl c.write_bar-mid.ensures refl

pub overflow_sub-marks : goal.overflow_sub-marks
overflow_sub-marks c =
    let F = agent_on c.args.c.now in
    let w = c.loop-x.invariant in
    turn_after (member c.args.agents) F c.requires.0 c.requires.1 w c.in-Some.ensures.steps
    (turned bar _ w.wrote (room (goal.at.overflow_sub-marks c).In-Some) refl c.write_bar-mid.ensures refl c.write_agent-at.ensures)

pub overflow_cast-marks : goal.overflow_cast-marks
overflow_cast-marks c =
    let F = agent_on c.args.c.now in
    let w = c.loop-x.invariant in
    omega (
      arith,
      mark_small (member c.args.agents) F c.requires.0 c.requires.1 w c.in-Some.ensures.steps
          (turned bar _ w.wrote (room (goal.at.overflow_cast-marks c).In-Some) refl c.write_bar-mid.ensures refl c.write_agent-at.ensures),
    )

pub bounds-c-x : goal.bounds-c-x
bounds-c-x c = low (goal.at.bounds-c-x c).In-Some

pub offset_bounds-marks-listed : goal.offset_bounds-marks-listed
offset_bounds-marks-listed c =
    let l = slot (goal.at.offset_bounds-marks-listed c).In-Some in
    omega arith

pub bounds-marks-listed : goal.bounds-marks-listed
bounds-marks-listed c = slot (goal.at.bounds-marks-listed c).In-Some

pub overflow_add-listed : goal.overflow_add-listed
overflow_add-listed c =
    let l = slot (goal.at.overflow_add-listed c).In-Some in
    omega arith

pub loop-x-preserved : goal.loop-x-preserved
loop-x-preserved c =
    let F = agent_on c.args.c.now in
    let w = c.loop-x.invariant in
    walked_more (member c.args.agents) F c.requires.0 c.requires.1 w c.in-Some.ensures.steps
    (turned bar _ w.wrote (room (goal.at.loop-x-preserved c).In-Some) refl c.write_bar-mid.ensures refl c.write_agent-at.ensures)

pub arrange-requires : goal.arrange-requires
arrange-requires c =
    let F = agent_on c.args.c.now in
    let w = c.loop-x.invariant in
    (texts_of (member c.args.agents) F 64, walked_marked (member c.args.agents) F c.requires.0 c.requires.1 w c.in-None.ensures.steps.0)

pub returns : goal.returns
returns c =
    let F = agent_on c.args.c.now in
    let w = c.loop-x.invariant in
    walked_all (member c.args.agents) F c.requires.0 c.requires.1 w c.in-None.ensures.steps.0 c.arrange.ensures
