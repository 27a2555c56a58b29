-- Each turn is a law of the walk: it stores an agent, or keeps it; once nobody is left the agents are those after the walk.
use Rattle.std.proofs.Common.{rules, sym, subst}
use Rattle.sets.specs.Set.{empty_set}
use Rattle.sets.proofs.WalkLaws.{turn_below}
use Rattle.moving.proofs.TurnLaws.{Walking, walking_start, walking_stores, walking_keeps, walking_cell, walking_end}
use Rattle.moving.proofs.walks.walk.Goals as goal

pub loop-i-init : goal.loop-i-init
loop-i-init c =
    let a = c.args in
    subst (Walking a.cell.now a.waking a.cell.now empty_set empty_set) (sym c.into_iter-i-iterator.ensures.into_iter_gives)
    (walking_start a.cell.now a.waking (search rules) (search rules))

pub bounds-cell-k : goal.bounds-cell-k
bounds-cell-k c = turn_below c.loop-i.invariant.row.left c.in-Some.ensures.steps

pub bounds-cell-k-in-Some-after : goal.bounds-cell-k-in-Some-after
bounds-cell-k-in-Some-after c = turn_below c.loop-i.invariant.row.left c.in-Some.ensures.steps

-- a turn that stores
pub loop-i-preserved-in-Some-after : goal.loop-i-preserved-in-Some-after
loop-i-preserved-in-Some-after c =
    rw (c.insert_if-sleepers.ensures, c.insert_if-holders.ensures)
    (walking_stores c.args.cell.now c.args.waking c.loop-i.invariant c.in-Some.ensures.steps _ _ c.wakes-woken.ensures c.frees.ensures _ c.in-Some-after.ensures)

-- a turn that does not
pub loop-i-preserved : goal.loop-i-preserved
loop-i-preserved c =
    rw (c.insert_if-sleepers.ensures, c.insert_if-holders.ensures)
    (walking_keeps c.args.cell.now c.args.waking c.loop-i.invariant c.in-Some.ensures.steps _ _ c.wakes-woken.ensures c.frees.ensures c.in_default.ensures)

pub returns : goal.returns
returns c =
    let a = c.args in (
      walking_cell a.cell.now a.waking c.loop-i.invariant c.in-None.ensures.steps.0,
      walking_end a.cell.now a.waking c.loop-i.invariant c.in-None.ensures.steps.0,
    )
