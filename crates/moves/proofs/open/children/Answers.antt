-- A turn gathers one place; once none is left all are found.
use Rattle.std.proofs.Common.{refl, rules, sym, subst}
use Rattle.sets.specs.Set.{member, empty_set}
use Rattle.sets.proofs.WalkLaws.{turn_below}
use Rattle.updates.proofs.GatherLaws.{Gathered, gathered_start, gathered_end}
use Rattle.moves.proofs.StoreLaws.{turn_gathers}
use Rattle.moves.proofs.open.children.Goals as goal

pub loop-q-init : goal.loop-q-init
loop-q-init c =
    subst (Gathered (member c.args.used) _ empty_set) (sym c.into_iter-q-iterator.ensures.into_iter_gives) (gathered_start c.args.used _ (search rules))

pub bounds-ps-q : goal.bounds-ps-q
bounds-ps-q c = turn_below c.loop-q.invariant.left c.in-Some.ensures.steps

pub loop-q-preserved : goal.loop-q-preserved
loop-q-preserved c = rw c.insert_if-found.ensures (turn_gathers c.loop-q.invariant c.in-Some.ensures.steps _ refl)

pub returns : goal.returns
returns c = gathered_end c.loop-q.invariant c.in-None.ensures.steps.0
