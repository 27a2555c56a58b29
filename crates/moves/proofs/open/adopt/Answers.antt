-- A turn stores one place; once none is left all are stored.
use Rattle.std.proofs.Common.{rules, sym, ap, subst, ◌∙◌}
use Rattle.sets.proofs.WalkLaws.{turn_below}
use Rattle.table.proofs.BaseLaws.{tab_get_d}
use Rattle.table.specs.Cell.{no_place}
use Rattle.meaning.specs.Step.{dissolve_place}
use Rattle.moves.proofs.StoreLaws.{Storing, storing_start, storing_end, turn_at, turn_stores}
use Rattle.moves.proofs.open.adopt.Goals as goal

pub loop-q-init : goal.loop-q-init
loop-q-init c =
    subst (Storing no_place c.args.used _ _ c.args.ps) (sym c.into_iter-q-iterator.ensures.into_iter_gives)
    (storing_start no_place c.args.used _ _ (search rules) _ (sym (tab_get_d no_place _ 64 (search rules))))

pub bounds-qs-k : goal.bounds-qs-k
bounds-qs-k c = turn_below c.loop-q.invariant.left c.in-Some.ensures.steps

pub bounds-qs-k-in-loop-q : goal.bounds-qs-k-in-loop-q
bounds-qs-k-in-loop-q c = turn_below c.loop-q.invariant.left c.in-Some.ensures.steps

pub loop-q-preserved : goal.loop-q-preserved
loop-q-preserved c =
    let step = c.in-Some.ensures.steps in
    turn_stores no_place _ _ _ c.loop-q.invariant step c.adopt_one.result
    (c.adopt_one.ensures ∙ ap (dissolve_place c.args.p c.args.t c.in-Some.q) (turn_at no_place _ _ _ c.loop-q.invariant step))

pub returns : goal.returns
returns c = storing_end no_place _ _ _ c.loop-q.invariant c.in-None.ensures.steps.0
