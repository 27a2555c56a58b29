-- A turn stores one lock; once none is left all are stored.
use Rattle.std.proofs.Common.{ℕ, cond, rules, sym, ap, subst, ◌∙◌}
use Rattle.sets.specs.Set.{member}
use Rattle.sets.proofs.WalkLaws.{turn_below}
use Rattle.table.proofs.BaseLaws.{tab_get_d}
use Rattle.table.specs.Cell.{none}
use Rattle.moves.proofs.StoreLaws.{Storing, storing_start, storing_end, turn_at, turn_stores}
use Rattle.moves.proofs.open.free_held.Goals as goal

pub loop-q-init : goal.loop-q-init
loop-q-init c =
    subst (Storing 0 c.args.used _ _ c.args.ls) (sym c.into_iter-q-iterator.ensures.into_iter_gives)
    (storing_start 0 c.args.used _ _ (search rules) _ (sym (tab_get_d 0 _ 64 (search rules))))

pub bounds-ms-k : goal.bounds-ms-k
bounds-ms-k c = turn_below c.loop-q.invariant.left c.in-Some.ensures.steps

pub bounds-ms-k-in-loop-q : goal.bounds-ms-k-in-loop-q
bounds-ms-k-in-loop-q c = turn_below c.loop-q.invariant.left c.in-Some.ensures.steps

pub loop-q-preserved : goal.loop-q-preserved
loop-q-preserved c =
    let step = c.in-Some.ensures.steps in
    turn_stores 0 _ _ _ c.loop-q.invariant step c.free_one.result
    (c.free_one.ensures ∙ ap (λ (n : ℕ). cond (member c.args.s n) none n) (turn_at 0 _ _ _ c.loop-q.invariant step))

pub returns : goal.returns
returns c = storing_end 0 _ _ _ c.loop-q.invariant c.in-None.ensures.steps.0
