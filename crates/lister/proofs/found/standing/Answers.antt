-- A place in use is filed under its parent.
use Rattle.std.proofs.Common.{refl, arith, rules, ◌∙◌}
use Rattle.sets.proofs.WalkLaws.{rest_start, turn_below}
use Rattle.lister.proofs.GroupLaws.{parent_key, sets_none, sets_turned, sets_all}
use Rattle.lister.proofs.found.standing.Goals as goal

pub loop-q-init : goal.loop-q-init
loop-q-init c = (0, (rw c.into_iter-q-iterator.ensures.into_iter_gives (rest_start _ (search rules)), sets_none _ _))

pub bounds-c-q : goal.bounds-c-q
bounds-c-q c = omega (arith, turn_below c.loop-q.invariant.1.0 c.in-Some.ensures.steps)

pub loop-q-preserved : goal.loop-q-preserved
loop-q-preserved c =
    let v = c.loop-q.invariant.1 in
    let h = c.in-Some.ensures.steps in
    sets_turned _ _ v.0 h _ _ _ (c.above.ensures ∙ parent_key _ _ _ refl (turn_below v.0 h)) c.file.ensures v.1

pub returns : goal.returns
returns c = sets_all _ _ c.loop-q.invariant.1.0 c.in-None.ensures.steps.0 _ c.loop-q.invariant.1.1
