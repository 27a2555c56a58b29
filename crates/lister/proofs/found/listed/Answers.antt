-- An agent is filed under its home, where it has unused actions.
use Rattle.std.proofs.Common.{refl, arith, rules, ◌∙◌}
use Rattle.sets.proofs.WalkLaws.{rest_start, turn_below, turn_member}
use Rattle.lister.proofs.GroupLaws.{home_key, sets_none, sets_turned, sets_all}
use Rattle.lister.proofs.found.listed.Goals as goal

pub loop-x-init : goal.loop-x-init
loop-x-init c = (0, (rw c.into_iter-x-iterator.ensures.into_iter_gives (rest_start _ (search rules)), sets_none _ _))

pub bounds-c-x : goal.bounds-c-x
bounds-c-x c = omega (arith, turn_below c.loop-x.invariant.1.0 c.in-Some.ensures.steps)

pub loop-x-preserved : goal.loop-x-preserved
loop-x-preserved c =
    let v = c.loop-x.invariant.1 in
    let h = c.in-Some.ensures.steps in
    sets_turned _ _ v.0 h _ _ _ (c.home.ensures ∙ home_key _ _ _ _ refl (turn_below v.0 h) (turn_member v.0 h)) c.file.ensures v.1

pub returns : goal.returns
returns c = sets_all _ _ c.loop-x.invariant.1.0 c.in-None.ensures.steps.0 _ c.loop-x.invariant.1.1
