-- Each turn takes the lowest place that is left, and its touches from what is left of the bound.
use Rattle.std.proofs.Common.{sym, rules}
use Rattle.sets.proofs.WalkLaws.{rest_start, rest_lt}
use Rattle.soundness.proofs.LeftLaws.{taken_start, taken_end, taken_stop, taken_more, left_some, left_none}
use Rattle.soundness.proofs.touches.touches_left.Goals as goal

pub loop-q-init : goal.loop-q-init
loop-q-init c = rw c.into_iter-q-iterator.ensures.into_iter_gives (taken_start _ _ _ c.args.used (rest_start c.args.used (search rules)))

pub bounds-ts-q : goal.bounds-ts-q
bounds-ts-q c = let e = c.in-Some.ensures.steps in rw e.1.0 (rest_lt c.loop-q.invariant.walk e.0)

-- the place of a turn has more than is left
pub returns-then-n-left : goal.returns-then-n-left
returns-then-n-left c =
    let e = c.in-Some.ensures.steps in
    sym (left_none c.args.ts.now c.args.used (taken_stop _ _ _ c.loop-q.invariant e.0 (rw (sym e.1.0) c.if-n-left.true)))

pub loop-q-preserved : goal.loop-q-preserved
loop-q-preserved c =
    let e = c.in-Some.ensures.steps in
    rw (e.1.1, e.1.0) (taken_more _ _ _ c.loop-q.invariant e.0 (rw (sym e.1.0) c.if-n-left.false))

-- nobody is left
pub returns : goal.returns
returns c = sym (left_some c.args.ts.now c.args.used _ (taken_end _ _ _ c.loop-q.invariant c.in-None.ensures.steps.0))
