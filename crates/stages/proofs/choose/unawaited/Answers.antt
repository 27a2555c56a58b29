-- Each turn takes the lowest place that is left; what holds before it is `Unmet`.
use Rattle.std.proofs.Common.{rules, sym, subst}
use Rattle.sets.proofs.WalkLaws.{turn_below, rest_start}
use Rattle.sets.specs.declared.Set.{Set}
use Rattle.stages.specs.Changes.{rowless}
use Rattle.stages.proofs.ChildLaws.{Unmet, unmet_start, unmet_end, unmet_turn}
use Rattle.stages.proofs.choose.unawaited.Goals as goal

pub loop-q-init : goal.loop-q-init
loop-q-init c =
    let a = c.args in
    let e = c.into_iter-q-iterator.ensures.into_iter_gives in
    subst (Unmet (rowless a.ps a.used) a.among a.among) (sym e) (unmet_start (rowless a.ps a.used) a.among a.used (search rules) (rest_start a.used (search rules)))

pub bounds-ps-q : goal.bounds-ps-q
bounds-ps-q c = turn_below c.loop-q.invariant.left c.in-Some.ensures.steps

pub loop-q-preserved : goal.loop-q-preserved
loop-q-preserved c =
    let a = c.args in
    subst (λ (s : Set). Unmet (rowless a.ps a.used) a.among s c.next.new.self) (sym c.remove-left.ensures)
    (unmet_turn (rowless a.ps a.used) a.among c.loop-q.invariant c.in-Some.ensures.steps c.way_out.result c.way_out.ensures)

pub returns : goal.returns
returns c = unmet_end (rowless c.args.ps c.args.used) c.args.among c.loop-q.invariant c.in-None.ensures.steps.0
