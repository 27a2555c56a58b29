-- Each turn takes the lowest place that is left; what holds before it is `Gathered`.
use Rattle.std.proofs.Common.{rules, sym, ◌∙◌, subst}
use Rattle.sets.proofs.WalkLaws.{turn_below}
use Rattle.sets.specs.Set.{member}
use Rattle.sets.specs.declared.Set.{Set}
use Rattle.sets.specs.Set.{empty_set}
use Rattle.updates.proofs.GatherLaws.{Gathered, gathered_start, gathered_end}
use Rattle.stages.specs.Changes.{rowless}
use Rattle.stages.proofs.ChildLaws.{named_child, gathered_turn, child_split}
use Rattle.stages.proofs.choose.children_named.Goals as goal

pub loop-q-init : goal.loop-q-init
loop-q-init c =
    let a = c.args in
    let e = c.into_iter-q-iterator.ensures.into_iter_gives in
    subst (Gathered (member a.used) (named_child a.ps a.kind a.p a.n) empty_set) (sym e) (gathered_start a.used (named_child a.ps a.kind a.p a.n) (search rules))

pub bounds-ps-q : goal.bounds-ps-q
bounds-ps-q c = turn_below c.loop-q.invariant.left c.in-Some.ensures.steps

pub loop-q-preserved : goal.loop-q-preserved
loop-q-preserved c =
    let a = c.args in
    subst (λ (s : Set). Gathered (member a.used) (named_child a.ps a.kind a.p a.n) s c.next.new.self) (sym c.insert_if-found.ensures)
    (gathered_turn c.loop-q.invariant c.in-Some.ensures.steps c.child_named.result c.child_named.ensures)

pub returns : goal.returns
returns c = let a = c.args in gathered_end c.loop-q.invariant c.in-None.ensures.steps.0 ∙ child_split a.kind (rowless a.ps a.used) a.p a.n
