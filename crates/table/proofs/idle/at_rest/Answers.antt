-- Each turn takes the lowest agent that is left; the first that is neither asleep nor done decides.
use Rattle.std.proofs.Common.{rules, ◌^◌, ◌<◌, ◌∙◌, sym, subst}
use Rattle.sets.specs.Word.{has}
use Rattle.sets.proofs.WalkLaws.{rest_start, turn_below, turn_member}
use Rattle.sets.specs.declared.Set.{Set}
use Rattle.table.specs.Cell.{cell_of}
use Rattle.table.specs.Idle.{idle}
use Rattle.table.proofs.TestLaws.{Tested, tested_start, tested_fail, tested_pass, tested_none}
use Rattle.table.proofs.RestLaws.{rests, not_given, rests_given}
use Rattle.table.proofs.idle.at_rest.Goals as goal

pub loop-i-init : goal.loop-i-init
loop-i-init c =
    let t = c.args.cell.now in
    let e = c.into_iter-i-iterator.ensures.into_iter_gives in
    let small : c.into_iter-i-iterator.result.bits < 2 ^ 64 = search rules in
    subst (Tested (has t.given.bits) (rests t)) (sym e)
    (tested_start (has t.given.bits) (rests t) t.given (rest_start t.given (subst (λ (s : Set). s.bits < 2 ^ 64) e small)))

pub bounds-cell-i : goal.bounds-cell-i
bounds-cell-i c = turn_below c.loop-i.invariant.left c.in-Some.ensures.steps

pub returns-then-not-rests : goal.returns-then-not-rests
unfolding idle cell_of
returns-then-not-rests c =
    let t = c.args.cell.now in
    let step = c.in-Some.ensures.steps in
    sym (tested_fail (has t.given.bits) (rests t) (not_given t) c.loop-i.invariant step
    (rests_given t c.in-Some.i (turn_member c.loop-i.invariant.left step) ∙ sym c.rests.ensures ∙ c.if-not-rests.true))

pub loop-i-preserved : goal.loop-i-preserved
loop-i-preserved c =
    let t = c.args.cell.now in
    let step = c.in-Some.ensures.steps in
    tested_pass (has t.given.bits) (rests t) (not_given t) c.loop-i.invariant step
    (rests_given t c.in-Some.i (turn_member c.loop-i.invariant.left step) ∙ sym c.rests.ensures ∙ c.if-not-rests.false)

pub returns : goal.returns
unfolding idle cell_of
returns c = let t = c.args.cell.now in sym (tested_none (has t.given.bits) (rests t) (not_given t) c.loop-i.invariant c.in-None.ensures.steps)
