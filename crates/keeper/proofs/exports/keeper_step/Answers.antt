-- What was decided, carried out, is the step.
use Rattle.std.proofs.Common.{ap, ◌∙◌, true}
use Rattle.meaning.specs.declared.Stepped.{Stepped}
use Rattle.meaning.specs.Codes.{step_number}
use Rattle.step.specs.declared.Decision.{Decision}
use Rattle.asking.specs.Asked.{carried_if}
use Rattle.asking.proofs.AskedLaws.{carried_any}
use Rattle.keeper.proofs.exports.keeper_step.Goals as goal

pub returns : goal.returns
returns c =
    let h = c.args.cell.now in
    let x = c.args.agent in
    let e = ap (λ (d : Decision). carried_if h x d true 0) c.decided-d.ensures.decision ∙ carried_any h c.decided-d.ensures.sizes x c.args.wish 0 in
    (c.carried.ensures.0 ∙ ap (λ (s : Stepped). s.cell) e, c.carried.ensures.1 ∙ ap (λ (s : Stepped). step_number s.answer) e)
