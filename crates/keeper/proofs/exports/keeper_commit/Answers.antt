-- What was decided, carried out, is the commit.
use Rattle.std.proofs.Common.{ap, ◌∙◌, false}
use Rattle.meaning.specs.declared.Stepped.{Stepped}
use Rattle.meaning.specs.Codes.{step_number}
use Rattle.step.specs.declared.Decision.{Decision}
use Rattle.asking.specs.Asked.{carried_if}
use Rattle.asking.proofs.AskedLaws.{carried_handed}
use Rattle.keeper.proofs.exports.keeper_commit.Goals as goal

pub returns : goal.returns
returns c =
    let h = c.args.cell.now in
    let x = c.args.agent in
    let e = ap (λ (d : Decision). carried_if h x d false c.args.answer) c.decided-d.ensures.decision ∙ carried_handed h c.decided-d.ensures.sizes x c.args.wish c.args.answer in
    (c.carried.ensures.0 ∙ ap (λ (s : Stepped). s.cell) e, c.carried.ensures.1 ∙ ap (λ (s : Stepped). step_number s.answer) e)
