-- Where a place moves the move is what is carried out, where none does the agent and the locks.
use Rattle.std.proofs.Common.{ap, ◌∙◌}
use Rattle.meaning.specs.declared.Stepped.{Stepped}
use Rattle.meaning.specs.Codes.{step_number}
use Rattle.asking.proofs.AskedLaws.{carried_moved, carried_settled}
use Rattle.keeper.proofs.steps.carried.Goals as goal

pub returns-in-Some : goal.returns-in-Some
returns-in-Some c =
    let a = c.args in
    let e = carried_moved a.cell.now a.agent a.d a.any a.answer c.in-Some.motion c.in-Some.is in
    (c.moved.ensures.0 ∙ ap (λ (s : Stepped). s.cell) e, c.moved.ensures.1 ∙ ap (λ (s : Stepped). step_number s.answer) e)

pub returns-in-None : goal.returns-in-None
returns-in-None c =
    let a = c.args in
    let e = carried_settled a.cell.now a.agent a.d a.any a.answer c.in-None.is in
    (c.settled.ensures.0 ∙ ap (λ (s : Stepped). s.cell) e, c.settled.ensures.1 ∙ ap (λ (s : Stepped). step_number s.answer) e)
