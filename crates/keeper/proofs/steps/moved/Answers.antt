-- A move that goes on is the motion of the decision; one that does not changes nothing and answers 18.
use Rattle.std.proofs.Common.{sym, ap, ◌∙◌, ℕ, get_or}
use Rattle.table.specs.Cell.{cell_of, no_agent}
use Rattle.meaning.specs.Answers.{Answer}
use Rattle.meaning.specs.declared.Stepped.{Stepped}
use Rattle.meaning.specs.StepCall.{made, turned_away}
use Rattle.meaning.specs.Codes.{step_number}
use Rattle.moves.specs.Motions.{shifted}
use Rattle.step.specs.Decided.{agent_at}
use Rattle.asking.specs.Asked.{goes_on, moved_if}
use Rattle.asking.proofs.AskedLaws.{motion_answer, only_goes, only_differs}
use Rattle.keeper.proofs.steps.moved.Goals as goal

pub returns-then-move_goes : goal.returns-then-move_goes
unfolding moved_if
returns-then-move_goes c =
    let h = c.args.cell.now in
    let x = c.args.agent in
    let d = c.args.d in
    let a = get_or h.agents c.at-k.result no_agent in
    let e = only_goes h d c.args.any c.args.answer (made (shifted (cell_of h) x (agent_at h x) c.args.motion)) (made (shifted (cell_of h) x a c.args.motion))
    (ap (λ (k : ℕ). made (shifted (cell_of h) x (get_or h.agents k no_agent) c.args.motion)) c.at-k.ensures) c.move_goes.result
    (c.move_goes.ensures ∙ ap (λ (w : Answer). goes_on c.args.any w d.chosen c.args.answer) (sym (motion_answer (cell_of h) x a c.args.motion))) c.if-move_goes.true in
    (c.shift_lent-r.ensures.0 ∙ ap (λ (s : Stepped). s.cell) e, c.step_number.ensures ∙ ap step_number (c.shift_lent-r.ensures.1 ∙ ap (λ (s : Stepped). s.answer) e))

pub returns : goal.returns
unfolding moved_if turned_away
returns c =
    let h = c.args.cell.now in
    let x = c.args.agent in
    let d = c.args.d in
    let a = get_or h.agents c.at-k.result no_agent in
    let e = only_differs h d c.args.any c.args.answer (made (shifted (cell_of h) x (agent_at h x) c.args.motion)) (made (shifted (cell_of h) x a c.args.motion))
    (ap (λ (k : ℕ). made (shifted (cell_of h) x (get_or h.agents k no_agent) c.args.motion)) c.at-k.ensures) c.move_goes.result
    (c.move_goes.ensures ∙ ap (λ (w : Answer). goes_on c.args.any w d.chosen c.args.answer) (sym (motion_answer (cell_of h) x a c.args.motion))) c.if-move_goes.false in
    (ap (λ (s : Stepped). s.cell) e, c.from.ensures ∙ ap (λ (s : Stepped). step_number s.answer) e)
