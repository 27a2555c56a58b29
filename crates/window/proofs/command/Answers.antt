-- What `step` answers decides the window, or nothing but the line is written.
use Rattle.std.proofs.Common.{ap, ◌∙◌}
use Rattle.meaning.specs.declared.Stepped.{Stepped}
use Rattle.meaning.specs.Codes.{step_number}
use Rattle.window.proofs.NotedLaws.{command_step, command_other}
use Rattle.window.proofs.command.Goals as goal

pub returns-then-w-ne-STEP : goal.returns-then-w-ne-STEP
returns-then-w-ne-STEP c = command_other c.args.c c.args.w _ c.if-w-ne-STEP.true c.with_line.ensures

pub returns : goal.returns
returns c =
    command_step c.args.c c.args.w c.step-s.result.cell c.step_number-number.result c.is_idle-rest.result c.noted.result c.if-w-ne-STEP.false
    (ap (λ (z : Stepped). z.cell) c.step-s.ensures) (c.step_number-number.ensures ∙ ap (λ (z : Stepped). step_number z.answer) c.step-s.ensures)
    c.is_idle-rest.ensures c.noted.ensures
