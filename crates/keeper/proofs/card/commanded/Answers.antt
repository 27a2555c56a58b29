-- Command 1 is the step call, noted in the window; any other leaves the cell and tells the line alone.
use Rattle.std.proofs.Common.{ap}
use Rattle.window.specs.declared.Commanded.{Commanded}
use Rattle.window.proofs.NotedLaws.{command_step, command_other}
use Rattle.keeper.proofs.card.commanded.Goals as goal

pub returns-then-w-eq1 : goal.returns-then-w-eq1
returns-then-w-eq1 c =
    let e = command_step c.args.cell.now c.args.w c.keeper_step-number.new.cell c.keeper_step-number.result c.at_rest-rest.result c.noted.result c.if-w-eq1.true
    c.keeper_step-number.ensures.0 c.keeper_step-number.ensures.1 c.at_rest-rest.ensures c.noted.ensures in
    (ap (λ (d : Commanded). d.cell) e, ap (λ (d : Commanded). d.window) e)

pub returns : goal.returns
returns c =
    let e = command_other c.args.cell.now c.args.w c.with_line.result c.if-w-eq1.false c.with_line.ensures in
    (ap (λ (d : Commanded). d.cell) e, ap (λ (d : Commanded). d.window) e)
