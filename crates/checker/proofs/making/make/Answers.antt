-- The motion of the agent as it moves, made on a copy of the table.
use Rattle.std.proofs.Common.{ap₂, ◌∙◌}
use Rattle.table.specs.Cell.{cell_of}
use Rattle.checker.specs.OnTable.{shifted_on, made_on}
use Rattle.checker.proofs.making.make.Goals as goal

pub returns : goal.returns
unfolding cell_of made_on
returns c = c.shift_lent-answer.ensures.0 ∙ ap₂ (shifted_on c.args.c c.args.x) c.at_stage-o.ensures c.motion_of-m.ensures
