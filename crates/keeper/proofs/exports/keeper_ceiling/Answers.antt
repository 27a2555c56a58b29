-- The number of what is answered, told the truth of the cell and how many moves it has left.
use Rattle.std.proofs.Common.{ap, ◌∙◌}
use Rattle.meaning.specs.Codes.{limit_number}
use Rattle.limit.proofs.LimitLaws.{ceiling_told}
use Rattle.keeper.proofs.exports.keeper_ceiling.Goals as goal

pub returns : goal.returns
returns c = c.limit_number.ensures ∙ ap limit_number (c.ceiling_known.ensures ∙ ceiling_told c.args.cell.now c.sound_lent.result c.moves_left.result c.sound_lent.ensures c.moves_left.ensures)
