-- The number of what is answered, told the truth of the cell.
use Rattle.std.proofs.Common.{ap, ◌∙◌}
use Rattle.meaning.specs.Codes.{found_number}
use Rattle.locating.proofs.KnownLaws.{nearest_told}
use Rattle.keeper.proofs.exports.keeper_nearest.Goals as goal

pub returns : goal.returns
returns c = c.found_number.ensures ∙ ap found_number (c.nearest_known.ensures ∙ nearest_told c.args.cell.now c.args.place c.args.name c.sound_lent.result c.sound_lent.ensures)
