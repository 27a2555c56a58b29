-- The number of what is answered, told the truth of the cell.
use Rattle.std.proofs.Common.{ap, ◌∙◌}
use Rattle.meaning.specs.Codes.{touch_number}
use Rattle.touch.proofs.KnownLaws.{touches_told}
use Rattle.keeper.proofs.exports.keeper_touches.Goals as goal

pub returns : goal.returns
returns c = c.touch_number.ensures ∙ ap touch_number (c.touches_known.ensures ∙ touches_told c.args.cell.now c.args.place c.sound_lent.result c.sound_lent.ensures)
