-- The number of what is answered, told the truth of the cell and whether it rests.
use Rattle.std.proofs.Common.{ap, ◌∙◌}
use Rattle.meaning.specs.Codes.{idle_number}
use Rattle.keeper.proofs.Known.{idle_told}
use Rattle.keeper.proofs.exports.keeper_idle.Goals as goal

pub returns : goal.returns
returns c =
    c.idle_number.ensures
    ∙ ap idle_number (c.idled.ensures ∙ idle_told c.args.cell.now c.sound_lent.result c.at_rest.result c.sound_lent.ensures c.at_rest.ensures)
