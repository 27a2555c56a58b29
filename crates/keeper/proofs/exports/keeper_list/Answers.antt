-- What is left in the text, and the number of what is answered, told the truth of the cell.
use Rattle.std.proofs.Common.{ap, ◌∙◌}
use Rattle.table.specs.Cell.{cell_of}
use Rattle.meaning.specs.Codes.{list_number}
use Rattle.listing.proofs.CallLaws.{list_told}
use Rattle.keeper.proofs.exports.keeper_list.Goals as goal

pub returns : goal.returns
returns c =
    let e = list_told (cell_of c.args.cell.now) c.args.text.now c.list_known.new.buf c.list_known.result c.sound_lent.result c.sound_lent.ensures c.list_known.ensures in
    (e.1, c.list_number.ensures ∙ ap list_number e.0)
