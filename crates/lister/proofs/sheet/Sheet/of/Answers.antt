-- What is found of the cell says what the cell says, so every agent that is listed has a text.
use Rattle.lister.proofs.SheetLaws.{drawn_texts}
use Rattle.lister.proofs.DrawnLaws.{drawn}
use Rattle.lister.proofs.sheet.Sheet.of.Goals as goal

pub invariant_of-result : goal.invariant_of-result
invariant_of-result c = record { have_texts = drawn_texts (drawn c.args.cell.now c.standing.ensures c.listed.ensures) }

pub returns : goal.returns
returns c = drawn c.args.cell.now c.standing.ensures c.listed.ensures
