-- What is found of the cell says what the cell says, so the floor's text is the listing.
use Rattle.std.proofs.Common.{ap, ◌∙◌}
use Rattle.table.proofs.Facts.{names16}
use Rattle.text.specs.Same.{same_text}
use Rattle.lister.proofs.SheetLaws.{floor_is}
use Rattle.lister.proofs.DrawnLaws.{drawn_short}
use Rattle.lister.proofs.is_listing.Goals as goal

pub is_floor-requires : goal.is_floor-requires
is_floor-requires c =
    let d = c.of-sheet.ensures in
    drawn_short c.args.c (names16 c.args.c c.well_formed.0) d

pub returns : goal.returns
returns c = c.is_floor.ensures ∙ ap (same_text c.args.text.now) (floor_is c.of-sheet.ensures)
