-- What is found of the cell says what the cell says, so what the floor writes is the listing, and no listing is longer than a page.
use Rattle.std.proofs.Common.{◌≤◌, length, arith}
use Rattle.table.proofs.Facts.{names16}
use Rattle.lengths.proofs.ListingLength.{listing_longest}
use Rattle.text.proofs.TextLaws.{moved, wrote_as}
use Rattle.lister.proofs.SheetLaws.{floor_is}
use Rattle.lister.proofs.DrawnLaws.{drawn_short}
use Rattle.lister.proofs.WriteLaws.{long_fits, wrote_if_as, wholly}
use Rattle.lister.proofs.write_if.Goals as goal

pub write_page-requires : goal.write_page-requires
write_page-requires c =
    let d = c.of-sheet.ensures in
    drawn_short c.args.c (names16 c.args.c c.well_formed.0) d

pub returns-then-buf-lt-PAGE_BYTES : goal.returns-then-buf-lt-PAGE_BYTES
returns-then-buf-lt-PAGE_BYTES c = wrote_if_as (floor_is c.of-sheet.ensures) c.write_page.ensures

pub write_floor-n-requires : goal.write_floor-n-requires
write_floor-n-requires c =
    let d = c.of-sheet.ensures in
    let l = drawn_short c.args.c (names16 c.args.c c.well_formed.0) d in
    let r : 16225 ≤ length c.args.buf.now = omega arith in
    record { fits = long_fits l r (omega (arith, c.well_formed)); short = l }

pub returns : goal.returns
returns c =
    let m = listing_longest c.args.c (names16 c.args.c c.well_formed.0) in
    let r : 16225 ≤ length c.args.buf.now = omega arith in
    wholly c.args.whole (omega (arith, m, r)) (moved (wrote_as (floor_is c.of-sheet.ensures) c.write_floor-n.ensures) c.plus.ensures)
