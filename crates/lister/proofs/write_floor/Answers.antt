-- Where the contents have no length there is nothing in the buffer yet.
use Rattle.std.proofs.Common.{arith}
use Rattle.lister.specs.Sheet.{sheet_of}
use Rattle.lister.proofs.WriteLaws.{floor_page, zero_in, floor_none, floor_some}
use Rattle.lister.proofs.write_floor.Goals as goal

pub write_contents-n-requires : goal.write_contents-n-requires
write_contents-n-requires c = (omega arith, floor_page (sheet_of c.args.sheet.now) c.requires.fits c.requires.short)

pub bounds-buf-0 : goal.bounds-buf-0
bounds-buf-0 c = zero_in (sheet_of c.args.sheet.now) c.requires.fits c.write_contents-n.ensures c.if-n-eq0.true

pub returns-then-n-eq0 : goal.returns-then-n-eq0
returns-then-n-eq0 c = floor_none (sheet_of c.args.sheet.now) c.requires.fits c.write_contents-n.ensures c.if-n-eq0.true

pub returns : goal.returns
returns c = floor_some (sheet_of c.args.sheet.now) c.requires.fits c.write_contents-n.ensures c.if-n-eq0.false
