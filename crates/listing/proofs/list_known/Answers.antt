-- The tests in their order, and what was written.
use Rattle.std.proofs.Common.{arith}
use Rattle.table.specs.Cell.{cell_of}
use Rattle.listing.proofs.CallLaws.{refused_unsound, refused_long, listed}
use Rattle.listing.proofs.list_known.Goals as goal

pub returns-then-not-known : goal.returns-then-not-known
returns-then-not-known c = refused_unsound (cell_of c.args.c) _ c.args.known c.if-not-known.true

pub returns-then-buf-n : goal.returns-then-buf-n
returns-then-buf-n c = refused_long (cell_of c.args.c) (omega (arith, c.well_formed)) c.args.known c.if-not-known.false c.write_if-n.ensures c.if-buf-n.true

pub returns : goal.returns
returns c = listed (cell_of c.args.c) (omega (arith, c.well_formed)) c.args.known c.if-not-known.false c.write_if-n.ensures c.if-buf-n.false
