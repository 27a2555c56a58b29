-- The row ends where the others and so many of lasts end.
use Rattle.std.proofs.Common.{rules}
use Rattle.order.proofs.RowLawsLoops.{then_row}
use Rattle.order.proofs.Parted.then.Goals as goal

pub returns : goal.returns
returns c = then_row c.args.self.count c.args.self.others c.args.lasts c.copy_from_slice.new.self (search rules) c.requires c.copy_from_slice.ensures.after
