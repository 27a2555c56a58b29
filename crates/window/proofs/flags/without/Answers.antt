-- The and with the complement.
use Rattle.std.proofs.Common.{rules}
use Rattle.window.proofs.BitLaws.{and_cleared}
use Rattle.window.proofs.flags.without.Goals as goal

pub returns : goal.returns
returns c = and_cleared c.args.flags c.args.ones (search rules) (search rules)
