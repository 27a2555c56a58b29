-- The or with one bit, or nothing.
use Rattle.std.proofs.Common.{rules}
use Rattle.window.proofs.BitLaws.{or_shifted, no_flag}
use Rattle.window.proofs.flags.with_flag.Goals as goal

pub returns-then-b : goal.returns-then-b
returns-then-b c = rw c.if-b.true (or_shifted c.args.flags c.args.bit (search rules) c.requires)

pub returns-else-b : goal.returns-else-b
returns-else-b c = rw c.if-b.false (no_flag c.args.flags c.args.bit (search rules))
