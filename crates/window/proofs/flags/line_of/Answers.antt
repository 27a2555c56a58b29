-- The and is empty, or it is not.
use Rattle.std.proofs.Common.{rules}
use Rattle.window.proofs.BitLaws.{none_shared, some_shared}
use Rattle.window.proofs.flags.line_of.Goals as goal

pub returns-then-flags-mask-eq0 : goal.returns-then-flags-mask-eq0
returns-then-flags-mask-eq0 c = none_shared c.args.flags c.args.mask c.if-flags-mask-eq0.true

pub returns-else-flags-mask-eq0 : goal.returns-else-flags-mask-eq0
returns-else-flags-mask-eq0 c = some_shared c.args.flags c.args.mask (search rules) (search rules) c.if-flags-mask-eq0.false
