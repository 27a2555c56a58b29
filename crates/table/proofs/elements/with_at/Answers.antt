-- A store is one value changed; past 63 nothing is.
use Rattle.std.proofs.Common.{rules}
use Rattle.table.proofs.BaseLaws.{set_list}
use Rattle.table.proofs.ElementLaws.{store_past}
use Rattle.table.proofs.elements.with_at.Goals as goal

pub returns-then-q-lt64 : goal.returns-then-q-lt64
returns-then-q-lt64 g c = λ d. set_list d c.args.xs 64 c.args.q c.args.v (search rules) c.if-q-lt64.true

pub returns-else-q-lt64 : goal.returns-else-q-lt64
returns-else-q-lt64 g c = λ d. store_past d c.args.xs c.args.q c.args.v (search rules) c.if-q-lt64.false
