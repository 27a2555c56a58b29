-- A store is one value changed; past 63 nothing is.
use Rattle.std.proofs.Common.{rules}
use Rattle.table.proofs.BaseLaws.{set_list}
use Rattle.table.proofs.ElementLaws.{store_past}
use Rattle.moves.proofs.open.with_touches.Goals as goal

pub returns-then-q-lt64 : goal.returns-then-q-lt64
returns-then-q-lt64 c = set_list 0 c.args.ts 64 c.args.q c.args.n (search rules) c.if-q-lt64.true

pub returns-else-q-lt64 : goal.returns-else-q-lt64
returns-else-q-lt64 c = store_past 0 _ _ _ (search rules) c.if-q-lt64.false
