-- In the end the bits are those of all of the row.
use Rattle.std.proofs.Common.{rules}
use Rattle.order.proofs.RowLawsGather.{below_start, below_turn, below_end}
use Rattle.order.proofs.bits_of.Goals as goal

pub loop-q-init : goal.loop-q-init
loop-q-init c = below_start c.args.order

pub loop-q-preserved : goal.loop-q-preserved
loop-q-preserved c = below_turn c.args.order c.loop-q.bits c.loop-q.q-index (search rules) c.loop-q.invariant c.loop-q-test.true

pub returns : goal.returns
returns c = below_end c.args.order c.loop-q.bits c.loop-q.q-index (search rules) c.loop-q.invariant c.loop-q-test.false
