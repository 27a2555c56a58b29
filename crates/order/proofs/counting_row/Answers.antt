-- Each turn writes the next number.
use Rattle.std.proofs.Common.{arith}
use Rattle.order.proofs.RowLawsLoops.{counted_start, counted_turn, counted_end}
use Rattle.order.proofs.counting_row.Goals as goal

pub loop-q-init : goal.loop-q-init
loop-q-init c = counted_start

pub loop-q-preserved : goal.loop-q-preserved
loop-q-preserved c = counted_turn c.loop-q.invariant (omega arith)

pub returns : goal.returns
returns c = counted_end c.loop-q.invariant (omega arith)
