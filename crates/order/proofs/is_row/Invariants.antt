-- What is gathered of the row so far.
use Rattle.order.proofs.RowLawsGather.{Gathered}
use Rattle.order.proofs.is_row.Given as goal

abbrev pub invariant-loop-q : goal.invariant-loop-q
invariant-loop-q l = Gathered l.q-items l.seen l.q-index
