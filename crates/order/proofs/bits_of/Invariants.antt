-- What the bits say of the numbers so far.
use Rattle.order.proofs.RowLawsGather.{Below}
use Rattle.order.proofs.bits_of.Given as goal

abbrev pub invariant-loop-q : goal.invariant-loop-q
invariant-loop-q l = Below l.q-items l.bits l.q-index
