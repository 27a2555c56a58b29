-- The first numbers of the row are those below q.
use Rattle.order.proofs.RowLawsLoops.{Counted}
use Rattle.order.proofs.counting_row.Given as goal

abbrev pub invariant-loop-q : goal.invariant-loop-q
invariant-loop-q l = Counted l.row l.q
