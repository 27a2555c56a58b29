-- Before turn i the row has the first i parts in order.
use Rattle.lister.specs.Cuts.{Ordering}
use Rattle.lister.proofs.parts.order.Given as goal

abbrev pub invariant-loop-i : goal.invariant-loop-i
invariant-loop-i l = Ordering l.ends l.buf l.i l.row l.moved
