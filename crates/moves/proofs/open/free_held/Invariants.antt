-- The locks of those that the walk has passed are released where an agent of s holds them.
use Rattle.std.proofs.Common.{cond, get_or}
use Rattle.sets.specs.Set.{member}
use Rattle.table.specs.Cell.{none}
use Rattle.moves.proofs.StoreLaws.{Storing}
use Rattle.moves.proofs.open.free_held.Given as goal

abbrev pub invariant-loop-q : goal.invariant-loop-q
invariant-loop-q l = Storing 0 l.fn.used (λ q. get_or l.fn.ls q 0) (λ q. cond (member l.s (get_or l.fn.ls q 0)) none (get_or l.fn.ls q 0)) l.ms l.q-iterator
