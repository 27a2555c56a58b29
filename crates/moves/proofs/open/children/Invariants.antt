-- Those that the walk has passed are found where they stand in t.
use Rattle.std.proofs.Common.{eqb, get_or}
use Rattle.sets.specs.Set.{member}
use Rattle.table.specs.Cell.{no_place}
use Rattle.updates.proofs.GatherLaws.{Gathered}
use Rattle.moves.proofs.open.children.Given as goal

abbrev pub invariant-loop-q : goal.invariant-loop-q
invariant-loop-q l = Gathered (member l.fn.used) (λ q. eqb (get_or l.fn.ps q no_place).parent l.t) l.found l.q-iterator
