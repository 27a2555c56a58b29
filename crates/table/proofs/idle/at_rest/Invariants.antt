-- All agents before those that are left rest.
use Rattle.table.proofs.TestLaws.{Tested}
use Rattle.table.proofs.RestLaws.{rests}
use Rattle.sets.specs.Word.{has}
use Rattle.table.proofs.idle.at_rest.Given as goal

abbrev pub invariant-loop-i : goal.invariant-loop-i
invariant-loop-i l = Tested (has l.cell.given.bits) (rests l.cell) l.i-iterator
