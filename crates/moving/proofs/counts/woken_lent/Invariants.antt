-- Those that the walk has passed are found where they would be woken.
use Rattle.std.proofs.Common.{get_or}
use Rattle.sets.specs.Set.{member}
use Rattle.table.specs.Cell.{no_agent}
use Rattle.updates.proofs.GatherLaws.{Gathered}
use Rattle.moving.specs.Turn.{wakes_of}
use Rattle.moving.proofs.counts.woken_lent.Given as goal

abbrev pub invariant-loop-i : goal.invariant-loop-i
invariant-loop-i l = Gathered (member l.fn.cell.given) (λ y. wakes_of l.waking (get_or l.fn.cell.agents y no_agent)) l.sleepers l.i-iterator
