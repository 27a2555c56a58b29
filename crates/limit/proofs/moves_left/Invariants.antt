-- So many moves are added, and the agents that are left have what is still to come.
use Rattle.std.proofs.Common.{get_or}
use Rattle.sets.specs.Word.{has}
use Rattle.table.specs.Cell.{no_agent}
use Rattle.meaning.specs.Limit.{moves_of}
use Rattle.lending.proofs.Added.{Added}
use Rattle.limit.proofs.moves_left.Given as goal

abbrev pub invariant-loop-i : goal.invariant-loop-i
invariant-loop-i l = Added (has l.cell.given.bits) (λ x. moves_of (get_or l.cell.agents x no_agent)) l.moves l.i-iterator
