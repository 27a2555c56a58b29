-- The places of those that the walk has passed have changed.
use Rattle.std.proofs.Common.{get_or}
use Rattle.table.specs.Cell.{no_place}
use Rattle.meaning.specs.Step.{dissolve_place}
use Rattle.moves.proofs.StoreLaws.{Storing}
use Rattle.moves.proofs.open.adopt.Given as goal

abbrev pub invariant-loop-q : goal.invariant-loop-q
invariant-loop-q l = Storing no_place l.fn.used (λ q. get_or l.fn.ps q no_place) (λ q. dissolve_place l.p l.t q (get_or l.fn.ps q no_place)) l.qs l.q-iterator
