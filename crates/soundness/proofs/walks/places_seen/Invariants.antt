-- What holds before each turn of the walk over the places is `Climbed`.
use Rattle.soundness.proofs.LandLaws.{Climbed}
use Rattle.soundness.proofs.walks.places_seen.Given as goal

abbrev pub invariant-loop-q : goal.invariant-loop-q
invariant-loop-q l = Climbed l.fn.cell.places l.fn.cell.locks l.fn.cell.used l.fn.held.claimed l.fn.held.going l.up l.known l.q-iterator
