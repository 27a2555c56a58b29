-- What holds before each turn of the walk over the agents is `Passed`.
use Rattle.soundness.proofs.PassLaws.{Passed}
use Rattle.soundness.proofs.walks.agents_seen.Given as goal

abbrev pub invariant-loop-i : goal.invariant-loop-i
invariant-loop-i l = Passed l.cell l.held.claimed l.held.going l.i-iterator
