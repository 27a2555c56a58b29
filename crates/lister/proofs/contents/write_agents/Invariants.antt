-- Before each turn the texts of the agents that were taken are written, and it is noted where each ends.
use Rattle.sets.specs.Set.{member}
use Rattle.lister.specs.Listed.{agent_on}
use Rattle.lister.proofs.TurnLaws.{Walked}
use Rattle.lister.proofs.contents.write_agents.Given as goal

abbrev pub invariant-loop-x : goal.invariant-loop-x
invariant-loop-x l = Walked (member l.fn.agents) (agent_on l.c) l.from l.fn.buf l.x-iterator l.marks l.listed l.buf l.at
