-- Before each turn the agents that were taken stand in the sets of their homes.
use Rattle.std.proofs.Common.{◌≡◌, ℕ}
use Rattle.sets.specs.Set.{member}
use Rattle.sets.specs.Walk.{Rest}
use Rattle.lister.specs.Listed.{homes_of}
use Rattle.lister.proofs.GroupLaws.{sets_to}
use Rattle.lister.proofs.found.listed.Given as goal

abbrev pub invariant-loop-x : goal.invariant-loop-x
invariant-loop-x l = (i : ℕ) × (Rest (member l.c.given) i l.x-iterator × (l.inside ≡ sets_to l.c.given (homes_of l.c.given l.c.agents) i))
