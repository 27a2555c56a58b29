-- Before each turn the places that were taken stand in the sets of their parents.
use Rattle.std.proofs.Common.{◌≡◌, ℕ}
use Rattle.sets.specs.Set.{member}
use Rattle.sets.specs.Walk.{Rest}
use Rattle.lister.specs.Listed.{parents_of}
use Rattle.lister.proofs.GroupLaws.{sets_to}
use Rattle.lister.proofs.found.standing.Given as goal

abbrev pub invariant-loop-q : goal.invariant-loop-q
invariant-loop-q l = (i : ℕ) × (Rest (member l.c.used) i l.q-iterator × (l.inside ≡ sets_to l.c.used (parents_of l.c.places) i))
