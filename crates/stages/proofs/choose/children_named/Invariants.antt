-- Of the places before those that are left the children of this key are found.
use Rattle.sets.specs.Set.{member}
use Rattle.updates.proofs.GatherLaws.{Gathered}
use Rattle.stages.proofs.ChildLaws.{named_child}
use Rattle.stages.proofs.choose.children_named.Given as goal

abbrev pub invariant-loop-q : goal.invariant-loop-q
invariant-loop-q l = Gathered (member l.fn.used) (named_child l.fn.ps l.fn.kind l.fn.p l.fn.n) l.found l.q-iterator
