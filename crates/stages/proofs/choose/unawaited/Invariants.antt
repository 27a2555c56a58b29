-- Those that a place before the ones that are left is on its way to are taken out.
use Rattle.stages.specs.Changes.{rowless}
use Rattle.stages.proofs.ChildLaws.{Unmet}
use Rattle.stages.proofs.choose.unawaited.Given as goal

abbrev pub invariant-loop-q : goal.invariant-loop-q
invariant-loop-q l = Unmet (rowless l.fn.ps l.fn.used) l.fn.among l.left l.q-iterator
