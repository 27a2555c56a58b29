-- What holds before each turn is `Taken`.
use Rattle.std.proofs.Common.{get_or}
use Rattle.sets.specs.Set.{member}
use Rattle.table.specs.Sound.{most_touches}
use Rattle.soundness.proofs.LeftLaws.{Taken}
use Rattle.soundness.proofs.touches.touches_left.Given as goal

abbrev pub invariant-loop-q : goal.invariant-loop-q
invariant-loop-q l = Taken (member l.fn.used) (λ q. get_or l.ts q 0) most_touches l.left l.q-iterator
