-- Each turn passes a place more, of which there are 64; what holds before it is `Path`.
use Rattle.std.proofs.Common.{◌-◌}
use Rattle.sets.specs.Set.{member}
use Rattle.table.specs.Base.{count_below}
use Rattle.soundness.proofs.LeadLaws.{Path}
use Rattle.soundness.proofs.lands.followed.Given as goal

abbrev pub invariant-loop-path : goal.invariant-loop-path
invariant-loop-path l = Path l.fn.up l.fn.known l.fn.q l.path l.p

abbrev pub decreases-loop-path : goal.decreases-loop-path
decreases-loop-path l = 64 - count_below (member l.path) 64
