-- As many are written as there were turns; where a test decides the calls, the others stand at the front of the one row and those that pass at the
-- front of the other.
use Rattle.std.proofs.Common.{◌≡◌, ℕ, ◌+◌, Bool}
use Rattle.order.specs.Parted.{Decides}
use Rattle.order.proofs.RowLawsLoops.{Parts}
use Rattle.order.proofs.part.Given as goal

abbrev pub invariant-loop-q : goal.invariant-loop-q
invariant-loop-q g l = goal.F-IsAlwaysCallable g l.passes × ((l.count + l.m ≡ l.q-index) × ((f : ℕ → Bool) → Decides (goal.F-post g l.passes) f → Parts f l.q-items l.others l.members l.count l.m l.q-index))
