-- Before each turn the answer is what the rest of the file makes of the cell so far.
use Prim.Native.Nat.{◌-◌}
use lib.ListN.{length}
use Rattle.reader.proofs.LoadRest.{Rest}
use Rattle.reader.proofs.load.Given as goal

abbrev pub invariant-loop-at : goal.invariant-loop-at
invariant-loop-at l = Rest l.s l.at l.d l.full l.counted l.came l.many

abbrev pub decreases-loop-at : goal.decreases-loop-at
decreases-loop-at l = length l.s - l.at
