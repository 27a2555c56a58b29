-- Before each turn the machine is where the bytes so far bring it, and the table is that of the cell so far.
use Prim.Native.Nat.{suc, ◌-◌}
use lib.ListN.{length}
use Rattle.parser.proofs.ReadLaws.{Rest}
use Rattle.parser.proofs.read.Given as goal

abbrev pub invariant-loop-i : goal.invariant-loop-i
invariant-loop-i l = Rest l.s l.i l.at l.d l.b l.x

abbrev pub decreases-loop-i : goal.decreases-loop-i
decreases-loop-i l = suc (length l.s) - l.i
