-- Before each turn the digits so far have been read.
use Prim.Native.Nat.{◌-◌}
use lib.ListN.{length}
use Rattle.language.specs.declared.Control.TheVariants.{Digits}
use Rattle.parser.specs.Stretches.{Stretch}
use Rattle.parser.proofs.stretch.digits.Given as goal

abbrev pub invariant-loop-i : goal.invariant-loop-i
invariant-loop-i l = Stretch l.s l.fn.from (Digits l.f l.fn.value) l.i (Digits l.f l.v)

abbrev pub decreases-loop-i : goal.decreases-loop-i
decreases-loop-i l = length l.s - l.i
