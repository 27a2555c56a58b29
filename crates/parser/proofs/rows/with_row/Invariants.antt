-- Before each turn a full stop was read last, and the agent has the actions so far.
use Prim.Native.Nat.{◌-◌}
use Rattle.language.specs.declared.Control.TheVariants.{Dot}
use Rattle.parser.specs.Rows.{Rowed}
use Rattle.parser.proofs.rows.with_row.Given as goal

abbrev pub invariant-loop-a : goal.invariant-loop-a
invariant-loop-a l = Rowed l.s l.fn.from l.fn.g l.i Dot l.a

abbrev pub decreases-loop-a : goal.decreases-loop-a
decreases-loop-a l = 16 - l.a.count
