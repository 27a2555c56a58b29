-- Before each turn the agent so far, with what is left of the row, is the agent that the definition comes to.
use mathlib.Core.Path.{◌≡◌}
use Prim.Native.Nat.{◌-◌}
use Rattle.reader.specs.ActionRow.{with_row}
use Rattle.reader.proofs.rows.with_row.Given as goal

abbrev pub invariant-loop-a : goal.invariant-loop-a
invariant-loop-a l = with_row (16 - l.a.count) l.s l.n l.at l.a ≡ with_row (16 - l.fn.g.count) l.fn.s l.fn.n l.fn.from l.fn.g

abbrev pub decreases-loop-a : goal.decreases-loop-a
decreases-loop-a l = 16 - l.a.count
