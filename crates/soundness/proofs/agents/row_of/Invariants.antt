-- Before each turn the actions below j are in range.
use Rattle.std.proofs.Common.{◌≡◌, true}
use Rattle.table.specs.Base.{all_below}
use Rattle.table.specs.Sound.{action_at}
use Rattle.soundness.proofs.agents.row_of.Given as goal

abbrev pub invariant-loop-j : goal.invariant-loop-j
invariant-loop-j l = all_below (action_at l.fn.a) l.j ≡ true
