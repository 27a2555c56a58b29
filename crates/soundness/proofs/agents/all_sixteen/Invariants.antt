-- Before each turn bad is 0 only where the actions so far are in range.
use Rattle.std.proofs.Common.{◌≡◌, eqb, get_or}
use Rattle.table.specs.Base.{all_below}
use Rattle.table.specs.Cell.{no_action}
use Rattle.table.specs.Sound.{action_fits}
use Rattle.soundness.proofs.agents.all_sixteen.Given as goal

abbrev pub invariant-loop-x : goal.invariant-loop-x
invariant-loop-x l = eqb l.bad 0 ≡ all_below (λ i. action_fits (get_or l.fn.row i no_action)) l.x-index
