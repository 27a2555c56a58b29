-- What holds before each turn of the walk is `Walking`.
use Rattle.moving.proofs.TurnLaws.{Walking}
use Rattle.moving.proofs.walks.walk.Given as goal

abbrev pub invariant-loop-i : goal.invariant-loop-i
invariant-loop-i l = Walking l.fn.cell l.waking l.cell l.sleepers l.holders l.i-iterator
