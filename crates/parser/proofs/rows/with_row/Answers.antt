-- What was read is as far as the next action is there.
use native.Mathlib.Omega.{arith}
use mathlib.Core.Path.{◌≡◌}
use lib.ListN.{get_or}
use Rattle.meaning.specs.File.{with_action}
use Rattle.parser.specs.Stretches
use Rattle.parser.specs.Rows
use Rattle.parser.proofs.RowLaws.{row_on, row_more}
use Rattle.parser.proofs.rows.with_row.Goals as goal

pub loop-a-init : goal.loop-a-init
loop-a-init c = Rows.begun Stretches.still

pub returns-in_default : goal.returns-in_default
returns-in_default c = row_on c.loop-a.invariant c.action-r.ensures

pub returns-in_default-2 : goal.returns-in_default-2
returns-in_default-2 c = row_on c.loop-a.invariant c.action-r.ensures

pub returns-then-s-r : goal.returns-then-s-r
returns-then-s-r c = row_on c.loop-a.invariant c.action-r.ensures

pub loop-a-preserved : goal.loop-a-preserved
unfolding with_action
loop-a-preserved c =
    let stop : get_or c.args.s.now c.action-r.result.i 0 ≡ 46 = omega arith in
    let read = c.in-Digits-ActionNumber-default in
    row_more (row_on c.loop-a.invariant c.action-r.ensures) read.is (rw read.is at read.field-0-is) c.if-s-r.false stop c.loop-a-test.true
