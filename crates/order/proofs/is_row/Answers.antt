-- The bits tell whether every number is small; if so, what is gathered of the row is in the end every number, or not.
use Rattle.std.proofs.Common.{rules, ◌∙◌, sym, lt-ltb, arith}
use Rattle.order.proofs.RowLawsGather.{gathered_start, gathered_turn, gathered_all}
use Rattle.order.proofs.is_row.Goals as goal

pub loop-q-init : goal.loop-q-init
loop-q-init c = gathered_start c.args.order

pub loop-q-preserved : goal.loop-q-preserved
loop-q-preserved c =
    gathered_turn {order = c.args.order} (search rules) (sym c.bits_of.ensures ∙ lt-ltb c.bits_of.result 64 (omega arith))
    c.loop-q.invariant c.loop-q-test.true

pub returns : goal.returns
returns c =
    gathered_all {order = c.args.order} (search rules) (sym c.bits_of.ensures ∙ lt-ltb c.bits_of.result 64 (omega arith))
    c.loop-q.invariant c.loop-q-test.false
