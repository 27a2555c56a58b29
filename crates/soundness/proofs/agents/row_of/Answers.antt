-- A row that ends before it starts or has more than sixteen actions; a row without unused actions; an action that is out of range, or none.
use Rattle.std.proofs.Common.{◌∙◌, sym, arith, eq-eqb, ne_eqb}
use Rattle.soundness.proofs.RowLaws.{kind_some, kind_none, kind_told, kind_untold, row_crossed, row_long, row_start, row_stop, row_more, row_end_lem, row_full}
use Rattle.soundness.proofs.agents.row_of.Goals as goal
use Rattle.soundness.proofs.agents.row_of.Goals.{then-a-via-then-a, then-a-via-else-a+then-a-gt16}

pub returns-then-a : goal.returns-then-a
returns-then-a c =
    kind_untold c.args.a
    (elim c.then-a.branch [
      | then-a-via-then-a w ↦ row_crossed c.args.a (omega arith)
      | then-a-via-else-a+then-a-gt16 w ↦ row_long c.args.a (omega arith) (omega arith)
    ])

pub returns-then-a-2 : goal.returns-then-a-2
returns-then-a-2 c =
    let a = c.args.a in
    kind_told a 0 (row_end_lem a (omega arith) c.if-a-gt16.false a.next (omega arith) (omega arith) (row_start a (omega arith) c.if-a-gt16.false)) (sym (kind_none a (omega arith)))

pub returns-then-all_sixteen : goal.returns-then-all_sixteen
returns-then-all_sixteen c =
    let a = c.args.a in
    kind_told a _ (row_full a (omega arith) (omega arith) (sym c.all_sixteen.ensures ∙ c.if-all_sixteen.true)) (sym (kind_some a (omega arith) (omega arith)))

pub loop-j-init : goal.loop-j-init
loop-j-init c = row_start c.args.a (omega arith) (omega arith)

pub returns-then-fault-ne0 : goal.returns-then-fault-ne0
returns-then-fault-ne0 c =
    let a = c.args.a in
    kind_untold a (row_stop a (omega arith) (omega arith) c.loop-j.j (omega arith) (omega arith) (sym c.fault.ensures ∙ ne_eqb _ 0 c.if-fault-ne0.true))

pub loop-j-preserved : goal.loop-j-preserved
loop-j-preserved c =
    let a = c.args.a in
    row_more a (omega arith) (omega arith) c.loop-j.j (omega arith) (omega arith) c.loop-j.invariant (sym c.fault.ensures ∙ eq-eqb _ 0 c.if-fault-ne0.false)

pub returns : goal.returns
returns c =
    let a = c.args.a in
    kind_told a _ (row_end_lem a (omega arith) (omega arith) c.loop-j.j (omega arith) (omega arith) c.loop-j.invariant) (sym (kind_some a (omega arith) (omega arith)))
