-- Each turn reads one record: an action is put in, and what is no action ends the row.
use native.Mathlib.Omega.{arith}
use mathlib.Core.Path.{sym, ◌∙◌}
use Rattle.meaning.specs.File.{with_action}
use Rattle.reader.proofs.RowLaws.{own_long, row_full, row_more, row_ends}
use Rattle.reader.proofs.rows.with_row.Goals as goal

pub returns-in_default : goal.returns-in_default
returns-in_default c =
    row_ends _ _ c.loop-a.at c.loop-a.a c.loop-a-test.true _ c.own_record.ensures c.in_default.not-ActionRecord ∙ c.loop-a.invariant

pub overflow_add-at : goal.overflow_add-at
overflow_add-at c =
    let l = own_long _ c.loop-a.at _ _ _ _ (sym c.in-ActionRecord.is ∙ c.own_record.ensures) in
    omega (arith, c.well_formed)

pub loop-a-preserved : goal.loop-a-preserved
unfolding with_action
loop-a-preserved c =
    row_more _ _ c.loop-a.at c.loop-a.a c.loop-a-test.true _ _ _ (sym c.in-ActionRecord.is ∙ c.own_record.ensures) ∙ c.loop-a.invariant

pub returns-after-loop-a : goal.returns-after-loop-a
returns-after-loop-a c = row_full _ _ _ _ c.loop-a-test.false ∙ c.loop-a.invariant
