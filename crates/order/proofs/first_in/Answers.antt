-- Each turn leaves one number less of the row; the first member decides.
use Rattle.std.proofs.Common.{rules, arith, ◌≡◌, ◌∙◌, sym, length}
use Rattle.sets.specs.Set.{member}
use Rattle.order.proofs.RowLawsFirst.{first_more, first_found, first_end}
use Rattle.order.proofs.first_in.Goals as goal

pub returns-then-has : goal.returns-then-has
returns-then-has c =
    let size : length c.args.order ≡ 64 = search rules in
    first_found (member c.args.s) c.args.order c.loop-q.q-index (omega (arith, size)) (sym c.has.ensures ∙ c.if-has.true) ∙ c.loop-q.invariant

pub loop-q-preserved : goal.loop-q-preserved
loop-q-preserved c =
    let size : length c.args.order ≡ 64 = search rules in
    first_more (member c.args.s) c.args.order c.loop-q.q-index (omega (arith, size)) (sym c.has.ensures ∙ c.if-has.false) ∙ c.loop-q.invariant

pub returns : goal.returns
returns c =
    let size : length c.args.order ≡ 64 = search rules in
    first_end (member c.args.s) c.args.order c.loop-q.q-index (omega (arith, size)) ∙ c.loop-q.invariant
