-- Part i is put in at its rank among those before it.
use Rattle.std.proofs.Common.{◌≡◌, List, ℕ, ◌+◌, ◌-◌, ◌<◌, sym, subst, arith}
use Rattle.lister.specs.Cuts.{Ordering}
use Rattle.lister.proofs.RankLaws.{order_start, order_more}
use Rattle.lister.proofs.RewriteLaws.{inside_less}
use Rattle.lister.proofs.parts.order.Goals as goal

pub loop-i-init : goal.loop-i-init
loop-i-init c = order_start c.requires.1

pub rank-at-requires : goal.rank-at-requires
rank-at-requires c = (inside_less (c.loop-i.i + 1) (omega (arith, c.loop-i-test.true)) c.requires.0, c.loop-i.invariant.sorts)

pub overflow_add-moved : goal.overflow_add-moved
overflow_add-moved c =
    let h : c.loop-i.i < 64 = omega (arith, c.requires.0.few, c.loop-i-test.true) in
    omega (arith, c.loop-i.invariant.few)

pub loop-i-preserved : goal.loop-i-preserved
loop-i-preserved c =
    let l = c.loop-i in
    let r = c.rank-at in
    let h : l.i < 64 = omega (arith, c.requires.0.few, c.loop-i-test.true) in
    subst (λ (x : List ℕ). Ordering c.args.ends.now c.args.buf.now (l.i + 1) x (l.moved + (l.i - r.result))) (sym c.put_in.ensures)
    (order_more l.invariant.sorts h r.ensures l.invariant)

pub returns : goal.returns
returns c =
    let l = c.loop-i in
    let e : l.i ≡ c.args.many = omega arith in
    subst (λ (n : ℕ). Ordering c.args.ends.now c.args.buf.now n l.row l.moved) e l.invariant
