-- Before turn i the first i blanks are written over the start of the part.
use Rattle.std.proofs.Common.{ℕ, [], arith}
use Rattle.std.proofs.lemmas.List.{length-replicate}
use Rattle.text.proofs.TextLaws.{bytes_none, least_le}
use Rattle.report.proofs.TypedLaws.{filled, blanks_more}
use Rattle.report.proofs.typed.write_blanks.Goals as goal

pub loop-i-init : goal.loop-i-init
loop-i-init c = bytes_none [] _

pub bounds-buf-i : goal.bounds-buf-i
bounds-buf-i c = let h = least_le _ _ _ c.least-i-end.ensures in omega (arith, h.1, c.loop-i-test.true, c.loop-i.auto.buf)

pub loop-i-preserved : goal.loop-i-preserved
loop-i-preserved c =
    let h = least_le _ _ _ c.least-i-end.ensures in
    blanks_more c.args.count c.loop-i.i c.args.buf.now c.loop-i.buf (omega (arith, h.0, c.loop-i-test.true)) (omega (arith, h.1, c.loop-i-test.true))
    c.loop-i.invariant

pub returns : goal.returns
returns c = filled _ (length-replicate {A = ℕ} c.args.count 32) c.least-i-end.ensures c.loop-i-test.false c.loop-i.invariant c.plus.ensures
