-- Before turn i the first i bytes are written, as they are shown, over the start of the part.
use Rattle.std.proofs.Common.{[], arith}
use Rattle.std.proofs.lemmas.List.{length-map}
use Rattle.text.proofs.TextLaws.{bytes_none, least_le}
use Rattle.language.specs.TypedReport.{shown}
use Rattle.report.proofs.TypedLaws.{filled, shown_more}
use Rattle.report.proofs.typed.write_shown.Goals as goal

pub loop-i-init : goal.loop-i-init
loop-i-init c = bytes_none [] _

pub bounds-t-i : goal.bounds-t-i
bounds-t-i c = let h = least_le _ _ _ c.least-i-end.ensures in omega (arith, h.0, c.loop-i-test.true)

pub bounds-buf-i : goal.bounds-buf-i
bounds-buf-i c = let h = least_le _ _ _ c.least-i-end.ensures in omega (arith, h.1, c.loop-i-test.true, c.loop-i.auto.buf)

pub loop-i-preserved : goal.loop-i-preserved
loop-i-preserved c =
    let h = least_le _ _ _ c.least-i-end.ensures in
    shown_more c.args.t.now c.args.buf.now c.loop-i.buf c.loop-i.i _ (omega (arith, h.0, c.loop-i-test.true)) (omega (arith, h.1, c.loop-i-test.true))
    c.loop-i.invariant c.shown_byte.ensures

pub returns : goal.returns
returns c = filled _ (length-map c.args.t.now shown) c.least-i-end.ensures c.loop-i-test.false c.loop-i.invariant c.plus.ensures
