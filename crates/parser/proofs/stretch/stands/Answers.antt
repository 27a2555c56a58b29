-- Before each turn the bytes so far are those of the word.
use Rattle.std.proofs.Common.{arith}
use Rattle.parser.proofs.StretchLaws.{alike_more}
use Rattle.parser.proofs.stretch.stands.Goals as goal

pub loop-j-preserved : goal.loop-j-preserved
loop-j-preserved c =
    let a = c.args in
    (c.loop-j.invariant.0, alike_more a.s.now a.w.now a.i c.loop-j.j c.loop-j.invariant.1 c.if-s-i.false)
