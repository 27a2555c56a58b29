-- Before each turn the digits so far have been read.
use Rattle.std.proofs.Common.{sym, ◌∙◌}
use Rattle.parser.specs.Stretches
use Rattle.parser.proofs.StretchLaws.{stretch_digit}
use Rattle.parser.proofs.stretch.digits.Goals as goal

pub loop-i-init : goal.loop-i-init
loop-i-init c = Stretches.still

pub loop-i-preserved : goal.loop-i-preserved
loop-i-preserved c =
    stretch_digit c.args.f c.loop-i.v _ c.loop-i.invariant c.loop-i-test.true (sym c.in-Some.is ∙ c.more_digits.ensures)
