-- The first digit, and those after it.
use Rattle.parser.specs.Stretches
use Rattle.parser.proofs.StretchLaws.{stretch_first}
use Rattle.parser.proofs.stretch.number.Goals as goal

pub returns-then-is_digit : goal.returns-then-is_digit
returns-then-is_digit c = stretch_first _ _ _ c.if-i-s.true c.is_digit.ensures c.if-is_digit.true c.from.ensures c.digits.ensures

pub returns : goal.returns
returns c = Stretches.still
