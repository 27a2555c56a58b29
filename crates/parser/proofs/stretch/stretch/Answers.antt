-- After a digit more of them.
use Rattle.parser.specs.Stretches
use Rattle.parser.proofs.stretch.stretch.Goals as goal

pub returns-in-Digits : goal.returns-in-Digits
returns-in-Digits c = rw c.in-Digits.is c.digits.ensures

pub returns : goal.returns
returns c = Stretches.still
