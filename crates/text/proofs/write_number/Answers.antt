-- Twenty digits hold every number; the position that was handed over is added.
use Rattle.text.proofs.TextLaws.{moved}
use Rattle.text.proofs.write_number.Goals as goal

pub returns : goal.returns
returns c = moved c.write_digits.ensures c.plus.ensures
