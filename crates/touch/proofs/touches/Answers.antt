-- What is known, told what `is_sound` answered, is the answer.
use Rattle.std.proofs.Common.{◌∙◌}
use Rattle.touch.proofs.KnownLaws.{touches_told}
use Rattle.touch.proofs.touches.Goals as goal

pub returns : goal.returns
returns c = c.touches_known.ensures ∙ touches_told _ _ _ c.is_sound.ensures
