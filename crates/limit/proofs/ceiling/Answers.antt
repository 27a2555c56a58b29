-- What is known, told what `is_sound` and `moves_left` answered, is the answer.
use Rattle.std.proofs.Common.{◌∙◌}
use Rattle.limit.proofs.LimitLaws.{ceiling_told}
use Rattle.limit.proofs.ceiling.Goals as goal

pub returns : goal.returns
returns c = c.ceiling_known.ensures ∙ ceiling_told _ _ _ c.is_sound.ensures c.moves_left.ensures
