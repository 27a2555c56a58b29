-- What `checked` answers, told whether the cell is sound.
use Rattle.std.proofs.Common.{ap, ◌∙◌, Bool, cond}
use Rattle.meaning.specs.Refusals.{unsound_table}
use Rattle.meaning.specs.Answers.{Sound, Unsound}
use Rattle.meaning.specs.Codes.{check_of}
use Rattle.keeper.proofs.check.Goals as goal

pub returns : goal.returns
unfolding check_of
returns c = c.checked.ensures ∙ ap (λ (b : Bool). cond b Sound (Unsound unsound_table)) c.is_sound.ensures
