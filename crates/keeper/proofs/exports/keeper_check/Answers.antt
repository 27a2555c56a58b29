-- The number of what is answered, told the truth of the cell.
use Rattle.std.proofs.Common.{ap, ◌∙◌, Bool, cond}
use Rattle.meaning.specs.Refusals.{unsound_table}
use Rattle.meaning.specs.Answers.{Sound, Unsound}
use Rattle.meaning.specs.Codes.{check_of, check_number}
use Rattle.keeper.proofs.exports.keeper_check.Goals as goal

pub returns : goal.returns
unfolding check_of
returns c = c.check_number.ensures ∙ ap check_number (c.checked.ensures ∙ ap (λ (b : Bool). cond b Sound (Unsound unsound_table)) c.sound_lent.ensures)
