-- No number but an action's ends a text.
use Rattle.parser.proofs.CodeLaws.{no_last_number}
use Rattle.parser.proofs.finish.last_number.Goals as goal

pub returns-in_default : goal.returns-in_default
returns-in_default c = no_last_number _ _ _ c.in_default.not-ActionNumber
