-- At every other state the text stops early.
use Rattle.parser.proofs.CodeLaws.{no_last}
use Rattle.parser.proofs.finish.last.Goals as goal

pub returns-in_default : goal.returns-in_default
returns-in_default c = no_last _ _ c.in_default.not-Bare c.in_default.not-After c.in_default.not-Digits
