-- A number goes on with a digit, and ends with any other byte.
use Rattle.std.proofs.Common.{sym, ◌∙◌}
use Rattle.parser.proofs.CodeLaws.{next_follow, next_digit}
use Rattle.parser.proofs.machine.next_by.Goals as goal

pub returns-in-Some : goal.returns-in-Some
returns-in-Some c = rw c.in-Digits.is (next_digit _ _ _ _ _ (sym c.in-Some.is ∙ c.more_digits.ensures))

pub returns-in-None : goal.returns-in-None
returns-in-None c = rw c.in-Digits.is (next_follow _ _ _ _ _ (sym c.in-None.is ∙ c.more_digits.ensures) c.follow_by.ensures)
