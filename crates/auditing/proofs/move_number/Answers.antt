-- By the test, which is the definition's.
use Rattle.std.proofs.Common.{refl}
use Rattle.std.proofs.lemmas.Bool.{lt-ltb, le-ltb}
use Rattle.trail.specs.AuditLine.{move_number}
use Rattle.auditing.proofs.move_number.Goals as goal

pub returns-then-reason-lt3 : goal.returns-then-reason-lt3
unfolding move_number
returns-then-reason-lt3 c = rw (lt-ltb _ _ c.if-reason-lt3.true) refl

pub returns-else-reason-lt3 : goal.returns-else-reason-lt3
unfolding move_number
returns-else-reason-lt3 c = rw (le-ltb _ _ c.if-reason-lt3.false) refl
