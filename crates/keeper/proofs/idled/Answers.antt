-- By what it is told.
use Rattle.std.proofs.Common.{refl}
use Rattle.keeper.specs.Known.{known_idle}
use Rattle.keeper.proofs.Known.{rest_told}
use Rattle.keeper.proofs.idled.Goals as goal

pub returns-then-known : goal.returns-then-known
unfolding known_idle
returns-then-known c = rw c.if-known.true (rest_told _)

pub returns-else-known : goal.returns-else-known
unfolding known_idle
returns-else-known c = rw c.if-known.false refl
