-- The set of p with x put into it, where there is one.
use Rattle.std.proofs.Common.{lt-ltb, le-ltb}
use Rattle.lister.specs.Listed.{filed}
use Rattle.lister.proofs.found.file.Goals as goal

pub returns-then-p-lt64 : goal.returns-then-p-lt64
unfolding filed
returns-then-p-lt64 c = let l = c.if-p-lt64.true in let i = c.insert.ensures in rw lt-ltb (rw i)

pub returns-else-p-lt64 : goal.returns-else-p-lt64
unfolding filed
returns-else-p-lt64 c = let l = c.if-p-lt64.false in rw le-ltb
