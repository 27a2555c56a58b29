-- The first part starts at 0, and any other after a bar.
use Rattle.std.proofs.Common.{refl}
use Rattle.lister.proofs.PutLaws.{start_none, start_more}
use Rattle.lister.proofs.parts.start.Goals as goal

pub returns-then-i-eq0 : goal.returns-then-i-eq0
returns-then-i-eq0 c = start_none _ _ c.if-i-eq0.true

pub returns : goal.returns
returns c = start_more _ _ c.if-i-eq0.false refl
