-- What is read past the last lock is 0.
use Rattle.table.proofs.elements.with_lock.Goals as goal

pub returns : goal.returns
returns c = c.with_at.ensures 0
