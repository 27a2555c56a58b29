-- The buffers' sizes are those of their types, and large enough.
use Rattle.std.proofs.Common.{take, arith}
use Rattle.trail.specs.Trail.{finding}
use Rattle.auditing.proofs.CountedLaws.{line_whole, files_found}
use Rattle.auditing.proofs.write_audit.Goals as goal

pub returns : goal.returns
returns c =
    let a = c.args in
    let w = line_whole (finding (take a.n a.cell.now) (take a.m a.trail.now) (take a.k a.last.now)) a.text.now _ _ (omega arith) c.write_first.ensures in
    record { whole = w; by_index = files_found a.cell.now (take a.m a.trail.now) (take a.k a.last.now) a.text.now _ a.n _ (omega arith) w }
