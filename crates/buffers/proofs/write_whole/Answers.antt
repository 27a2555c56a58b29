-- The buffers' sizes are those of their types, and large enough.
use Rattle.std.proofs.Common.{arith}
use Rattle.buffers.proofs.HeldLaws.{read_whole, files_whole}
use Rattle.buffers.proofs.write_whole.Goals as goal

pub returns : goal.returns
returns c =
    let a = c.args in
    let w = read_whole a.cell.now a.order.now a.text.now _ a.n a.m _ c.write_first.ensures.bytes (omega arith) c.write_first.ensures.wrote in
    record { whole = w; by_index = files_whole a.cell.now a.order.now a.text.now _ a.n a.m _ (omega arith) (omega arith) w }
