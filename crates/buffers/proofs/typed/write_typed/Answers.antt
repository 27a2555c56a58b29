-- The buffers' sizes are those of their types, and large enough.
use Rattle.std.proofs.Common.{arith}
use Rattle.buffers.proofs.TypedHeldLaws.{typed_whole, typed_orders}
use Rattle.buffers.proofs.typed.write_typed.Goals as goal

pub returns : goal.returns
returns c =
    let a = c.args in
    let w = typed_whole a.file.now a.order.now a.text.now _ a.n a.m _ c.write_first_typed.ensures.bytes (omega arith) c.write_first_typed.ensures.wrote in
    record { whole = w; by_index = typed_orders a.file.now a.order.now a.text.now _ a.n a.m _ (omega arith) w }
