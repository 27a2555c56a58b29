-- Each row is its own function's promise; the locks are let go first by the holders, and then those of the two places are.
use Rattle.std.proofs.Common.{List, ℕ, ap, ◌∙◌}
use Rattle.table.specs.Cell.{put_places, put_locks, put_touches, put_order}
use Rattle.moving.specs.Plan.{free_locks}
use Rattle.moving.proofs.shifts.opened.Goals as goal

pub returns : goal.returns
returns c =
    let locks = c.released-locks.ensures ∙ ap (λ (l : List ℕ). free_locks l c.args.p c.args.q) c.free_held-held.ensures in
    λ i. put_order (put_touches (put_locks (put_places c.args.cell.now (c.adopt-places.ensures i)) (locks i)) (c.pool-touches.ensures i)) (c.freed-order.ensures i)
