-- Two stores, one after the other: the sum at p, then 0 at t.
use Rattle.std.proofs.Common.{ℕ, ◌+◌, ◌%◌, ◌^◌, get_or, ◌∙◌, ap₂}
use Rattle.table.specs.Base.{tab, upd}
use Rattle.updates.proofs.UpdateLaws.{store_tab}
use Rattle.moves.proofs.open.pool.Goals as goal

pub returns : goal.returns
returns c =
    let a = c.args in
    c.with_touches-2.ensures
    ∙ store_tab 0 (upd (λ j. get_or a.ts j 0) a.p _) _ a.t 0 c.with_touches.ensures
    ∙ ap₂ (λ (x y : ℕ). tab (upd (upd (λ j. get_or a.ts j 0) a.p ((x + y) % 2 ^ 64)) a.t 0) 64 0) c.touches_of.ensures c.touches_of-2.ensures
