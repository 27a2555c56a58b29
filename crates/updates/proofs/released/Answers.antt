-- Two stores, one after the other.
use Rattle.std.proofs.Common.{◌∙◌, get_or}
use Rattle.table.specs.Base.{upd}
use Rattle.updates.proofs.UpdateLaws.{store_tab}
use Rattle.updates.proofs.released.Goals as goal

pub returns : goal.returns
returns c = c.with_lock-2.ensures ∙ store_tab 0 (upd (λ j. get_or c.args.ls j 0) c.args.p 64) _ _ 64 c.with_lock.ensures
