-- The two bytes of the window after the clear, stored, give that window.
use Rattle.window.proofs.StoredLaws.{clear_stored}
use Rattle.keeper.proofs.card.keeper_clear.Goals as goal

pub returns : goal.returns
returns c = clear_stored c.args.window.now c.args.ones c.clear-v.result c.clear-v.ensures
