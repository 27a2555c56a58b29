-- The cell is that after the command; the four bytes of the window after it, stored, give that window.
use Rattle.window.proofs.StoredLaws.{command_stored}
use Rattle.keeper.proofs.card.keeper_command.Goals as goal

pub returns : goal.returns
returns c = (c.commanded-w.ensures.0, command_stored c.args.cell.now c.args.window.now c.commanded-w.result c.commanded-w.ensures.1)
