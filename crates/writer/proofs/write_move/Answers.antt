-- Whether it is a move, and whether there is room, decides.
use Rattle.std.proofs.Common.{sym, ◌∙◌, arith}
use Rattle.writer.proofs.WriteLaws.{no_move, no_room, room}
use Rattle.writer.proofs.write_move.Goals as goal

pub returns-then-not-tells_move : goal.returns-then-not-tells_move
returns-then-not-tells_move c = no_move _ _ _ (sym c.tells_move.ensures ∙ c.if-not-tells_move.true)

pub returns-then-trail-lt2 : goal.returns-then-trail-lt2
returns-then-trail-lt2 c = no_room _ _ _ (sym c.tells_move.ensures ∙ c.if-not-tells_move.false) c.if-trail-lt2.true

pub returns : goal.returns
returns c = room _ _ _ (sym c.tells_move.ensures ∙ c.if-not-tells_move.false) (omega (arith, c.if-trail-lt2.false))
