-- What the load answered decides: the moves are made, or there is a refusal.
use Rattle.std.proofs.Common.{refl}
use Rattle.checker.proofs.JudgeLaws.{accepted_ready, plays_on, plays_not}
use Rattle.checker.proofs.play.Goals as goal

pub run-requires : goal.run-requires
run-requires c = (accepted_ready _ _ c.load-l.result c.load-l.ensures c.in-Ok.is, c.requires)

pub returns-in-Ok : goal.returns-in-Ok
returns-in-Ok c = plays_on _ _ c.load-l.result c.load-l.ensures _ _ _ c.in-Ok.is c.run.ensures.0 c.run.ensures.1

pub returns-in-Err : goal.returns-in-Err
returns-in-Err c = plays_not _ _ c.load-l.result c.load-l.ensures _ _ _ c.in-Err.rejection.number c.in-Err.rejection.offset c.in-Err.is refl
