-- By the kind.
use Rattle.std.proofs.Common.{arith}
use Rattle.checker.proofs.TestLaws.{turn_enter, turn_exit, turn_other}
use Rattle.checker.proofs.turns.turn_by.Goals as goal

pub returns-in-1 : goal.returns-in-1
returns-in-1 c = turn_enter c.args.kind c.args.beyond c.args.b (omega (arith, c.in-1.is))

pub returns-in-2 : goal.returns-in-2
returns-in-2 c = turn_exit c.args.kind c.args.beyond c.args.b (λ k. omega (arith, k, c.in-2.is)) (omega (arith, c.in-2.is))

pub returns-in_default : goal.returns-in_default
returns-in_default c = turn_other c.args.kind c.args.beyond c.args.b (λ k. omega (arith, k)) (λ k. omega (arith, k))
