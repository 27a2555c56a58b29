-- The word of a set is less without its lowest member.
use Rattle.std.proofs.Common.{rules, ◌<◌, arith}
use Rattle.sets.proofs.WalkLaws.{removed_less}
use Rattle.sets.proofs.SetIterator.next.Goals as goal

pub returns-then-self-ne0-clause-goes : goal.returns-then-self-ne0-clause-goes
returns-then-self-ne0-clause-goes c =
    let some : 0 < c.args.self.now.bits = omega arith in
    let less = removed_less c.args.self.now (search rules) some in
    record { on = λ h. (tt, tt, rw c.rest.ensures less); keeps = tt; rests = λ h. tt }
