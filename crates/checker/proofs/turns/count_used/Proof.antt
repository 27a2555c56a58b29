-- By whether one is left.
use mathlib.Core.Path.{sym}
use borrow.Author.Rules.{rules}
use borrow.Author.Tests.{lt-ltb, le-ltb}
use Rattle.checker.proofs.turns.count_used.Statement.{statement}
use Rattle.checker.proofs.turns.count_used.Tie as tie

pub count_used_spec : {M : Type 1} → statement M
count_used_spec = tie.close (tie.spec
    (λ c. search rules)
    (λ c. sym (rw (lt-ltb c.before.args.next c.before.args.count c.if-next-count.true)))
    (λ c. sym (rw (le-ltb c.before.args.next c.before.args.count c.if-next-count.false))))
