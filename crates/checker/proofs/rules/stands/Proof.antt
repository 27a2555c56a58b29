-- Test by test.
use mathlib.Core.Path.{sym, ◌∙◌}
use borrow.Author.Rules.{rules}
use Rattle.checker.proofs.TestLaws.{stands_unused, stands_floor, stands_placed}
use Rattle.checker.proofs.rules.stands.Statement.{statement}
use Rattle.checker.proofs.rules.stands.Tie as tie

pub stands_spec : {M : Type 1} → statement M
stands_spec = tie.close (tie.spec
    (λ c κs. search rules)
    (λ c l n h x. stands_floor n h x c.before.before.before.args.p (sym c.before.before.has.ensures ∙ c.before.if-has.true) c.if-b-eq0.true)
    (λ c l n h x. stands_placed n h x c.before.before.before.before.args.p (sym c.before.before.before.has.ensures ∙ c.before.before.if-has.true) c.before.if-b-eq0.false)
    (λ c l n h x. stands_unused n h x c.before.before.args.p (sym c.before.has.ensures ∙ c.if-has.false)))
