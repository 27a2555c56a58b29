-- By the kind of the agent's next action.
use mathlib.Core.Path.{sym, ap, ◌∙◌}
use borrow.Author.Rules.{rules}
use Rattle.sets.specs.Set.{member}
use Rattle.table.specs.declared.Action.{Action}
use Rattle.checker.proofs.TestLaws.{motion_open, motion_release}
use Rattle.checker.proofs.making.motion_of.Statement.{statement}
use Rattle.checker.proofs.making.motion_of.Tie as tie

pub motion_of_spec : {M : Type 1} → statement M
motion_of_spec = tie.close (tie.spec
    (λ c κs. search rules)
    (λ c. let n = c.before.before in
    let a = n.before.args in
    motion_open (member a.used) a.a (sym (ap (λ (y : Action). y.kind) n.next_action-n.ensures) ∙ c.if-n-eq3.true))
    (λ c κs. search rules)
    (λ c. let n = c.before.before.before in
    let a = n.before.args in
    motion_release (member a.used) a.a (λ e. c.before.if-n-eq3.false (ap (λ (y : Action). y.kind) n.next_action-n.ensures ∙ e))
    c.fresh_number-q.result c.fresh_number-q.ensures))
