-- By whether the agent is given and its move is allowed.
use Rattle.std.proofs.Common.{sym, ap, ◌∙◌}
use Rattle.table.specs.Cell.{cell_of}
use Rattle.checker.specs.declared.Turn.TheVariants.{Deny}
use Rattle.checker.proofs.TurnLaws.{seen, turn_absent, turn_allowed, turn_denied}
use Rattle.checker.proofs.turns.turn_of.Goals as goal

pub returns-then-not-has : goal.returns-then-not-has
returns-then-not-has c = λ t r s. turn_absent t r c.args.x c.args.b s (sym c.has.ensures ∙ c.if-not-has.true)

pub returns-then-allowed : goal.returns-then-allowed
returns-then-allowed c = λ t r s.
    let a = c.args in
    let g = sym c.has.ensures ∙ c.if-not-has.false in
    c.turn_by.ensures ∙ turn_allowed t r a.x a.b s g c.next_action-n.result c.next_action-n.ensures
    (sym (c.allowed.ensures (cell_of t).land (seen t r a.x a.b s g)) ∙ c.if-allowed.true)

pub returns-else-allowed : goal.returns-else-allowed
returns-else-allowed c = λ t r s.
    let a = c.args in
    let g = sym c.has.ensures ∙ c.if-not-has.false in
    ap Deny c.why_not.ensures ∙ turn_denied t r a.x a.b s g c.next_action-n.result c.next_action-n.ensures
    (sym (c.allowed.ensures (cell_of t).land (seen t r a.x a.b s g)) ∙ c.if-allowed.false)
