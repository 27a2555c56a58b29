-- The change of the agent's stage where the call is a step, and the refusal where it is not.
use Rattle.std.proofs.Common.{sym, ap, ◌∙◌, ℕ, ◌%◌, get_or}
use Rattle.step.specs.Decided.{settling, settling_in, decided}
use Rattle.step.proofs.decide.Goals as goal

pub returns-then-is_step : goal.returns-then-is_step
unfolding decided
returns-then-is_step c =
    let a = c.args in
    rw (sym c.is_step.ensures ∙ c.if-is_step.true)
    (c.settled.ensures
    ∙ ap (λ (i : ℕ). settling c.stage_step-change.result a.agent a.seen.agent (get_or a.c.locks i 0)) (c.at-k.ensures ∙ ap (λ (q : ℕ). q % 64) c.wanted.ensures)
    ∙ ap (settling_in a.c a.agent a.seen.agent) c.stage_step-change.ensures)

pub returns : goal.returns
unfolding decided
returns c = rw (sym c.is_step.ensures ∙ c.if-is_step.false) c.refused.ensures
