-- A motion is the shift's promise; without one the agent and the locks are stored.
use Rattle.std.proofs.Common.{rules, sym, ◌∙◌, ap, ap₂, List, ℕ, get_or, set}
use Rattle.table.specs.Cell.{cell_of, no_agent, put_locks, put_agents}
use Rattle.table.specs.declared.Agent.{Agent}
use Rattle.meaning.specs.Run.{made}
use Rattle.meaning.specs.Update.{at_stage}
use Rattle.moves.specs.Motions.{shifted}
use Rattle.step.specs.Decided.{carried_by, carried_out}
use Rattle.step.proofs.CarryLaws.{locks_put}
use Rattle.step.proofs.carry_out.Goals as goal

pub returns-in-Some : goal.returns-in-Some
unfolding carried_out
returns-in-Some c =
    let s = c.args in
    (λ i. record { cell = c.shift_lent-answer.ensures.0 i; answer = c.shift_lent-answer.ensures.1 i })
    ∙ ap (λ (k : ℕ). made (shifted (cell_of s.c) s.agent (get_or s.c.agents k no_agent) c.in-Some.motion)) c.at-k.ensures
    ∙ sym (ap (carried_by s.c s.agent s.d) c.in-Some.is)

pub returns : goal.returns
unfolding carried_out
returns c =
    let s = c.args in
    ap₂ (λ (b : Agent) (ls : List ℕ). record { cell = put_locks (put_agents s.c (set s.c.agents c.at-k.result b)) ls; answer = s.d.answer })
    c.at_stage.ensures
    (locks_put s.c.locks c.with_lock-first.result c.with_lock-cell.result s.d.first s.d.second s.d.lock (search rules) c.with_lock-first.ensures c.with_lock-cell.ensures)
    ∙ ap (λ (i : ℕ). record {
      cell = put_locks (put_agents s.c (set s.c.agents i (at_stage (get_or s.c.agents i no_agent) s.d.stage s.d.remembered s.d.choice))) (set (set s.c.locks s.d.first s.d.lock) s.d.second s.d.lock);
      answer = s.d.answer;
    })
    c.at-k.ensures
    ∙ sym (ap (carried_by s.c s.agent s.d) c.in_default.is)
