-- What is decided of the agent and the lock that were read is what is decided of the cell.
use Rattle.std.proofs.Common.{sym, ap, ◌∙◌, rules, ℕ, ◌%◌}
use Rattle.step.proofs.CarryLaws.{step_decided, none_decided}
use Rattle.keeper.proofs.steps.decided.Goals as goal

pub returns-then-is_step : goal.returns-then-is_step
returns-then-is_step c =
    let a = c.args in record {
      decision = c.settled.ensures
          ∙ step_decided a.cell.now a.agent a.wish c.sound_lent-s.result c.sound_lent-s.ensures c.at-own.result c.at-own.ensures
          (sym c.is_step.ensures ∙ c.if-is_step.true) c.changed-change.result c.changed-change.ensures c.at-k.result
          (c.at-k.ensures ∙ ap (λ (q : ℕ). q % 64) c.wanted.ensures);
      sizes = record { places = search rules; locks = search rules; agents = search rules; used = search rules; given = search rules; touches = search rules };
    }

pub returns : goal.returns
returns c =
    let a = c.args in record {
      decision = c.refused.ensures
          ∙ none_decided a.cell.now a.agent a.wish c.sound_lent-s.result c.sound_lent-s.ensures c.at-own.result c.at-own.ensures
          (sym c.is_step.ensures ∙ c.if-is_step.false);
      sizes = record { places = search rules; locks = search rules; agents = search rules; used = search rules; given = search rules; touches = search rules };
    }
