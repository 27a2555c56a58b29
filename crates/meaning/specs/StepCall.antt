-- The step call (document 01, "Turned-away calls" and "One step"): a step of an agent on a table, with its refusals.
use Rattle.std.specs.Prelude.{ℕ, cond}
use Rattle.table.specs.Cell.{cell_of, table_of}
use Rattle.table.specs.Sound.{sound}
use Rattle.table.specs.declared.Cell.{Cell}
use Rattle.meaning.specs.Answers.{Did, Refused}
use Rattle.meaning.specs.declared.Stepped.{Stepped}
use Rattle.meaning.specs.Refusals.{unsound_table, no_such_agent}
use Rattle.meaning.specs.Step.{Outcome, step}

-- a step that was made, as the call answers it
unfoldable pub made : Outcome → Stepped
made o = record { cell = table_of o.cell; answer = Did o.word o.woken }

-- a refusal changes nothing
unfoldable pub turned_away : Cell → ℕ → Stepped
turned_away t number = record { cell = t; answer = Refused number }

-- the step call on a table: "Calls on a table test 10 first, then 11"
unfoldable pub step_of : Cell → ℕ → ℕ → Stepped
step_of t agent wish =
    cond (sound (cell_of t))
    (cond ((cell_of t).given agent) (made (step (cell_of t) agent wish)) (turned_away t no_such_agent))
    (turned_away t unsound_table)
