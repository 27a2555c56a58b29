-- What a motion makes of a cell: the step in which a place moves.
use Rattle.std.specs.Prelude.{ℕ, ◌&&◌}
use Rattle.sets.specs.Word.{count_of}
use Rattle.table.specs.Cell.{State}
use Rattle.table.specs.declared.Agent.{Agent}
use Rattle.meaning.specs.Step.{Outcome, leave, arrive, dissolve, put, woken_on, woken_by, beyond}
use Rattle.moves.specs.declared.Motion.{Motion}
use Rattle.moves.specs.declared.Motion.TheVariants.{Leave, Arrive, Dissolve, Put}

-- what a motion of agent x, which is a, makes of a cell
abbrev pub shifted : State → ℕ → Agent → Motion → Outcome
shifted c x a (Leave d) = leave c x a d
shifted c x a (Arrive d) = arrive c x a d
shifted c x a Dissolve = dissolve c x a a.remembered a.chosen
shifted c x a (Put q) = put c x a q

-- how many agents it wakes
abbrev pub woken_in : State → Agent → Motion → ℕ
woken_in c a (Leave d) = woken_on c a.remembered a.home a.home
woken_in c a (Arrive d) = woken_on c a.home d (beyond c.land d)
woken_in c a Dissolve = count_of 64 (λ y. c.given y && woken_by a.remembered a.chosen (c.agent y))
woken_in c a (Put q) = woken_on c a.remembered a.remembered a.remembered
