-- The walk over the agents that are given, which tells whom a motion would wake, as a program goes about it.
use Rattle.std.specs.Prelude.{true, false, ◌&&◌, cond, eqb}
use Rattle.sets.specs.Set.{member, inserted_if, removed}
use Rattle.sets.specs.Walk.{lowest_in}
use Rattle.sets.specs.declared.Set.{Set}
use Rattle.table.specs.Cell.{none}
use Rattle.table.specs.declared.Place.{Place}
use Rattle.table.specs.declared.Agent.{Agent}
use Rattle.moves.specs.declared.Motion.{Motion}
use Rattle.moves.specs.declared.Motion.TheVariants.{Leave, Arrive, Dissolve, Put}
use Rattle.walked.specs.Turns.{Waking, wakes, standing_at, start_of}

-- before the first: `to` is the place that the motion links to
abbrev pub before_of : Set → Set → Agent → Motion → Place → Waking
before_of given used a (Leave d) to = start_of given false a.remembered a.home a.home
before_of given used a (Arrive d) to = start_of given false a.home d (cond (member used d && eqb to.way 0) to.parent d)
before_of given used a Dissolve to = start_of given true a.remembered a.chosen none
before_of given used a (Put n) to = start_of given false a.remembered a.remembered a.remembered

-- the next agent is passed
abbrev pub passed_of : Waking → Agent → Waking
passed_of w a =
    standing_at w.opens w.p w.q w.r (removed w.rest (lowest_in w.rest))
    (inserted_if w.sleepers w.at (wakes w.opens w.p w.q w.r a)) w.holders
