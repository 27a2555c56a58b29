-- A motion by its parts: the agents that it finds, the moving agent, and then the places.
use Rattle.std.specs.Prelude.{ℕ, ◌%◌, cond, ltb, get_or, set}
use Rattle.sets.specs.Word.{count_of}
use Rattle.sets.specs.Set.{member}
use Rattle.table.specs.Cell.{no_place, no_agent, put_places, put_locks, put_agents, put_used, put_touches, put_order}
use Rattle.table.specs.declared.Agent.{Agent}
use Rattle.table.specs.declared.Cell.{Cell}
use Rattle.meaning.specs.Answers.{Answer, Did}
use Rattle.moves.specs.declared.Motion.{Motion}
use Rattle.moving.specs.Plan.{number_of, goal_of}
use Rattle.walked.specs.Turns.{Waking, agents_after, end_of}
use Rattle.walked.specs.Plans.{Plan, plan_of}
use Rattle.walked.specs.Rows.{Rows, rows_of}

-- what is planned for a cell: numbers are read masked by 64
abbrev pub plan_in : Cell → Agent → Motion → Plan
plan_in c a motion =
    plan_of a motion (get_or c.places (number_of a motion % 64) no_place) (get_or c.places (goal_of motion % 64) no_place)
    (get_or c.touches (number_of a motion % 64) 0) c.locks c.used c.order

-- the cell once its agents were walked over
abbrev pub walked_by : Cell → Plan → Cell
walked_by c m = put_agents c (agents_after c m.opens m.p m.q m.r)

-- and the walk at its end
abbrev pub walk_of : Cell → Plan → Waking
walk_of c m = end_of c m.opens m.p m.q m.r

-- agent x becomes the planned one; past 63 there is none
abbrev pub with_mover : Cell → ℕ → Plan → Cell
with_mover d x m = put_agents d (set d.agents (x % 64) (cond (ltb x 64) m.agent (get_or d.agents (x % 64) no_agent)))

-- the place at k moves
abbrev pub moved_on : Cell → ℕ → Plan → Cell
moved_on d k m = put_order (put_touches (put_used (put_locks (put_places d (set d.places k m.place)) m.locks) m.used) (set d.touches k m.count)) m.order

-- the rows once a place is opened
abbrev pub rows_in : Cell → Plan → Waking → Rows
rows_in d m w = rows_of d.places d.locks d.touches d.order d.used m.p m.q w.holders

-- and the cell with them
abbrev pub opened_of : Cell → Plan → Waking → Cell
opened_of d m w =
    put_used (put_order (put_touches (put_locks (put_places d (rows_in d m w).places) (rows_in d m w).locks) (rows_in d m w).touches) (rows_in d m w).order) m.used

-- what is answered
abbrev pub answer_of : Plan → Waking → Answer
answer_of m w = Did m.word (count_of 64 (member w.sleepers))
