-- A motion by its parts: the agents that it finds, the moving agent, and then the places.
use Rattle.std.specs.Prelude.{ℕ, ◌%◌, cond, List, ltb, get_or, set}
use Rattle.sets.specs.Set.{member}
use Rattle.sets.specs.declared.Set.{Set}
use Rattle.order.specs.Row.{later}
use Rattle.table.specs.Base.{tab}
use Rattle.table.specs.Cell.{none, no_place, no_agent, land_of, put_places, put_locks, put_agents, put_touches, put_order}
use Rattle.table.specs.declared.Agent.{Agent}
use Rattle.table.specs.declared.Cell.{Cell}
use Rattle.meaning.specs.Step.{child_of, dissolve_place, pooled}
use Rattle.moves.specs.declared.Motion.{Motion}
use Rattle.moving.specs.Turn.{agents_after}
use Rattle.moving.specs.Plan.{number_of, goal_of, waking_of, free_locks, plan_of}
use Rattle.moving.specs.declared.plan.Site.{Site}
use Rattle.moving.specs.declared.plan.Plan.{Plan}
use Rattle.moving.specs.declared.waking.Waking.{Waking}
use Rattle.moving.specs.declared.waking.Waking.TheVariants.{On, Opening}

-- what is asked of a cell where the place at k moves
abbrev pub site_at : Cell → ℕ → Site
site_at c k = record { place = get_or c.places k no_place; touches = get_or c.touches k 0; locks = c.locks; used = c.used; order = c.order }

-- who is woken in a cell, and what is planned for it: numbers are read masked by 64
abbrev pub waking_in : Cell → Agent → Motion → Waking
waking_in c a motion = waking_of a motion (get_or c.places (goal_of motion % 64) no_place) c.used

abbrev pub plan_in : Cell → Agent → Motion → Plan
plan_in c a motion = plan_of a motion (site_at c (number_of a motion % 64))

-- the cell once its agents were walked over
abbrev pub walked_by : Cell → Waking → Cell
walked_by c w = put_agents c (agents_after c w)

-- agent x becomes b; past 63 there is none
abbrev pub with_mover : Cell → ℕ → Agent → Cell
with_mover d x b = put_agents d (set d.agents (x % 64) (cond (ltb x 64) b (get_or d.agents (x % 64) no_agent)))

-- the locks once these holders let theirs go
abbrev pub held_locks : List ℕ → Set → Set → List ℕ
held_locks locks used holders = tab (λ q. cond (member used q) (cond (member holders (get_or locks q 0)) none (get_or locks q 0)) (get_or locks q 0)) 64 0

-- q is opened into p, and these holders let their locks go
abbrev pub opened_of : Cell → ℕ → ℕ → Set → Cell
opened_of d p q holders =
    put_order (put_touches (put_locks
    (put_places d (tab (λ j. cond (member d.used j) (dissolve_place p q j (get_or d.places j no_place)) (get_or d.places j no_place)) 64 0))
    (free_locks (held_locks d.locks d.used holders) p q))
    (tab (pooled (λ j. get_or d.touches j 0) p q) 64 0))
    (later (child_of (land_of d.places d.used d.order) q) d.order)

-- the place at k moves, or one is opened
abbrev pub settled_of : Waking → Cell → ℕ → Site → Set → Cell
settled_of (On p q r) d k s holders = put_order (put_touches (put_locks (put_places d (set d.places k s.place)) s.locks) (set d.touches k s.touches)) s.order
settled_of (Opening p q) d k s holders = opened_of d p q holders
