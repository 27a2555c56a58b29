-- One field of a place, an agent or a cell written anew: by these, and by the empty values of table, the load and the step change a cell.
use Rattle.std.specs.Prelude.{ℕ, ◌+◌, Bool, cond, List}
use Rattle.table.specs.Base.{upd}
use Rattle.table.specs.Cell.{Land, State, none, has_action}
use Rattle.table.specs.declared.Name.{Name}
use Rattle.table.specs.declared.Place.{Place}
use Rattle.table.specs.declared.Action.{Action}
use Rattle.table.specs.declared.Agent.{Agent}

-- ---- a place

-- a place linked to its parent
abbrev pub linked_place : Name → ℕ → Place
linked_place name parent = record { name = name; parent = parent; way = 0 }

abbrev pub with_parent : Place → ℕ → Place
with_parent x p = record { name = x.name; parent = p; way = x.way }

abbrev pub with_way : Place → ℕ → Place
with_way x w = record { name = x.name; parent = x.parent; way = w }

-- ---- an agent

abbrev pub with_home : Agent → ℕ → Agent
with_home a h = record { home = h; stage = a.stage; remembered = a.remembered; chosen = a.chosen; next = a.next; count = a.count; actions = a.actions }

abbrev pub with_stage : Agent → ℕ → Agent
with_stage a s = record { home = a.home; stage = s; remembered = a.remembered; chosen = a.chosen; next = a.next; count = a.count; actions = a.actions }

abbrev pub with_remembered : Agent → ℕ → Agent
with_remembered a p = record { home = a.home; stage = a.stage; remembered = p; chosen = a.chosen; next = a.next; count = a.count; actions = a.actions }

abbrev pub with_chosen : Agent → ℕ → Agent
with_chosen a q = record { home = a.home; stage = a.stage; remembered = a.remembered; chosen = q; next = a.next; count = a.count; actions = a.actions }

abbrev pub with_next : Agent → ℕ → Agent
with_next a n = record { home = a.home; stage = a.stage; remembered = a.remembered; chosen = a.chosen; next = n; count = a.count; actions = a.actions }

abbrev pub with_count : Agent → ℕ → Agent
with_count a n = record { home = a.home; stage = a.stage; remembered = a.remembered; chosen = a.chosen; next = a.next; count = n; actions = a.actions }

abbrev pub with_actions : Agent → List Action → Agent
with_actions a s = record { home = a.home; stage = a.stage; remembered = a.remembered; chosen = a.chosen; next = a.next; count = a.count; actions = s }

-- "An agent remembers a place at stages 1 to 3 and 7, and a chosen place at stage 3 of enter and open; otherwise nothing": stage,
-- remembered and chosen place, 0 where there is none; a release agent that sleeps on no place remembers 64 (document 02, W11)
abbrev pub at_stage : Agent → ℕ → ℕ → ℕ → Agent
at_stage a stage remembered chosen = with_chosen (with_remembered (with_stage a stage) remembered) chosen

-- "the action is used up": where none is left there is nothing to use up
abbrev pub use_up : Agent → Agent
use_up a = with_next a (cond (has_action a) (a.next + 1) a.next)

-- ---- a cell

abbrev pub with_places : Land → (ℕ → Place) → Land
with_places l f = record { place = f; used = l.used; order = l.order }

abbrev pub with_used : Land → (ℕ → Bool) → Land
with_used l f = record { place = l.place; used = f; order = l.order }

abbrev pub with_order : Land → List ℕ → Land
with_order l row = record { place = l.place; used = l.used; order = row }

abbrev pub with_land : State → Land → State
with_land c l = record { land = l; lock = c.lock; agent = c.agent; given = c.given; touches = c.touches }

abbrev pub with_locks : State → (ℕ → ℕ) → State
with_locks c f = record { land = c.land; lock = f; agent = c.agent; given = c.given; touches = c.touches }

abbrev pub with_agents : State → (ℕ → Agent) → State
with_agents c f = record { land = c.land; lock = c.lock; agent = f; given = c.given; touches = c.touches }

abbrev pub with_given : State → (ℕ → Bool) → State
with_given c f = record { land = c.land; lock = c.lock; agent = c.agent; given = f; touches = c.touches }

abbrev pub with_touches : State → (ℕ → ℕ) → State
with_touches c f = record { land = c.land; lock = c.lock; agent = c.agent; given = c.given; touches = f }

-- agent x becomes a
abbrev pub with_agent : State → ℕ → Agent → State
with_agent c x a = with_agents c (upd c.agent x a)

-- the locks of p and q released; the same place twice where only one is held
abbrev pub released : (ℕ → ℕ) → ℕ → ℕ → ℕ → ℕ
released lock p q = upd (upd lock p none) q none
