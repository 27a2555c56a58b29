-- When a table is sound (document 01, refusal 10), read on what is in use.
-- "A table is sound when: the floor is as above and unlocked or held by a rule below; every parent, destination, home and
-- remembered place is in use; names, actions and stages are in range; following parents or destinations leads each place to the
-- floor; a place on its way has exactly one of its agents at stages 4 to 6, the floor and a linked place none; each lock is held
-- just by the agent whose stage says so; an agent at stage 3 has its place, and for enter its chosen place too, linked under the
-- held parent (open: its target linked under its home); an agent at stages 0 to 3 or 7 has an action left, one at 8 has none; an
-- opener at stages 1 to 3 remembers its home." "In soundness a release agent is held to the opener's rule and is never at stage 3; asleep it,
-- and no other agent, may remember no place" (document 02, W11).
use Rattle.std.specs.Prelude.{ℕ, Bool, true, false, not, ◌&&◌, ◌||◌, cond, ltb, leb, eqb, get_or}
use Rattle.order.specs.Row.{row_fits}
use Rattle.table.specs.Base.{all_below, any_below, count_below, sum_below, iter}
use Rattle.table.specs.Cell.{looking, holding, holding_both, on_way, on_way_own, on_way_both, asleep, done}
use Rattle.table.specs.Cell.{no_action, none, Land, State, has_action, kind_of, linked_to, enter_kind, exit_kind, open_kind, release_kind, last_kind, looks_home}
use Rattle.table.specs.declared.Action.{Action}
use Rattle.table.specs.declared.Agent.{Agent}
use Rattle.table.specs.declared.Name.{Name}
use Rattle.table.specs.declared.Place.{Place}

-- ---- actions in range

-- an action is a kind 1 to 4 and a name that is not 0
abbrev pub action_fits : Action → Bool
action_fits x = leb 1 x.kind && (leb x.kind last_kind && leb 1 x.name)

-- the action at j is in range, if it is one of the unused ones
abbrev pub action_at : Agent → ℕ → Bool
action_at a j = cond (ltb j a.next) true (cond (ltb j a.count) (action_fits (get_or a.actions j no_action)) true)

-- the unused actions are in range, and no more than sixteen were given
unfoldable pub actions_fit : Agent → Bool
actions_fit a = leb a.next a.count && (leb a.count 16 && all_below (action_at a) 16)

-- ---- stages

-- a release agent asleep that remembers no place
abbrev pub sleeps_nowhere : Agent → Bool
sleeps_nowhere a = eqb a.remembered none && (eqb a.stage asleep && eqb (kind_of a) release_kind)

-- "every .. remembered place is in use": the place that the agent remembers is one of these; "asleep it, and no other agent, may remember no
-- place"
abbrev pub remembers : (ℕ → Bool) → Agent → Bool
remembers used a = cond (used a.remembered) true (sleeps_nowhere a)

-- an agent that remembers a place in use and has an action left; "an opener at stages 1 to 3 remembers its home", a release agent too
unfoldable pub ready : Bool → Bool → Bool → ℕ → Bool
ready some known same kind = some && (known && cond (looks_home kind) same true)

-- "an agent at stage 3 has its place, and for enter its chosen place too, linked under the held parent (open: its target)"; a release agent
-- "is never at stage 3"
unfoldable pub holds_both : ℕ → Bool → Bool → Bool
holds_both kind here there = cond (eqb kind enter_kind) (here && there) (cond (eqb kind exit_kind) here (eqb kind open_kind && there))

-- what each stage asks. some: an action is left; known: the remembered place is in use, or none is remembered where that
-- may be; same: it is the home; here, there: the home and the chosen place are linked to it
unfoldable pub stage_fits : ℕ → Bool → Bool → Bool → ℕ → Bool → Bool → Bool
stage_fits s some known same kind here there =
    cond (eqb s looking) some
    (cond (leb s holding) (ready some known same kind)
    (cond (leb s holding_both) (ready some known same kind && holds_both kind here there)
    (cond (leb s on_way_both) true
    (cond (leb s asleep) (some && known)
    (cond (leb s done) (not some) false)))))

-- ---- locks

-- the place whose lock the agent took first, by its stage: the remembered place at 2 and 3, its home at 5 and 6
unfoldable pub first_held : Agent → ℕ
first_held a =
    cond (ltb a.stage holding) none
    (cond (leb a.stage holding_both) a.remembered
    (cond (ltb a.stage on_way_own) none
    (cond (leb a.stage on_way_both) a.home none)))

-- "The second place is the agent's own for enter and exit, the chosen one for open"
abbrev pub second_place : ℕ → ℕ → ℕ → ℕ
second_place kind home chosen = cond (eqb kind open_kind) chosen home

-- the place whose lock it took second: the second place at stage 3, the destination at stage 6
unfoldable pub second_held : Agent → ℕ → ℕ → ℕ
second_held a kind destination =
    cond (eqb a.stage holding_both) (second_place kind a.home a.chosen) (cond (eqb a.stage on_way_both) destination none)

-- where a place in use stands
abbrev pub stands_in : Land → ℕ → ℕ
stands_in l q = cond (l.used q) (l.place q).parent none

abbrev pub second_held_in : State → Agent → ℕ
second_held_in c a = second_held a (kind_of a) (stands_in c.land a.home)

-- the lock of q, if q is any, is x's
unfoldable pub lock_is : State → ℕ → ℕ → Bool
lock_is c x q = cond (eqb q none) true (c.land.used q && eqb (c.lock q) x)

-- x's stage says that it holds the lock of q
unfoldable pub claims : State → ℕ → ℕ → Bool
claims c q x = c.given x && (eqb q (first_held (c.agent x)) || eqb q (second_held_in c (c.agent x)))

-- ---- agents

-- its stage has what it asks
abbrev pub stage_sound : Land → Agent → Bool
stage_sound l a = stage_fits a.stage (has_action a) (remembers l.used a) (eqb a.remembered a.home) (kind_of a)
    (linked_to l a.home a.remembered) (linked_to l a.chosen a.remembered)

-- an agent with its number x: home in use, actions and stage as they should be, what its stage holds locked by it
unfoldable pub agent_fits : State → ℕ → Agent → Bool
agent_fits c x a =
    c.land.used a.home
    && (actions_fit a
    && (stage_sound c.land a
    && (lock_is c x (first_held a) && lock_is c x (second_held_in c a))))

abbrev pub agent_sound : State → ℕ → Bool
agent_sound c x = cond (c.given x) (agent_fits c x (c.agent x)) true

-- ---- places

-- the home of an agent at stages 4 to 6
unfoldable pub going_from : Agent → ℕ
going_from a = cond (ltb a.stage on_way) none (cond (leb a.stage on_way_both) a.home none)

-- x is an agent at stages 4 to 6 of place q
unfoldable pub goes : State → ℕ → ℕ → Bool
goes c q x = c.given x && eqb q (going_from (c.agent x))

-- "a place on its way has exactly one of its agents at stages 4 to 6, the floor and a linked place none"
abbrev pub travellers_fit : ℕ → ℕ → ℕ → Bool
travellers_fit q way n = eqb n (cond (eqb q 0) 0 (cond (eqb way 0) 0 1))

-- "name 0", and of the keys "the floor's are 0" (document 02, W6)
abbrev pub nameless : Name → Bool
nameless x = eqb x.name 0 && (eqb x.entering 0 && (eqb x.exiting 0 && eqb x.opening 0))

-- the floor has no name, no keys and no parent and is not linked; any other place has a name, and a parent or destination in use
abbrev pub stands : ℕ → Place → Bool → Bool
stands q x known = cond (eqb q 0) (nameless x.name && (eqb x.parent 0 && not (eqb x.way 0))) (leb 1 x.name.name && known)

-- a place in use: its lock is free or some agent's stage says that it holds it
unfoldable pub place_fits : State → ℕ → Bool
place_fits c q =
    (eqb (c.lock q) none || any_below (claims c q) 64)
    && (stands q (c.land.place q) (c.land.used (c.land.place q).parent)
    && travellers_fit q (c.land.place q).way (count_below (goes c q) 64))

abbrev pub place_sound : State → ℕ → Bool
place_sound c q = cond (c.land.used q) (place_fits c q) true

-- "following parents or destinations leads each place to the floor"
abbrev pub leads : State → ℕ → Bool
leads c q = cond (c.land.used q) (eqb (iter (λ r. (c.land.place r).parent) 64 q) 0) true

-- ---- touches (document 02, W3)

-- the touches of place q, if it is in use
abbrev pub touches_at : State → ℕ → ℕ
touches_at c q = cond (c.land.used q) (c.touches q) 0

-- "The sum over places in use"
unfoldable pub touch_sum : State → ℕ
touch_sum c = sum_below (touches_at c) 64

-- "A table whose sum passes 1,000,000,000,000 is unsound"
abbrev pub most_touches : ℕ
most_touches = 1000000000000

-- ---- the table

-- the floor, the agents given and the places in use are as they should be
unfoldable pub core_sound : State → Bool
core_sound c = c.land.used 0 && (all_below (agent_sound c) 64 && (all_below (place_sound c) 64 && all_below (leads c) 64))

-- the rest of what soundness asks: the sum of the touches, and of the row that every number stands in it and no other, so that "In a sound
-- table this order is strict under each parent" (document 02, W5)
unfoldable pub books_sound : State → Bool
unfolding touch_sum row_fits
books_sound c = leb (touch_sum c) most_touches && row_fits c.land.order

-- "A table is sound when": the whole test
unfoldable pub sound : State → Bool
unfolding core_sound books_sound
sound c = core_sound c && books_sound c
