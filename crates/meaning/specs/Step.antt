-- One lock step (document 01, "One step"), over total functions: the agent's stage decides the step.
use Rattle.std.specs.Prelude.{ℕ, ◌+◌, ◌%◌, ◌^◌, Bool, true, not, ◌&&◌, ◌||◌, cond, List, ltb, leb, eqb}
use Rattle.sets.specs.Word.{count_of, upto}
use Rattle.order.specs.Row.{later, latest, first_in}
use Rattle.table.specs.Base.{upd, any_below}
use Rattle.table.specs.Cell.{Land, State, none, plain_name, no_place, linked, linked_to, travels, fresh_number, has_action, kind_of, name_of}
use Rattle.table.specs.Cell.{enter_kind, exit_kind, open_kind, release_kind, looks_home, key_of, looking, found, holding, holding_both, on_way, on_way_own, on_way_both, asleep, done}
use Rattle.table.specs.Sound.{second_place}
use Rattle.table.specs.declared.Place.{Place}
use Rattle.table.specs.declared.Agent.{Agent}
use Rattle.meaning.specs.declared.Word.{Word}
use Rattle.meaning.specs.declared.Word.TheVariants.{Looked, Took, Held, Back, Slept, Left, Came, Opened, Put, Asleep, Done}
use Rattle.meaning.specs.Update.{linked_place, with_parent, with_way, with_home, at_stage, use_up, with_places, with_used, with_order, with_land, with_locks, with_agents, with_agent, with_touches, released}

-- "The answer is a word and how many agents the step woke", with the cell after the step
pub record Outcome : Type 0 where
  pub cell : State
  pub word : Word
  pub woken : ℕ

-- ---- what fires

-- r is on its way to q
unfoldable pub on_way_to : Land → ℕ → ℕ → Bool
on_way_to l q r = travels l r && eqb (l.place r).parent q

-- something is on its way to q
unfoldable pub awaited : Land → ℕ → Bool
awaited l q = any_below (on_way_to l q) 64

-- n is the key of place q for actions of this kind; "is named n" of document 01 is read so (document 02, W6)
abbrev pub named : ℕ → Land → ℕ → ℕ → Bool
named kind l q n = eqb (key_of kind (l.place q).name) n

-- "Enter n fires if another place linked to p is named n": q is such a place
unfoldable pub enters_at : Land → ℕ → ℕ → ℕ → ℕ → Bool
enters_at l n home p q = linked_to l q p && (named enter_kind l q n && not (eqb q home))

-- "Exit n fires if p is named n and p is linked"
unfoldable pub exits_from : Land → ℕ → ℕ → Bool
exits_from l n p = linked l p && named exit_kind l p n

-- "Open n fires if a place linked to p is named n and nothing is on its way to it": q is such a place
unfoldable pub opens_at : Land → ℕ → ℕ → ℕ → Bool
opens_at l n p q = linked_to l q p && (named open_kind l q n && not (awaited l q))

-- the action (kind, n), enter, exit or open, of an agent that lives in home and holds p fires on q; exit fires on p itself; no release asks
unfoldable pub qualifies : Land → ℕ → ℕ → ℕ → ℕ → ℕ → Bool
qualifies l kind n home p q =
    cond (eqb kind enter_kind) (enters_at l n home p q)
    (cond (eqb kind exit_kind) (eqb q p && exits_from l n p)
    (opens_at l n p q))

-- what is chosen of those that qualify: "the wished place if it qualifies. .. Other wishes are passed over"; "Where no fitting wish is given,
-- enter and open choose the qualifying place that has been under this parent longest" (document 02, W5); 64 where there is none
unfoldable pub chosen_of : List ℕ → (ℕ → Bool) → ℕ → ℕ
unfolding first_in
chosen_of row f wish = cond (f wish) wish (first_in f row)

-- what "enter and open choose"; 64 where the action can't fire
unfoldable pub choose : Land → ℕ → ℕ → ℕ → ℕ → ℕ → ℕ
unfolding chosen_of
choose l kind n home p wish = chosen_of l.order (upto 64 (qualifies l kind n home p)) wish

-- the place that an agent at stage 2 chooses
abbrev pub choice : Land → Agent → ℕ → ℕ
choice l a wish = choose l (kind_of a) (name_of a) a.home a.remembered wish

-- stage 3: the place that the action is to fire on, the chosen one, for exit p
abbrev pub target_of : Agent → ℕ
target_of a = cond (eqb (kind_of a) exit_kind) a.remembered a.chosen

-- the action of an agent at stage 3 (on the chosen place) still fires
unfoldable pub fires : Land → Agent → Bool
fires l a = qualifies l (kind_of a) (name_of a) a.home a.remembered (target_of a)

-- its place is still linked to p; an opener and a release agent do not ask
unfoldable pub stays : Land → Agent → Bool
stays l a = looks_home (kind_of a) || linked_to l a.home a.remembered

-- ---- locks

-- nothing changes but the word
unfoldable pub still : State → Word → Outcome
still c w = record { cell = c; word = w; woken = 0 }

-- agent x becomes a
unfoldable pub turn : State → ℕ → Agent → Word → Outcome
unfolding still
turn c x a w = still (with_agent c x a) w

-- "Lock the place q: took", and x becomes a; "'Held' means the lock it needs belongs to another agent; nothing changes"
unfoldable pub take : State → ℕ → ℕ → Agent → Outcome
unfolding still
take c x q a = cond (eqb (c.lock q) none) (still (with_locks (with_agent c x a) (upd c.lock q x)) Took) (still c Held)

-- the locks of p and q are released, and x becomes a
unfoldable pub release : State → ℕ → ℕ → ℕ → Agent → Word → Outcome
unfolding still
release c x p q a w = still (with_locks (with_agent c x a) (released c.lock p q)) w

-- ---- waking

-- an agent asleep on p, q or r
unfoldable pub asleep_on : ℕ → ℕ → ℕ → Agent → Bool
asleep_on p q r a = eqb a.stage asleep && (eqb a.remembered p || (eqb a.remembered q || eqb a.remembered r))

-- agent y is given and asleep on p, q or r
abbrev pub sleeper : State → ℕ → ℕ → ℕ → ℕ → Bool
sleeper c p q r y = c.given y && asleep_on p q r (c.agent y)

-- "Waking sets an agent to stage 0": the agents once all asleep on p, q or r are woken
unfoldable pub wake : State → ℕ → ℕ → ℕ → ℕ → Agent
wake c p q r y = cond (sleeper c p q r y) (at_stage (c.agent y) looking 0 0) (c.agent y)

-- "how many agents the step woke, counted from the set of sleepers"
abbrev pub woken_on : State → ℕ → ℕ → ℕ → ℕ
woken_on c p q r = count_of 64 (sleeper c p q r)

-- ---- stage 0, looking

-- "Open: remember its own place; looked, stage 1. Enter or exit: remember the parent; looked, stage 1. With no linked parent:
-- slept, stage 7 on its own place." Release: "the agent looks at its own place" (document 02, W11)
unfoldable pub look : State → ℕ → Agent → Outcome
look c x a =
    cond (looks_home (kind_of a)) (turn c x (at_stage a found a.home 0) Looked)
    (cond (linked c.land a.home) (turn c x (at_stage a found (c.land.place a.home).parent 0) Looked)
    (turn c x (at_stage a asleep a.home 0) Slept))

-- ---- stage 1, found

-- "Lock the remembered place p: took, stage 2, or held."
unfoldable pub lock_first : State → ℕ → Agent → Outcome
lock_first c x a = take c x a.remembered (at_stage a holding a.remembered 0)

-- ---- stage 2, release (document 02, W11)

-- "After opened or came the agent is at stage 0, or 8 if no action is left"; after put "the stage then as after opened"
abbrev pub rest_stage : Agent → ℕ
rest_stage a = cond (has_action a) looking done

-- "a new place named n .., with no agents, .. all keys n", number q, linked to p; "a put place is the latest of W5"
abbrev pub put_land : Land → ℕ → ℕ → ℕ → Land
put_land l q n p = with_order (with_used (with_places l (upd l.place q (linked_place (plain_name n) p))) (upd l.used q true)) (latest q l.order)

-- "puts a new place named n there, under the smallest unused number, with no agents, touches 0 and all keys n; it wakes those asleep on its own
-- place, releases the lock and answers put, the action used up": q is that number; the new place's lock is free
unfoldable pub put : State → ℕ → Agent → ℕ → Outcome
put c x a q = record {
  cell = with_touches (with_land (with_locks (with_agents c
      (upd (wake c a.remembered a.remembered a.remembered) x (at_stage (use_up a) (rest_stage (use_up a)) 0 0)))
      (released c.lock a.remembered q)) (put_land c.land q (name_of a) a.remembered)) (upd c.touches q 0);
  word = Put;
  woken = woken_on c a.remembered a.remembered a.remembered;
}

-- "With all numbers in use it releases the lock and sleeps (slept, on no place)": q is the smallest unused number, or 64
unfoldable pub put_or_sleep : State → ℕ → Agent → ℕ → Outcome
put_or_sleep c x a q = cond (ltb q 64) (put c x a q) (release c x a.remembered a.remembered (at_stage a asleep none 0) Slept)

-- ---- stage 2, holding p

-- "If the action can't fire: release, slept, stage 7 on p. Otherwise lock the second place: took, stage 3, or held"; q is the choice
unfoldable pub lock_second : State → ℕ → Agent → ℕ → Outcome
lock_second c x a q =
    cond (ltb q 64)
    (take c x (second_place (kind_of a) a.home q) (at_stage a holding_both a.remembered (cond (eqb (kind_of a) exit_kind) 0 q)))
    (release c x a.remembered a.remembered (at_stage a asleep a.remembered 0) Slept)

-- "Enter or exit, and its place is no longer linked to p: release, back, stage 0."
unfoldable pub hold : State → ℕ → Agent → ℕ → Outcome
hold c x a wish =
    cond (stays c.land a)
    (cond (eqb (kind_of a) release_kind) (put_or_sleep c x a (fresh_number c.land.used)) (lock_second c x a (choice c.land a wish)))
    (release c x a.remembered a.remembered (at_stage a looking 0 0) Back)

-- ---- stage 3, holding both

-- place h is on its way to d
abbrev pub send_to : Land → ℕ → ℕ → Land
send_to l h d = with_places l (upd l.place h (with_way (with_parent (l.place h) d) 1))

-- "Enter or exit: unlink its place; the destination is the chosen place, or p's parent as it is now; the action is used up;
-- release both; wake all asleep on p or its own place; left, stage 4."
unfoldable pub leave : State → ℕ → Agent → ℕ → Outcome
leave c x a d = record {
  cell = with_land (with_locks (with_agents c (upd (wake c a.remembered a.home a.home) x (at_stage (use_up a) on_way 0 0)))
      (released c.lock a.remembered a.home)) (send_to c.land a.home d);
  word = Left;
  woken = woken_on c a.remembered a.home a.home;
}

-- "children .. of the chosen place go to p": place q, in use, which is x, once t is dissolved into p
abbrev pub dissolve_place : ℕ → ℕ → ℕ → Place → Place
dissolve_place p t q x = cond (eqb q t) no_place (cond (eqb x.parent t) (with_parent x p) x)

-- the children of place t
abbrev pub child_of : Land → ℕ → ℕ → Bool
child_of l t q = l.used q && eqb (l.place q).parent t

-- "its number becomes unused": the places once t is dissolved into p; those that are not in use stay as they are. "children freed by an
-- opening become the latest and keep their order among themselves" (document 02, W5)
abbrev pub dissolve_land : Land → ℕ → ℕ → Land
dissolve_land l p t = with_order (with_used
    (with_places l (λ q. cond (l.used q) (dissolve_place p t q (l.place q)) (l.place q)))
    (λ q. not (eqb q t) && l.used q))
    (later (child_of l t) l.order)

-- "agents of the chosen place go to p, the moved agents that aren't done go to stage 0"; "wake all asleep on p or on it, and set to
-- stage 0 all that remembered it at stage 1". A release agent that sleeps on no place sleeps "until any opening, which wakes all such sleepers"
unfoldable pub dissolve_agent : ℕ → ℕ → Agent → Agent
dissolve_agent p t a =
    cond (eqb a.home t) (with_home (at_stage a (cond (eqb a.stage done) done looking) 0 0) p)
    (cond (eqb a.stage found && eqb a.remembered t) (at_stage a looking 0 0)
    (cond (asleep_on p t none a) (at_stage a looking 0 0) a))

-- "The count of woken agents is of those that were at stage 7": a moved agent that slept is woken too
unfoldable pub woken_by : ℕ → ℕ → Agent → Bool
woken_by p t a = eqb a.stage asleep && (eqb a.home t || (eqb a.remembered p || (eqb a.remembered t || eqb a.remembered none)))

-- "a lock that one of them held at stage 2": agent y is given, lives in t and is at stage 2
abbrev pub lets_go : State → ℕ → ℕ → Bool
lets_go c t y = c.given y && (eqb (c.agent y).home t && eqb (c.agent y).stage holding)

-- "being released": the lock of q once t is dissolved; that of a number that is not in use stays as it is
unfoldable pub dissolve_lock : State → ℕ → ℕ → ℕ
dissolve_lock c t q = cond (c.land.used q && lets_go c t (c.lock q)) none (c.lock q)

-- "When a place is opened, its count is pooled into the place of the agent that opened it" (document 02, W3): t's touches go to p, and the
-- number that becomes unused has none. A count has 64 bits; in a sound table the sum of two needs 40
abbrev pub pooled : (ℕ → ℕ) → ℕ → ℕ → ℕ → ℕ
pooled touches p t = upd (upd touches p ((touches p + touches t) % 2 ^ 64)) t 0

-- "Open: children and agents of the chosen place go to p, .. the action is used up; release both; opened."
unfoldable pub dissolve : State → ℕ → Agent → ℕ → ℕ → Outcome
dissolve c x a p t = record {
  cell = with_touches (with_land (with_locks (with_agents c
      (upd (λ y. cond (c.given y) (dissolve_agent p t (c.agent y)) (c.agent y)) x (at_stage (use_up a) (rest_stage (use_up a)) 0 0)))
      (released (dissolve_lock c t) p t)) (dissolve_land c.land p t)) (pooled c.touches p t);
  word = Opened;
  woken = count_of 64 (λ y. c.given y && woken_by p t (c.agent y));
}

-- enter goes to the chosen place, exit to "p's parent as it is now"
abbrev pub destination_of : Land → Agent → ℕ
destination_of l a = cond (eqb (kind_of a) enter_kind) a.chosen (l.place a.remembered).parent

-- "If the action (on the chosen place) no longer fires: release both, back, stage 0."
unfoldable pub act : State → ℕ → Agent → Outcome
act c x a =
    cond (fires c.land a)
    (cond (eqb (kind_of a) open_kind) (dissolve c x a a.remembered a.chosen) (leave c x a (destination_of c.land a)))
    (release c x a.remembered (second_place (kind_of a) a.home a.chosen) (at_stage a looking 0 0) Back)

-- ---- stages 4 to 6, on its way

-- place h is linked to where it was on its way to: "A place that comes is the latest" (document 02, W5)
abbrev pub link_up : Land → ℕ → Land
link_up l h = with_order (with_places l (upd l.place h (with_way (l.place h) 0))) (latest h l.order)

-- "the place that the destination is linked to, if any", else the destination
abbrev pub beyond : Land → ℕ → ℕ
beyond l d = cond (linked l d) (l.place d).parent d

-- "6. Link; release both; wake all asleep on its own place, the destination, or the place that the destination is linked to, if any; came."
unfoldable pub arrive : State → ℕ → Agent → ℕ → Outcome
arrive c x a d = record {
  cell = with_land (with_locks (with_agents c (upd (wake c a.home d (beyond c.land d)) x (at_stage a (rest_stage a) 0 0)))
      (released c.lock a.home d)) (link_up c.land a.home);
  word = Came;
  woken = woken_on c a.home d (beyond c.land d);
}

-- "4 on its way. Lock its own place: took, stage 5, or held. 5. Lock the destination: took, stage 6, or held."
unfoldable pub travel : State → ℕ → Agent → Outcome
travel c x a =
    cond (eqb a.stage on_way) (take c x a.home (at_stage a on_way_own 0 0))
    (cond (eqb a.stage on_way_own) (take c x (c.land.place a.home).parent (at_stage a on_way_both 0 0))
    (arrive c x a (c.land.place a.home).parent))

-- ---- the step

-- "The agent's stage, a number from 0 to 8, decides the step": agent x, which is a, with its stage and wish
unfoldable pub step_at : ℕ → State → ℕ → Agent → ℕ → Outcome
step_at stage c x a wish =
    cond (eqb stage looking) (look c x a)
    (cond (eqb stage found) (lock_first c x a)
    (cond (eqb stage holding) (hold c x a wish)
    (cond (eqb stage holding_both) (act c x a)
    (cond (leb stage on_way_both) (travel c x a)
    (cond (eqb stage asleep) (still c Asleep)
    (still c Done))))))

-- one step of agent x
unfoldable pub step : State → ℕ → ℕ → Outcome
step c x wish = step_at (c.agent x).stage c x (c.agent x) wish
