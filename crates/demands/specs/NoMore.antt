-- What a call changes, and no more (demand 2): the claim, word by word of the answer. Definitions only.
use Rattle.std.specs.Prelude.{◌≡◌, ◌≢◌, ◌⊎◌, true, false, cond, List, ◌++◌, ℕ, ◌+◌, eqb, Ok, Err}
use Rattle.table.specs.Cell.{Land, State, cell_of, none, plain_name, no_place, fresh_number, kind_of, name_of, looking, found, holding, on_way, asleep, done}
use Rattle.table.specs.Sound.{second_place}
use Rattle.table.specs.declared.Agent.{Agent}
use Rattle.table.specs.declared.Cell.{Cell}
use Rattle.meaning.specs.declared.Word.{Word}
use Rattle.meaning.specs.declared.Word.TheVariants.{Looked, Took, Held, Back, Slept, Left, Came, Opened, Put, Asleep, Done}
use Rattle.meaning.specs.Answers.{Answer, Touching}
use Rattle.meaning.specs.Update.{linked_place, at_stage, with_home, with_parent}
use Rattle.meaning.specs.Step.{lets_go, destination_of, beyond}
use Rattle.meaning.specs.Run.{Call, touch_call, touch_reply, run}
use Rattle.demands.specs.TouchTotal.{added_by}
use Rattle.demands.specs.ByWord.{used_after, touches_after, order_after, Stepped}

-- ---- what is not in use

-- from cell c to cell d nothing is changed that is not in use, before and after: such a place keeps its name, keys, parent and way, its lock and
-- touches; an agent that is not given keeps every field, and the same agents are given
pub record Untouched (c d : State) : Type 0 where
  pub place : (q : ℕ) → c.land.used q ≡ false → d.land.used q ≡ false → d.land.place q ≡ c.land.place q
  pub lock : (q : ℕ) → c.land.used q ≡ false → d.land.used q ≡ false → d.lock q ≡ c.lock q
  pub agent : (y : ℕ) → c.given y ≡ false → d.agent y ≡ c.agent y
  pub given : d.given ≡ c.given
  pub touches : (q : ℕ) → c.land.used q ≡ false → d.land.used q ≡ false → d.touches q ≡ c.touches q

-- ---- the others, the locks and the places

-- no place changes in name, keys, parent, way or use, no touch count and no row, and of the agents only x
pub record OnlyAgent (c : State) (x : ℕ) (d : State) : Type 0 where
  pub land : d.land ≡ c.land
  pub touches : d.touches ≡ c.touches
  pub others : (y : ℕ) → y ≢ x → d.agent y ≡ c.agent y

-- "release", "release both": the locks of x given back: those of others stay, and no place in use is x's any more
pub record Returned (c : State) (x : ℕ) (lock' : ℕ → ℕ) : Type 0 where
  pub others : (r : ℕ) → c.lock r ≢ x → lock' r ≡ c.lock r
  pub ours : (r : ℕ) → c.land.used r ≡ true → c.lock r ≡ x → lock' r ≡ none

-- the place whose lock a step answered took needs, by the agent before it, a, and the place chosen in it: "the remembered place" at stage 1, "the
-- second place" at stage 2, "its own place" at stage 4, "the destination" at stage 5
abbrev pub needed : Land → Agent → ℕ → ℕ
needed l a chosen =
    cond (eqb a.stage found) a.remembered
    (cond (eqb a.stage holding) (second_place (kind_of a) a.home chosen)
    (cond (eqb a.stage on_way) a.home (l.place a.home).parent))

-- of the places only h changes: it keeps its name and keys, stands under this place or is on its way to it, and is linked (0) or travels (1)
pub record OnlyPlace (c : State) (h to travels : ℕ) (d : State) : Type 0 where
  pub name : (d.land.place h).name ≡ (c.land.place h).name
  pub parent : (d.land.place h).parent ≡ to
  pub way : (d.land.place h).way ≡ travels
  pub others : (q : ℕ) → q ≢ h → d.land.place q ≡ c.land.place q

-- "wake all asleep on" p, q or r; "Waking sets an agent to stage 0": agent a before, and the agent it becomes
pub data Waking (p q r : ℕ) (a : Agent) : Agent → Type 0 where
  -- it slept on one of them: it looks, and remembers nothing
  is_woken : a.stage ≡ asleep → (a.remembered ≡ p) ⊎ ((a.remembered ≡ q) ⊎ (a.remembered ≡ r)) → Waking p q r a (at_stage a looking 0 0)
  -- else it is as it was
  is_awake : a.stage ≢ asleep → Waking p q r a a
  sleeps_elsewhere : a.stage ≡ asleep → a.remembered ≢ p → a.remembered ≢ q → a.remembered ≢ r → Waking p q r a a

-- "agents of the chosen place go to p, .. the moved agents that aren't done go to stage 0"; "wake all asleep on p or on it, and set to stage 0
-- all that remembered it at stage 1"; those that sleep on no place sleep "until any opening, which wakes all such sleepers" (document 02, W11):
-- agent a before place t is dissolved into p, and the agent it becomes
pub data Dissolved (p t : ℕ) (a : Agent) : Agent → Type 0 where
  -- it lived in t: it goes to p, and looks unless it is done
  moves : a.home ≡ t → a.stage ≢ done → Dissolved p t a (with_home (at_stage a looking 0 0) p)
  moves_done : a.home ≡ t → a.stage ≡ done → Dissolved p t a (with_home (at_stage a done 0 0) p)
  -- it had found t
  forgets : a.home ≢ t → a.stage ≡ found → a.remembered ≡ t → Dissolved p t a (at_stage a looking 0 0)
  -- it slept on p or t, or on no place
  wakes : a.home ≢ t → a.stage ≡ asleep → (a.remembered ≡ p) ⊎ ((a.remembered ≡ t) ⊎ (a.remembered ≡ none))
      → Dissolved p t a (at_stage a looking 0 0)
  -- else it is as it was
  goes_on : a.home ≢ t → a.stage ≢ asleep → (a.stage ≡ found → a.remembered ≢ t) → Dissolved p t a a
  sleeps_on : a.home ≢ t → a.stage ≡ asleep → a.remembered ≢ p → a.remembered ≢ t → a.remembered ≢ none → Dissolved p t a a

-- ---- word by word

-- "looked": of the cell only agent x changes
pub record ByLooking (c : State) (x : ℕ) (d : State) : Type 0 where
  pub only : OnlyAgent c x d
  pub locks : d.lock ≡ c.lock

-- "took": only agent x and the one lock that it needs, which was free and is now x's
pub record ByTaking (c : State) (x : ℕ) (d : State) : Type 0 where
  pub only : OnlyAgent c x d
  pub was_free : c.lock (needed c.land (c.agent x) (d.agent x).chosen) ≡ none
  pub taken : d.lock (needed c.land (c.agent x) (d.agent x).chosen) ≡ x
  pub locks : (q : ℕ) → q ≢ needed c.land (c.agent x) (d.agent x).chosen → d.lock q ≡ c.lock q

-- "back", "slept": only agent x, and the locks that it held, which are free
pub record ByReleasing (c : State) (x : ℕ) (d : State) : Type 0 where
  pub only : OnlyAgent c x d
  pub locks : Returned c x d.lock

-- "unlink its place; the destination is the chosen place, or p's parent as it is now; .. release both; wake all asleep on p or its own place;
-- left"; p is the place that x remembers
pub record ByLeaving (c : State) (x : ℕ) (d : State) : Type 0 where
  pub place : OnlyPlace c (c.agent x).home (destination_of c.land (c.agent x)) 1 d
  pub locks : Returned c x d.lock
  pub others : (y : ℕ) → y ≢ x → c.given y ≡ true → Waking (c.agent x).remembered (c.agent x).home (c.agent x).home (c.agent y) (d.agent y)

-- where the place of agent x stands or is on its way to
abbrev pub around : State → ℕ → ℕ
around c x = (c.land.place (c.agent x).home).parent

-- "Link; release both; wake all asleep on its own place, the destination, or the place that the destination is linked to, if any; came"
pub record ByComing (c : State) (x : ℕ) (d : State) : Type 0 where
  pub place : OnlyPlace c (c.agent x).home (around c x) 0 d
  pub locks : Returned c x d.lock
  pub others : (y : ℕ) → y ≢ x → c.given y ≡ true
      → Waking (c.agent x).home (around c x) (beyond c.land (around c x)) (c.agent y) (d.agent y)

-- "Open: children and agents of the chosen place go to p, its number becomes unused, the moved agents that aren't done go to stage 0, a lock that
-- one of them held at stage 2 being released; wake all asleep on p or on it, and set to stage 0 all that remembered it at stage 1; .. release
-- both; opened"; p is the place that x remembers, and a child keeps its name, keys and way
pub record ByOpening (c : State) (x : ℕ) (d : State) : Type 0 where
  pub dissolved : d.land.place (c.agent x).chosen ≡ no_place
  pub children : (q : ℕ) → c.land.used q ≡ true → q ≢ (c.agent x).chosen → (c.land.place q).parent ≡ (c.agent x).chosen
      → d.land.place q ≡ with_parent (c.land.place q) (c.agent x).remembered
  pub places : (q : ℕ) → q ≢ (c.agent x).chosen → (c.land.place q).parent ≢ (c.agent x).chosen → d.land.place q ≡ c.land.place q
  pub own_locks : (q : ℕ) → c.land.used q ≡ true → c.lock q ≡ x → d.lock q ≡ none
  pub moved_locks : (q : ℕ) → c.land.used q ≡ true → lets_go c (c.agent x).chosen (c.lock q) ≡ true → d.lock q ≡ none
  pub locks : (q : ℕ) → c.lock q ≢ x → lets_go c (c.agent x).chosen (c.lock q) ≡ false → d.lock q ≡ c.lock q
  pub others : (y : ℕ) → y ≢ x → c.given y ≡ true → Dissolved (c.agent x).remembered (c.agent x).chosen (c.agent y) (d.agent y)

-- "puts a new place named n there, under the smallest unused number, with no agents .. and all keys n; it wakes those asleep on its own place,
-- releases the lock and answers put" (document 02, W11); its own place is the one that x remembers, and the new place's lock is free. Nobody
-- lives under that number and nothing stands there, and no home and no other place is changed
pub record ByPutting (c : State) (x : ℕ) (d : State) : Type 0 where
  pub new_place : d.land.place (fresh_number c.land.used) ≡ linked_place (plain_name (name_of (c.agent x))) (c.agent x).remembered
  pub no_agents : (y : ℕ) → c.given y ≡ true → (c.agent y).home ≢ fresh_number c.land.used
  pub no_places : (q : ℕ) → c.land.used q ≡ true → (c.land.place q).parent ≢ fresh_number c.land.used
  pub places : (q : ℕ) → q ≢ fresh_number c.land.used → d.land.place q ≡ c.land.place q
  pub new_lock : d.lock (fresh_number c.land.used) ≡ none
  pub own_locks : (q : ℕ) → c.land.used q ≡ true → c.lock q ≡ x → d.lock q ≡ none
  pub locks : (q : ℕ) → q ≢ fresh_number c.land.used → c.lock q ≢ x → d.lock q ≡ c.lock q
  pub others : (y : ℕ) → y ≢ x → c.given y ≡ true
      → Waking (c.agent x).remembered (c.agent x).remembered (c.agent x).remembered (c.agent y) (d.agent y)

-- what a step of agent x with this word changes from cell c to cell d; held, asleep and done: "nothing changes"
abbrev pub ChangesBy : Word → State → ℕ → State → Type 0
ChangesBy Looked c x d = ByLooking c x d
ChangesBy Took c x d = ByTaking c x d
ChangesBy Held c x d = d ≡ c
ChangesBy Back c x d = ByReleasing c x d
ChangesBy Slept c x d = ByReleasing c x d
ChangesBy Left c x d = ByLeaving c x d
ChangesBy Came c x d = ByComing c x d
ChangesBy Opened c x d = ByOpening c x d
ChangesBy Put c x d = ByPutting c x d
ChangesBy Asleep c x d = d ≡ c
ChangesBy Done c x d = d ≡ c

-- what a call of agent x with this wish and answer changes, of x itself and of the rest; a refused one nothing
abbrev pub Changes : Answer → State → ℕ → ℕ → State → Type 0
Changes (Ok o) c x wish d = Stepped o.word c.land wish (c.agent x) (d.agent x) × ChangesBy o.word c x d
Changes (Err number) c x wish d = d ≡ c

-- ---- the claims

-- by a step call of agent x with this wish and answer nothing is changed that is not in use; the places in use are the same but for the one that is
-- opened or put out, so are the touches but for that one and the opener's place, and the row but for those that arrive; and of what is in use only
-- that changes which the sentence of the word lists. Together they leave nothing open: only one cell satisfies them
pub record NoMore (c : State) (x wish : ℕ) (d : State) (answer : Answer) : Type 0 where
  pub untouched : Untouched c d
  pub used : (q : ℕ) → d.land.used q ≡ used_after answer (c.agent x) c.land.used q
  pub touches : (q : ℕ) → d.touches q ≡ touches_after answer (c.agent x) c.land.used c.touches q
  pub order : d.land.order ≡ order_after answer c x
  pub changes : Changes answer c x wish d

-- number q is in use in none of the cells along a list of calls on table t: after none of its beginnings
abbrev pub NeverUsed : Cell → List Call → ℕ → Type 0
NeverUsed t calls q = (first rest : List Call) → calls ≡ first ++ rest → (cell_of (run t first)).land.used q ≡ false

-- over a list of calls on table t nothing is changed that never is in use: such a place keeps its name, keys, parent and way, its lock and touches;
-- an agent that is not given keeps every field, and the same agents are given
pub record UntouchedAlong (t : Cell) (calls : List Call) : Type 0 where
  pub place : (q : ℕ) → NeverUsed t calls q → (cell_of (run t calls)).land.place q ≡ (cell_of t).land.place q
  pub lock : (q : ℕ) → NeverUsed t calls q → (cell_of (run t calls)).lock q ≡ (cell_of t).lock q
  pub agent : (y : ℕ) → (cell_of t).given y ≡ false → (cell_of (run t calls)).agent y ≡ (cell_of t).agent y
  pub given : (cell_of (run t calls)).given ≡ (cell_of t).given
  pub touches : (q : ℕ) → NeverUsed t calls q → (cell_of (run t calls)).touches q ≡ (cell_of t).touches q

-- "A touch call adds a four-byte number to a place", and that is all: from cell c to cell d the count of place p grows by the number n, by nothing
-- if the call is refused, and nothing else changes
pub record OnlyTouches (c : State) (p n : ℕ) (d : State) (answer : Touching) : Type 0 where
  pub land : d.land ≡ c.land
  pub lock : d.lock ≡ c.lock
  pub agent : d.agent ≡ c.agent
  pub given : d.given ≡ c.given
  pub count : d.touches p ≡ c.touches p + added_by (touch_call p n) (touch_reply answer)
  pub touches : (q : ℕ) → q ≢ p → d.touches q ≡ c.touches q
