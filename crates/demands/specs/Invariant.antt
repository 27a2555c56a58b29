-- What holds of a cell after every list of calls: it is sound, as a proposition, and no sleeper has anything to do.
-- Names in the proofs: c is a cell, i says that it is sound, x is the agent that steps, g says that it is given; l are the places, t the
-- table or the plain tree.
use Rattle.std.specs.Prelude.{◌≡◌, ◌≢◌, ◌⊎◌, [], ℕ, ◌≤◌, ◌<◌, true, false}
use Rattle.order.specs.Row.{row_fits}
use Rattle.table.specs.Cell.{Land, State, none, no_name, linked, kind_of, name_of, unused, enter_kind, exit_kind, open_kind, release_kind}
use Rattle.table.specs.Cell.{looking, found, holding, holding_both, on_way, on_way_own, on_way_both, asleep, done}
use Rattle.table.specs.Sound.{second_place, touch_sum, most_touches}
use Rattle.table.specs.declared.Agent.{Agent}
use Rattle.meaning.specs.Step.{qualifies, stays}
use Rattle.calculus.specs.Up.{Up}
use Rattle.calculus.specs.Formed.{Good}
use Rattle.demands.specs.Reading.{parent_in, name_in, agent_in}

-- ---- places

-- place q is linked to p
pub record Under (l : Land) (q p : ℕ) : Type 0 where
  pub link : linked l q ≡ true
  pub parent : parent_in l q ≡ p

-- the places are one tree under the floor, and every number stands in their row
pub record Places (l : Land) : Type 0 where
  pub floor_used : l.used 0 ≡ true
  pub floor_parent : parent_in l 0 ≡ 0
  pub floor_link : linked l 0 ≡ false
  pub floor_name : name_in l 0 ≡ no_name
  pub tree : (q : ℕ) → Up (parent_in l) q
  pub parent_used : (q : ℕ) → l.used (parent_in l q) ≡ true
  pub small : (q : ℕ) → l.used q ≡ true → q < 64
  pub named : (q : ℕ) → l.used q ≡ true → q ≢ 0 → 1 ≤ (name_in l q).name
  pub order : row_fits l.order ≡ true

-- ---- agents

-- agent x has the lock of q
pub record Has (lock : ℕ → ℕ) (q x : ℕ) : Type 0 where
  pub by : lock q ≡ x
  pub small : x < 64

-- the row of actions is in order and in range
pub record Fit (a : Agent) : Type 0 where
  pub ordered : a.next ≤ a.count
  pub few : a.count ≤ 16
  pub good : Good (unused a)

-- an agent with an action left that remembers a place in use; one that opens or releases remembers its home
pub record Ready (l : Land) (a : Agent) : Type 0 where
  pub some : 1 ≤ kind_of a
  pub known : l.used a.remembered ≡ true
  pub opener : open_kind ≤ kind_of a → a.remembered ≡ a.home

-- an agent whose own place is on its way
pub record Away (l : Land) (a : Agent) : Type 0 where
  pub loose : linked l a.home ≡ false
  pub placed : a.home ≢ 0

-- an agent asleep remembers a place in use, or, for release, no place
abbrev pub SleepsOn : Land → Agent → Type 0
SleepsOn l a = (l.used a.remembered ≡ true) ⊎ ((kind_of a ≡ release_kind) × (a.remembered ≡ none))

-- what its stage says of an agent, of the places and of the locks
pub data Ok (l : Land) (lock : ℕ → ℕ) (x : ℕ) (a : Agent) : Type 0 where
  ok0 : a.stage ≡ looking → 1 ≤ kind_of a → Ok l lock x a
  ok1 : a.stage ≡ found → Ready l a → Ok l lock x a
  ok2 : a.stage ≡ holding → Ready l a → Has lock a.remembered x → Ok l lock x a
  ok3_move : a.stage ≡ holding_both → Ready l a → kind_of a ≤ exit_kind → Has lock a.remembered x → Has lock a.home x
      → Under l a.home a.remembered → (kind_of a ≡ enter_kind → Under l a.chosen a.remembered) → Ok l lock x a
  ok3_open : a.stage ≡ holding_both → Ready l a → kind_of a ≡ open_kind → Has lock a.remembered x → Has lock a.chosen x
      → Under l a.chosen a.remembered → Ok l lock x a
  ok4 : a.stage ≡ on_way → Away l a → Ok l lock x a
  ok5 : a.stage ≡ on_way_own → Away l a → Has lock a.home x → Ok l lock x a
  ok6 : a.stage ≡ on_way_both → Away l a → Has lock a.home x → Has lock (parent_in l a.home) x → Ok l lock x a
  ok7 : a.stage ≡ asleep → 1 ≤ kind_of a → SleepsOn l a → Ok l lock x a
  ok8 : a.stage ≡ done → unused a ≡ [] → Ok l lock x a

-- the places that an agent's stage says it holds
pub data Holds (l : Land) (a : Agent) (q : ℕ) : Type 0 where
  near : holding ≤ a.stage → a.stage ≤ holding_both → q ≡ a.remembered → Holds l a q
  far : a.stage ≡ holding_both → q ≡ second_place (kind_of a) a.home a.chosen → Holds l a q
  own : on_way_own ≤ a.stage → a.stage ≤ on_way_both → q ≡ a.home → Holds l a q
  destination : a.stage ≡ on_way_both → q ≡ parent_in l a.home → Holds l a q

-- a lock is free, or the agent that has it says so by its stage
pub data Kept (l : Land) (lock : ℕ → ℕ) (agent : ℕ → Agent) (q : ℕ) : Type 0 where
  free : lock q ≡ none → Kept l lock agent q
  kept : (x : ℕ) → Has lock q x → Holds l (agent x) q → Kept l lock agent q

-- an agent at stages 4 to 6
pub record Travels (a : Agent) : Type 0 where
  pub from : on_way ≤ a.stage
  pub to : a.stage ≤ on_way_both

-- an agent of place q at stages 4 to 6
pub record Mover (agent : ℕ → Agent) (q : ℕ) : Type 0 where
  pub who : ℕ
  pub lives : (agent who).home ≡ q
  pub goes : Travels (agent who)

-- ---- the cell

-- soundness (refusal 10), as a proposition
pub record Sound (c : State) : Type 0 where
  pub places : Places c.land
  pub homes : (x : ℕ) → c.land.used (agent_in c x).home ≡ true
  pub fit : (x : ℕ) → Fit (agent_in c x)
  pub few : (x : ℕ) → c.given x ≡ true → x < 64
  pub ok : (x : ℕ) → Ok c.land c.lock x (agent_in c x)
  pub locks : (q : ℕ) → c.land.used q ≡ true → Kept c.land c.lock (agent_in c) q
  pub mover : (q : ℕ) → c.land.used q ≡ true → q ≢ 0 → linked c.land q ≡ false → Mover (agent_in c) q
  pub touched : touch_sum c ≤ most_touches
  pub single : (x y : ℕ) → Travels (agent_in c x) → Travels (agent_in c y) → (agent_in c x).home ≡ (agent_in c y).home → x ≡ y

-- why an agent sleeps: its place has no linked parent, its action does not fire where it would look now, or, for release, all numbers are in
-- use
pub data Sleeper (l : Land) (a : Agent) : Type 0 where
  alone : kind_of a ≤ exit_kind → a.remembered ≡ a.home → linked l a.home ≡ false → Sleeper l a
  stuck : kind_of a ≤ open_kind → (open_kind ≤ kind_of a → a.remembered ≡ a.home) → stays l a ≡ true
      → ((q : ℕ) → qualifies l (kind_of a) (name_of a) a.home a.remembered q ≡ false) → Sleeper l a
  full : kind_of a ≡ release_kind → a.remembered ≡ none → ((q : ℕ) → q < 64 → l.used q ≡ true) → Sleeper l a

-- each sleeper has a reason to sleep
abbrev pub Reasons : State → Type 0
Reasons c = (x : ℕ) → (agent_in c x).stage ≡ asleep → Sleeper c.land (agent_in c x)

-- the invariant: the cell is sound, and each sleeper has a reason to sleep
pub record Inv (c : State) : Type 0 where
  pub sound : Sound c
  pub sleep : Reasons c
