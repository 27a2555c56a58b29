-- A cell right after an accepted load: one tree, nothing held, nothing on its way, every agent at the start of its row or done, no touches but
-- four-byte numbers.
use Rattle.std.specs.Prelude.{◌≡◌, [], true, false, ℕ, ◌^◌, ◌≤◌, ◌<◌, length}
use Rattle.table.specs.Cell.{State, none, no_place, fresh_agent, kind_of, unused, looking, done}
use Rattle.table.specs.Bounds.{Bounded}
use Rattle.table.specs.declared.Agent.{Agent}
use Rattle.demands.specs.Invariant.{Places, Fit}
use Rattle.demands.specs.Whole.{Whole}

-- "an agent loaded without actions is at 8, one loaded with some at 0"
pub data Starts (a : Agent) : Type 0 where
  looks : a.stage ≡ looking → 1 ≤ kind_of a → Starts a
  without : a.stage ≡ done → unused a ≡ [] → Starts a

-- an agent as it is loaded: none of its actions is used up, and it remembers nothing
pub record New (a : Agent) : Type 0 where
  pub fit : Fit a
  pub starts : Starts a
  pub next : a.next ≡ 0
  pub row : length a.actions ≡ 16
  pub remembered : a.remembered ≡ 0
  pub chosen : a.chosen ≡ 0

-- a cell as it is loaded
pub record Fresh (c : State) : Type 0 where
  pub places : Places c.land
  pub whole : Whole c
  pub free : (q : ℕ) → q < 64 → c.lock q ≡ none
  pub homes : (x : ℕ) → c.given x ≡ true → c.land.used (c.agent x).home ≡ true
  pub agents : (x : ℕ) → c.given x ≡ true → New (c.agent x)
  pub no_agents : (x : ℕ) → x < 64 → c.given x ≡ false → c.agent x ≡ fresh_agent
  pub no_places : (q : ℕ) → c.land.used q ≡ false → c.land.place q ≡ no_place
  pub touches : (q : ℕ) → c.touches q < 2 ^ 32
  pub bounds : Bounded c
