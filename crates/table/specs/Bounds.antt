-- What the types of a table say: the sizes of its arrays, the range of its names, and what a cell reads at and past 64.
use Rattle.std.specs.Prelude.{◌≡◌, false, ℕ, ◌^◌, ◌≤◌, ◌<◌, length, get_or}
use Rattle.table.specs.Cell.{no_place, no_action, no_agent, State}
use Rattle.table.specs.declared.Name.{Name}
use Rattle.table.specs.declared.Cell.{Cell}

-- a table's arrays have 64 elements and its sets are words: so it is of every value of the struct. The row of places is a list in the cell as in
-- the table, and nothing asks for its length
pub record Sized (t : Cell) : Type 0 where
  pub places : length t.places ≡ 64
  pub locks : length t.locks ≡ 64
  pub agents : length t.agents ≡ 64
  pub used : t.used.bits < 2 ^ 64
  pub given : t.given.bits < 2 ^ 64
  pub touches : length t.touches ≡ 64

-- a name and its keys have 16 bits
pub record Name16 (x : Name) : Type 0 where
  pub name : x.name < 65536
  pub entering : x.entering < 65536
  pub exiting : x.exiting < 65536
  pub opening : x.opening < 65536

-- the names and keys of a table have 16 bits, and so have the numbers of its actions: so it is of every value of the struct too
pub record Names16 (t : Cell) : Type 0 where
  pub place : (q : ℕ) → Name16 (get_or t.places q no_place).name
  pub action : (x j : ℕ) → (get_or (get_or t.agents x no_agent).actions j no_action).name < 65536

-- at and past 64 a cell reads as a table does there
pub record Bounded (c : State) : Type 0 where
  pub place : (q : ℕ) → 64 ≤ q → c.land.place q ≡ no_place
  pub used : (q : ℕ) → 64 ≤ q → c.land.used q ≡ false
  pub lock : (q : ℕ) → 64 ≤ q → c.lock q ≡ 0
  pub agent : (x : ℕ) → 64 ≤ x → c.agent x ≡ no_agent
  pub given : (x : ℕ) → 64 ≤ x → c.given x ≡ false
  pub touches : (q : ℕ) → 64 ≤ q → c.touches q ≡ 0
