-- The walk over the agents that are given, one at a time, once a place moves: what becomes of one, and what of all of them.
use Rattle.std.specs.Prelude.{ℕ, Bool, true, false, ◌&&◌, cond, List, eqb, get_or}
use Rattle.sets.specs.Set.{member, set_of, inserted_if, removed}
use Rattle.sets.specs.Set.{empty_set}
use Rattle.sets.specs.Walk.{lowest_in}
use Rattle.sets.specs.declared.Set.{Set}
use Rattle.table.specs.Base.{tab}
use Rattle.table.specs.Cell.{no_agent}
use Rattle.table.specs.declared.Agent.{Agent}
use Rattle.table.specs.declared.Cell.{Cell}
use Rattle.meaning.specs.Update.{at_stage}
use Rattle.meaning.specs.Step.{asleep_on, woken_by, dissolve_agent}

-- the walk: which agent is next, or 64; the agents left, the next one among them; whether place q is opened into p, and if not, the places p, q
-- and r whose sleepers are woken; who was woken, and who let a lock go
pub record Waking : Type 0 where
  pub at : ℕ
  pub rest : Set
  pub opens : Bool
  pub p : ℕ
  pub q : ℕ
  pub r : ℕ
  pub sleepers : Set
  pub holders : Set

-- what a turn makes: whether the agent changes, what it becomes, and the walk after it
pub record Turned : Type 0 where
  pub changes : Bool
  pub agent : Agent
  pub next : Waking

-- ---- one agent: place q is opened into p, or those asleep on p, q or r are woken

-- it is woken
abbrev pub wakes : Bool → ℕ → ℕ → ℕ → Agent → Bool
wakes opens p q r a = cond opens (woken_by p q a) (asleep_on p q r a)

-- it lets a lock go
abbrev pub frees : Bool → ℕ → Agent → Bool
frees opens q a = cond opens (eqb a.home q && eqb a.stage 2) false

-- what it becomes
abbrev pub becomes : Bool → ℕ → ℕ → Bool → Agent → Agent
becomes opens p q woken a = cond opens (dissolve_agent p q a) (cond woken (at_stage a 0 0 0) a)

-- it is stored
abbrev pub changes : Bool → Bool → Bool
changes opens woken = cond opens true woken

-- ---- the walk

-- the next agent is the lowest of those left
abbrev pub standing_at : Bool → ℕ → ℕ → ℕ → Set → Set → Set → Waking
standing_at opens p q r rest sleepers holders =
    record { at = lowest_in rest; rest = rest; opens = opens; p = p; q = q; r = r; sleepers = sleepers; holders = holders }

-- before the first
abbrev pub start_of : Set → Bool → ℕ → ℕ → ℕ → Waking
start_of given opens p q r = standing_at opens p q r given empty_set empty_set

-- the turn of the next agent
abbrev pub turn_of : Waking → Agent → Turned
turn_of w a =
    let woken = wakes w.opens w.p w.q w.r a in
    record {
      changes = changes w.opens woken;
      agent = becomes w.opens w.p w.q woken a;
      next = standing_at w.opens w.p w.q w.r (removed w.rest (lowest_in w.rest))
          (inserted_if w.sleepers w.at woken) (inserted_if w.holders w.at (frees w.opens w.q a));
    }

-- ---- all agents

module _ (c : Cell) (opens : Bool) (p q r : ℕ) where
  -- agent y before, and once its turn was
  abbrev pub was : ℕ → Agent
  was = λ y. get_or c.agents y no_agent

  abbrev pub gone : ℕ → Agent
  gone = λ y. becomes opens p q (wakes opens p q r (was y)) (was y)

  -- the agents after, those woken, and those that let a lock go
  abbrev pub agents_after : List Agent
  agents_after = tab (λ y. cond (member c.given y) (gone y) (was y)) 64 0

  abbrev pub sleepers_of : Set
  sleepers_of = set_of (λ y. member c.given y && wakes opens p q r (was y))

  abbrev pub holders_of : Set
  holders_of = set_of (λ y. member c.given y && frees opens q (was y))

  -- the walk at its end
  abbrev pub end_of : Waking
  end_of = standing_at opens p q r empty_set sleepers_of holders_of
