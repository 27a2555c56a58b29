-- The walk over the agents that are given, once a place moves: what becomes of one, and what of all of them.
use Rattle.std.specs.Prelude.{ℕ, Bool, false, ◌&&◌, cond, List, eqb, get_or}
use Rattle.sets.specs.Set.{member, set_of}
use Rattle.sets.specs.declared.Set.{Set}
use Rattle.table.specs.Base.{tab}
use Rattle.table.specs.Cell.{no_agent}
use Rattle.table.specs.declared.Agent.{Agent}
use Rattle.table.specs.declared.Cell.{Cell}
use Rattle.meaning.specs.Update.{at_stage}
use Rattle.meaning.specs.Step.{asleep_on, woken_by, dissolve_agent}
use Rattle.moving.specs.declared.waking.Waking.{Waking}
use Rattle.moving.specs.declared.waking.Waking.TheVariants.{On, Opening}
use Rattle.moving.specs.declared.walks.Walked.{Walked}

-- ---- one agent: those asleep on p, q or r are woken, or place q is opened into p

-- it is woken
abbrev pub wakes_of : Waking → Agent → Bool
wakes_of (On p q r) a = asleep_on p q r a
wakes_of (Opening p q) a = woken_by p q a

-- it lets a lock go
abbrev pub frees_of : Waking → Agent → Bool
frees_of (On p q r) a = false
frees_of (Opening p q) a = eqb a.home q && eqb a.stage 2

-- what it becomes
abbrev pub after_of : Waking → Bool → Agent → Agent
after_of (On p q r) woken a = cond woken (at_stage a 0 0 0) a
after_of (Opening p q) woken a = dissolve_agent p q a

-- ---- all agents

module _ (c : Cell) (w : Waking) where
  -- agent y before, and once its turn was
  abbrev pub was : ℕ → Agent
  was = λ y. get_or c.agents y no_agent

  abbrev pub gone : ℕ → Agent
  gone = λ y. after_of w (wakes_of w (was y)) (was y)

  -- the agents after, those woken, and those that let a lock go
  abbrev pub agents_after : List Agent
  agents_after = tab (λ y. cond (member c.given y) (gone y) (was y)) 64 0

  abbrev pub sleepers_of : Set
  sleepers_of = set_of (λ y. member c.given y && wakes_of w (was y))

  abbrev pub holders_of : Set
  holders_of = set_of (λ y. member c.given y && frees_of w (was y))

  abbrev pub walked_of : Walked
  walked_of = record { sleepers = sleepers_of; holders = holders_of }
