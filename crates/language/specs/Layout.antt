-- The cell that a tree of the listing's language describes (document 02, W8), and whether it fits.
use Rattle.std.specs.Prelude.{ℕ, suc, ◌+◌, Bool, true, ◌&&◌, List, [], ◌∷◌, leb, length}
use Rattle.table.specs.Cell.{State, cell_of, bare_table}
use Rattle.table.specs.declared.Name.{Name}
use Rattle.meaning.specs.File.{add_place, add_agent, add_action}
use Rattle.language.specs.Grammar.{TypedAction, TypedAgent, Contents, nothing, agent, place, name_of}

-- ---- "fits 63 places, 64 agents and sixteen actions each"

-- how many places a tree has
unfoldable pub places_in : Contents → ℕ
places_in nothing = 0
places_in (agent r beside) = places_in beside
places_in (place h inside beside) = suc (places_in inside + places_in beside)

-- how many agents
unfoldable pub agents_in : Contents → ℕ
agents_in nothing = 0
agents_in (agent r beside) = suc (agents_in beside)
agents_in (place h inside beside) = agents_in inside + agents_in beside

-- no agent has more than sixteen actions: those after its first are fifteen at most
unfoldable pub rows_fit : Contents → Bool
rows_fit nothing = true
rows_fit (agent r beside) = leb (length r.further) 15 && rows_fit beside
rows_fit (place h inside beside) = rows_fit inside && rows_fit beside

-- all three
unfoldable pub fits : Contents → Bool
unfolding places_in agents_in rows_fit
fits c = leb (places_in c) 63 && (leb (agents_in c) 64 && rows_fit c)

-- ---- "Places and agents are numbered as they appear, places from 1 and agents from 0, and touches are 0"

-- a cell, and how many places (the floor not counted) and agents it has
pub record Laid : Type 0 where
  pub cell : State
  pub places : ℕ
  pub agents : ℕ

-- the actions of agent x, in their order
unfoldable pub lay_actions : ℕ → List TypedAction → State → State
lay_actions x [] c = c
lay_actions x (a ∷ rest) c = lay_actions x rest (add_action c x a.kind a.number.value)

-- the next agent, in place p
unfoldable pub lay_agent : ℕ → TypedAgent → Laid → Laid
unfolding lay_actions
lay_agent p r l = record {
  cell = lay_actions l.agents (r.first ∷ r.further) (add_agent l.cell l.agents p);
  places = l.places;
  agents = l.agents + 1;
}

-- the next place, in place p
unfoldable pub lay_place : ℕ → Name → Laid → Laid
lay_place p name l = record { cell = add_place l.cell (l.places + 1) p name; places = l.places + 1; agents = l.agents }

-- contents of place p, in the order of their text: a place before what it holds, and that before what stands beside it
unfoldable pub lay : ℕ → Contents → Laid → Laid
unfolding lay_agent lay_place name_of
lay p nothing l = l
lay p (agent r beside) l = lay p beside (lay_agent p r l)
lay p (place h inside beside) l = lay p beside (lay (l.places + 1) inside (lay_place p (name_of h) l))

-- a bare floor, with no touches
unfoldable pub bare_laid : Laid
bare_laid = record { cell = cell_of bare_table; places = 0; agents = 0 }

-- the cell of a tree: its parts on the floor
unfoldable pub layout : Contents → State
unfolding lay bare_laid
layout c = (lay 0 c bare_laid).cell
