-- What owning a cell tells of its arrays, words and names: a table that a function is handed has the sizes and the ranges of the struct.
use mathlib.Core.List.{List, [], ◌∷◌}
use Prim.Native.Nat.{ℕ, zero, suc, ◌<◌}
use lib.Dec.{lit<}
use lib.ListN.{get_or}
use mir.Val.{Val}
use base.Fml.{Fml}
use denote.Shadow.{shadow}
use denote.Array.{each}
use denote.Laws.{Is}
use denote.Struct.Declared.{row}
use denote.Struct.Laws.{val}
use Rattle.table.specs.declared.Cell.{Cell}
use Rattle.table.specs.declared.Place.{Place}
use Rattle.table.specs.declared.Action.{Action}
use Rattle.table.specs.declared.Agent.{Agent}
use Rattle.table.specs.Cell.{no_place, no_action, no_agent}
use Rattle.table.specs.Bounds.{Sized, Name16, Names16}
use Rattle.table.specs.contracts.Place as place
use Rattle.table.specs.contracts.Action as action
use Rattle.table.specs.contracts.Agent as agent
use Rattle.table.specs.contracts.Cell as cell
use Rattle.table.proofs.Cell.TheLaws as cell_laws

-- the fact that a function has of each Cell among its parameters
abbrev pub Good : Cell → Type 0
Good t = Is (row cell.the_type) t (val cell.the_type cell_laws.the_laws t ∷ [])

pub sized : (t : Cell) → Good t → Sized t
sized t g = record {
  places = g.1.1.0.1.0.1;
  locks = g.1.1.1.0.1.0.1;
  agents = g.1.1.1.1.0.1.0.1;
  used = g.1.1.1.1.1.0.1.1.0.1;
  given = g.1.1.1.1.1.1.0.1.1.0.1;
  touches = g.1.1.1.1.1.1.1.0.1.0.1;
}

-- ---- names

-- what each element of an owned array tells, and what is read past it, is told of every number
each_at : {X : Type 0} (f : X → List Val → Fml) (P : X → Type 0) (d : X) → P d → ((x : X) (u : Val) → shadow (f x (u ∷ [])) → P x)
    → (xs : List X) (us : List Val) → shadow (each X f xs us) → (i : ℕ) → P (get_or xs i d)
each_at f P d p h [] us s i = p
each_at f P d p h (x ∷ xs) [] s i = absurd s
each_at f P d p h (x ∷ xs) (u ∷ us) s zero = h x u s.0
each_at f P d p h (x ∷ xs) (u ∷ us) s (suc i) = each_at f P d p h xs us s.1 i

pub names16 : (t : Cell) → Good t → Names16 t
names16 t g = record {
  place = each_at (place.the_row).own_val (λ (y : Place). Name16 y.name) no_place
      (record { name = lit< tt; entering = lit< tt; exiting = lit< tt; opening = lit< tt })
      (λ y u s. let keys = s.1.1.0.1.1 in
      record { name = keys.0.1; entering = keys.1.0.1; exiting = keys.1.1.0.1; opening = keys.1.1.1.0.1 })
      t.places g.1.1.0.0 g.1.1.0.1.1;
  action = λ x j. each_at (agent.the_row).own_val (λ (a : Agent). (i : ℕ) → (get_or a.actions i no_action).name < 65536) no_agent (λ i. lit< tt)
      (λ a u s. let row = s.1.1.1.1.1.1.1.1.0 in
      each_at (action.the_row).own_val (λ (y : Action). y.name < 65536) no_action (lit< tt) (λ y v r. r.1.1.1.0.1)
      a.actions row.0 row.1.1)
      t.agents g.1.1.1.1.0.0 g.1.1.1.1.0.1.1 x j;
}
