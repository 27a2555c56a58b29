-- The rows of a cell once a place is opened.
use Rattle.std.specs.Prelude.{ℕ, cond, List, get_or}
use Rattle.sets.specs.Set.{member}
use Rattle.sets.specs.declared.Set.{Set}
use Rattle.order.specs.Row.{later}
use Rattle.table.specs.Base.{tab}
use Rattle.table.specs.Cell.{no_place, land_of}
use Rattle.table.specs.declared.Place.{Place}
use Rattle.meaning.specs.Step.{child_of, dissolve_place, pooled}
use Rattle.moving.specs.Plan.{free_locks}
use Rattle.moving.specs.Shift.{held_locks}

-- the places, their locks, their touches, and the row of places
pub record Rows : Type 0 where
  pub places : List Place
  pub locks : List ℕ
  pub touches : List ℕ
  pub order : List ℕ

-- the rows once q is opened into p
abbrev pub rows_of : List Place → List ℕ → List ℕ → List ℕ → Set → ℕ → ℕ → Set → Rows
rows_of places locks touches order used p q holders = record {
  places = tab (λ j. cond (member used j) (dissolve_place p q j (get_or places j no_place)) (get_or places j no_place)) 64 0;
  locks = free_locks (held_locks locks used holders) p q;
  touches = tab (pooled (λ j. get_or touches j 0) p q) 64 0;
  order = later (child_of (land_of places used order) q) order;
}
