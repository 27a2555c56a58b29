-- The places of a row, as the walks outwards read them.
use Rattle.std.specs.Prelude.{◌≡◌, ℕ, Bool, List, eqb, get_or}
use Rattle.table.specs.Cell.{no_place}
use Rattle.table.specs.declared.Place.{Place}
use Rattle.meaning.specs.Where.{parent_of, place_name}

-- the places by their numbers; past 63 an empty one
abbrev pub places_in : List Place → ℕ → Place
places_in ps q = get_or ps q no_place

-- where each of them stands
abbrev pub up_in : List Place → ℕ → ℕ
up_in ps q = parent_of (places_in ps) q

-- the name of each
abbrev pub name_in : List Place → ℕ → ℕ
name_in ps q = place_name (places_in ps) q

-- whether it is this one
abbrev pub named_in : List Place → ℕ → ℕ → Bool
named_in ps name q = eqb (name_in ps q) name

-- what a call may answer for each number and the place there is the test's answer
abbrev pub Decides : List Place → (ℕ → Place → Bool → Type 0) → (ℕ → Bool) → Type 0
Decides ps answers f = (q : ℕ) (x : Place) (b : Bool) → x ≡ places_in ps q → answers q x b → b ≡ f q
