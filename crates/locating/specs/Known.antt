-- The two questions as they are answered by one that was told whether the cell is sound.
use Rattle.std.specs.Prelude.{ℕ, Bool, ◌&&◌, ◌||◌, cond, leb}
use Rattle.sets.specs.Set.{member}
use Rattle.table.specs.declared.Cell.{Cell}
use Rattle.meaning.specs.Answers.{Found, Unfound}
use Rattle.meaning.specs.Refusals.{place_too_large, not_yet_given, unsound_table}
use Rattle.meaning.specs.Where.{nearest, common, found_place}
use Rattle.locating.specs.Outwards.{up_in, name_in}

-- the nearest enclosing place of a name, in a cell that is sound or not, as told: "After 10, a place number above 63 is 3, then an unused one is 5"
unfoldable pub known_nearest : Bool → Cell → ℕ → ℕ → Found
known_nearest known t q n =
    cond known
    (cond (leb 64 q) (Unfound place_too_large)
    (cond (member t.used q) (found_place (nearest (up_in t.places) (name_in t.places) q n)) (Unfound not_yet_given)))
    (Unfound unsound_table)

-- the innermost place that holds or is both of two, likewise
unfoldable pub known_common : Bool → Cell → ℕ → ℕ → Found
known_common known t q r =
    cond known
    (cond (leb 64 q || leb 64 r) (Unfound place_too_large)
    (cond (member t.used q && member t.used r) (found_place (common (up_in t.places) q r)) (Unfound not_yet_given)))
    (Unfound unsound_table)
