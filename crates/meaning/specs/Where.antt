-- Which bonder is it in (document 02, W10): "Two questions, with a place on its way read at its destination". A place on its way has its destination
-- as its parent, so both follow parents, outwards. Over any function that says where each place stands: of a cell, or of the plain tree.
use Rattle.std.specs.Prelude.{ℕ, zero, suc, Bool, ◌&&◌, ◌||◌, cond, eqb, ltb, leb}
use Rattle.table.specs.Cell.{none, cell_of}
use Rattle.table.specs.Sound.{sound}
use Rattle.table.specs.declared.Cell.{Cell}
use Rattle.table.specs.declared.Place.{Place}
use Rattle.meaning.specs.Answers.{Found, At, Nowhere, Unfound}
use Rattle.meaning.specs.Refusals.{place_too_large, not_yet_given, unsound_table}

-- ---- outwards

-- how many places are looked at at most: one more than the steps in which soundness leads each place to the floor
abbrev pub most_outwards : ℕ
most_outwards = 65

-- from q outwards, q itself counted: the first place that passes; 64 where the floor is reached without one
unfoldable pub outwards : ℕ → (ℕ → ℕ) → (ℕ → Bool) → ℕ → ℕ
outwards zero up passes q = none
outwards (suc k) up passes q = cond (passes q) q (cond (eqb q 0) none (outwards k up passes (up q)))

-- ---- the two questions

-- "the nearest enclosing place of a given name, the place itself not counted": from where q stands outwards; nothing encloses the floor. 64 if
-- "no enclosing place has that name"
unfoldable pub nearest : (ℕ → ℕ) → (ℕ → ℕ) → ℕ → ℕ → ℕ
nearest up name q n = cond (eqb q 0) none (outwards most_outwards up (λ p. eqb (name p) n) (up q))

-- p, a place below 64, "holds or is" r: from r outwards it is met
unfoldable pub holds : (ℕ → ℕ) → ℕ → ℕ → Bool
holds up p r = eqb (outwards most_outwards up (λ s. eqb s p) r) p

-- "the innermost place that holds or is both of two given places": from q outwards the first that holds or is r
unfoldable pub common : (ℕ → ℕ) → ℕ → ℕ → ℕ
common up q r = outwards most_outwards up (λ p. ltb p 64 && holds up p r) q

-- ---- the calls

-- where the places of a table stand: "a place on its way read at its destination"
abbrev pub parent_of : (ℕ → Place) → ℕ → ℕ
parent_of place q = (place q).parent

-- the name of a place, without its keys
abbrev pub place_name : (ℕ → Place) → ℕ → ℕ
place_name place q = (place q).name.name

-- the place that was found, or none where it is 64
abbrev pub found_place : ℕ → Found
found_place p = cond (eqb p none) Nowhere (At p)

-- "After 10, a place number above 63 is 3, then an unused one is 5"
unfoldable pub nearest_of : Cell → ℕ → ℕ → Found
nearest_of t q n =
    cond (sound (cell_of t))
    (cond (leb 64 q) (Unfound place_too_large)
    (cond ((cell_of t).land.used q) (found_place (nearest (parent_of (cell_of t).land.place) (place_name (cell_of t).land.place) q n)) (Unfound not_yet_given)))
    (Unfound unsound_table)

-- likewise, of any of the two places
unfoldable pub common_of : Cell → ℕ → ℕ → Found
common_of t q r =
    cond (sound (cell_of t))
    (cond (leb 64 q || leb 64 r) (Unfound place_too_large)
    (cond ((cell_of t).land.used q && (cell_of t).land.used r) (found_place (common (parent_of (cell_of t).land.place) q r)) (Unfound not_yet_given)))
    (Unfound unsound_table)
