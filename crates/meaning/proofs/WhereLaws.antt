-- What the two questions where a place is answer on each kind of table.
-- By the tests of a call: 10, then 3 for any place, then 5 for any.
use Rattle.std.specs.Prelude.{◌≡◌, ◌⊎◌, true, false, ℕ, ◌≤◌, ◌<◌, leb}
use Rattle.std.proofs.Common.{inl, inr}
use borrow.Author.Tests.{le-leb, lt-leb}
use Rattle.table.proofs.BaseLaws.{Told, yea, nay, told}
use Rattle.table.specs.Cell.{cell_of}
use Rattle.table.specs.Sound.{sound}
use Rattle.table.specs.declared.Cell.{Cell}
use Rattle.meaning.specs.Answers.{Unfound}
use Rattle.meaning.specs.Refusals.{place_too_large, not_yet_given, unsound_table}
use Rattle.meaning.specs.Where.{parent_of, place_name, nearest, common, found_place, nearest_of, common_of}

-- ---- the nearest enclosing place of a name

module _ (t : Cell) (q n : ℕ) where
  pub nearest_unsound : sound (cell_of t) ≡ false → nearest_of t q n ≡ Unfound unsound_table
  unfolding nearest_of
  nearest_unsound s = rw s

  pub nearest_large : sound (cell_of t) ≡ true → 64 ≤ q → nearest_of t q n ≡ Unfound place_too_large
  unfolding nearest_of
  nearest_large s l = rw (s, le-leb 64 q l)

  pub nearest_unused : sound (cell_of t) ≡ true → q < 64 → (cell_of t).land.used q ≡ false → nearest_of t q n ≡ Unfound not_yet_given
  unfolding nearest_of
  nearest_unused s l u = rw (s, lt-leb 64 q l, u)

  pub nearest_used : sound (cell_of t) ≡ true → q < 64 → (cell_of t).land.used q ≡ true
      → nearest_of t q n ≡ found_place (nearest (parent_of (cell_of t).land.place) (place_name (cell_of t).land.place) q n)
  unfolding nearest_of
  nearest_used s l u = rw (s, lt-leb 64 q l, u)

-- ---- the innermost place that holds or is both

module _ (t : Cell) (q r : ℕ) where
  pub common_unsound : sound (cell_of t) ≡ false → common_of t q r ≡ Unfound unsound_table
  unfolding common_of
  common_unsound s = rw s

  pub common_large : sound (cell_of t) ≡ true → (64 ≤ q) ⊎ (64 ≤ r) → common_of t q r ≡ Unfound place_too_large
  unfolding common_of
  common_large s (inl l) = rw (s, le-leb 64 q l)
  common_large s (inr l) = go (told (leb 64 q))
    where
      go : Told (leb 64 q) → common_of t q r ≡ Unfound place_too_large
      go (yea e) = rw (s, e)
      go (nay e) = rw (s, e, le-leb 64 r l)

  pub common_unused : sound (cell_of t) ≡ true → q < 64 → r < 64 → ((cell_of t).land.used q ≡ false) ⊎ ((cell_of t).land.used r ≡ false)
      → common_of t q r ≡ Unfound not_yet_given
  unfolding common_of
  common_unused s l m (inl u) = rw (s, lt-leb 64 q l, lt-leb 64 r m, u)
  common_unused s l m (inr u) = go (told ((cell_of t).land.used q))
    where
      go : Told ((cell_of t).land.used q) → common_of t q r ≡ Unfound not_yet_given
      go (yea e) = rw (s, lt-leb 64 q l, lt-leb 64 r m, e, u)
      go (nay e) = rw (s, lt-leb 64 q l, lt-leb 64 r m, e)

  pub common_used : sound (cell_of t) ≡ true → q < 64 → r < 64 → (cell_of t).land.used q ≡ true → (cell_of t).land.used r ≡ true
      → common_of t q r ≡ found_place (common (parent_of (cell_of t).land.place) q r)
  unfolding common_of
  common_used s l m u v = rw (s, lt-leb 64 q l, lt-leb 64 r m, u, v)
