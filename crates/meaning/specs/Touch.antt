-- Touch calls (document 02, W3): "A touch call adds a four-byte number to a place."
use Rattle.std.specs.Prelude.{ℕ, ◌+◌, cond, leb}
use Rattle.table.specs.Base.{upd}
use Rattle.table.specs.Cell.{State, cell_of, table_of}
use Rattle.table.specs.Sound.{sound, touch_sum, most_touches}
use Rattle.table.specs.declared.Cell.{Cell}
use Rattle.meaning.specs.Answers.{Touching, Count, Untouched}
use Rattle.meaning.specs.declared.Touched.{Touched}
use Rattle.meaning.specs.Refusals.{place_too_large, not_yet_given, unsound_table, too_many_touches}
use Rattle.meaning.specs.Update.{with_touches}

-- place q with n touches more
abbrev pub add_touches : State → ℕ → ℕ → State
add_touches c q n = with_touches c (upd c.touches q (c.touches q + n))

-- "A touch call answers the place's new count"
unfoldable pub counted : State → ℕ → ℕ → Touched
counted c q n = record { cell = table_of (add_touches c q n); answer = Count (c.touches q + n) }

-- a refusal changes nothing
unfoldable pub untouched : Cell → ℕ → Touched
untouched t number = record { cell = t; answer = Untouched number }

-- the touch call: 10 first; "or 3 for a place above 63 and 5 for an unused one"; "15, last in a touch call", if the sum would pass the bound
unfoldable pub touch_of : Cell → ℕ → ℕ → Touched
unfolding counted untouched
touch_of t q n =
    cond (sound (cell_of t))
    (cond (leb 64 q) (untouched t place_too_large)
    (cond ((cell_of t).land.used q)
    (cond (leb (touch_sum (cell_of t) + n) most_touches) (counted (cell_of t) q n) (untouched t too_many_touches))
    (untouched t not_yet_given)))
    (untouched t unsound_table)

-- the touches of a place, asked for: refused as a touch call is
unfoldable pub touches_of : Cell → ℕ → Touching
touches_of t q =
    cond (sound (cell_of t))
    (cond (leb 64 q) (Untouched place_too_large)
    (cond ((cell_of t).land.used q) (Count ((cell_of t).touches q)) (Untouched not_yet_given)))
    (Untouched unsound_table)
