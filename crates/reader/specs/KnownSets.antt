-- What was given so far, as the reader keeps it: four sets.
use Rattle.std.specs.Prelude.{ℕ, ◌+◌, List}
use Rattle.sets.specs.Set.{member}
use Rattle.sets.specs.declared.Set.{Set}
use Rattle.table.specs.declared.Name.{Name}
use Rattle.meaning.specs.declared.Record.{Record}
use Rattle.meaning.specs.File.{Known, byte_at, place_record}

-- used, given: the places and agents so far; full: the agents with sixteen actions; counted: the places whose touches were given
abbrev pub known_by : Set → Set → Set → Set → Known
known_by used given full counted = record { places = member used; agents = member given; full = member full; counted = member counted }

-- the place record that starts at `at` and gives this name, after the places in used
abbrev pub place_named : Set → List ℕ → ℕ → Name → Record
place_named used s at name =
    place_record (member used (byte_at s (at + 1))) (member used (byte_at s (at + 2))) (byte_at s (at + 1)) (byte_at s (at + 2)) name
