-- The arrays that a cell is laid out in, read as functions of numbers.
use Rattle.std.specs.Prelude.{cond, List, ℕ, get_or}
use Rattle.sets.specs.Word.{has}
use Rattle.sets.specs.Set.{member}
use Rattle.sets.specs.declared.Set.{Set}
use Rattle.table.specs.Base.{tab}
use Rattle.table.specs.Cell.{no_place}
use Rattle.table.specs.declared.Place.{Place}
use Rattle.lister.specs.Sheet.{Shown}
use Rattle.walked.specs.Packs.{packed_of, unpacked_of}
use Rattle.walked.specs.ActionRows.{row_text}

-- the names of the places in use, each with its keys in one word
unfoldable pub names_of : Set → List Place → List ℕ
names_of used ps = tab (λ q. cond (member used q) (packed_of (get_or ps q no_place).name) 0) 64 0

-- the sheet of the arrays: words of places, words of agents, names, and the rows of agents
abbrev pub sheet_of : List ℕ → List ℕ → List ℕ → List ℕ → List ℕ → List ℕ → Shown
sheet_of places agents names kinds numbers bounds = record {
  stands = λ p. has (get_or places p 0);
  lives = λ p. has (get_or agents p 0);
  name = λ q. unpacked_of (get_or names q 0);
  text = row_text kinds numbers bounds;
}
