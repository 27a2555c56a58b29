-- Bytes that add nothing to the cell and neither open nor close a place, read one after the other.
use Rattle.std.specs.Prelude.{◌≡◌, List, [], ◌∷◌, ℕ, ◌+◌, ◌<◌, length, get_or}
use Rattle.language.specs.declared.Control.{Control}
use Rattle.language.specs.declared.Event.TheVariants.{Nothing}
use Rattle.language.specs.declared.Moved.TheVariants.{To}
use Rattle.language.specs.Grammar.{Text}
use Rattle.language.specs.Machine.{next}

-- the word w stands in the text s at i
abbrev pub Stands : Text → ℕ → List ℕ → Type 0
Stands s i w = (j : ℕ) → j < length w → (i + j < length s) × (get_or s (i + j) 0 ≡ get_or w j 0)

-- before the byte at i what was read last is c; before a later one it is another state, and no byte between adds anything
pub data Stretch (s : Text) (i : ℕ) (c : Control) : ℕ → Control → Type 0 where
  still : Stretch s i c i c
  further : {j : ℕ} {k : Control} → Stretch s i c j k → j < length s → (m : Control) → ((d : ℕ) → To m d Nothing ≡ next k d (get_or s j 0))
      → Stretch s i c (j + 1) m

-- the bytes of a word lead from one state to another, and add nothing
pub data Spells : Control → List ℕ → Control → Type 0 where
  none : {c : Control} → Spells c [] c
  byte : {c m k : Control} {b : ℕ} {w : List ℕ} → ((d : ℕ) → To m d Nothing ≡ next c d b) → Spells m w k → Spells c (b ∷ w) k
