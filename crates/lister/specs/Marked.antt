-- Parts of a text one after the other, a bar between two, and where each of them ends: what a writer hands on to be put in order.
use Rattle.std.specs.Prelude.{◌≡◌, List, [], ◌∷◌, ℕ, ◌≤◌, ◌<◌, length, get_or}
use Rattle.table.specs.Base.{tab}
use Rattle.meaning.specs.Text.{gap, joined, joined_all, overlay}
use Rattle.meaning.specs.Sorted.{sorted}
use Rattle.lengths.specs.Longest.{longest_listing}
use Rattle.lister.specs.Sheet.{bar}

-- texts of which the last stands first, joined by bars in the order in which they came
unfoldable pub barred : List (List ℕ) → List ℕ
unfolding gap tab
barred [] = []
barred (x ∷ earlier) = joined bar (barred earlier) x

-- the same texts in byte order, joined by bars
unfoldable pub grouped : List (List ℕ) → List ℕ
unfolding joined_all sorted
grouped texts = joined_all bar [] (sorted texts)

-- every text has a byte
pub data Filled : List (List ℕ) → Type 0 where
  none : Filled []
  more : {x : List ℕ} {earlier : List (List ℕ)} → 0 < length x → Filled earlier → Filled (x ∷ earlier)

-- where each text ends, counted from the start of the first
pub data Ends (ends : List ℕ) : List (List ℕ) → Type 0 where
  none : Ends ends []
  more : {x : List ℕ} {earlier : List (List ℕ)} → get_or ends (length earlier) 0 ≡ length (barred (x ∷ earlier)) → Ends ends earlier → Ends ends (x ∷ earlier)

-- so many texts lie at the start of a buffer, joined by bars, and it is known where each ends
pub record Marked (texts : List (List ℕ)) (marks : List ℕ) (n : ℕ) (buf : List ℕ) : Type 0 where
  pub many : n ≡ length texts
  pub few : n ≤ 64
  pub filled : Filled texts
  pub ends : Ends marks texts
  pub room : length (barred texts) ≤ length buf
  pub page : length (barred texts) ≤ longest_listing
  pub text : buf ≡ overlay (barred texts) buf

-- some texts do
abbrev pub AnyMarked : List ℕ → ℕ → List ℕ → Type 0
AnyMarked marks n buf = (texts : List (List ℕ)) × Marked texts marks n buf

-- whatever texts did before, they lie there in byte order after
abbrev pub Arranged : List ℕ → ℕ → List ℕ → List ℕ → Type 0
Arranged marks n before after = (texts : List (List ℕ)) → Marked texts marks n before → after ≡ overlay (grouped texts) before
