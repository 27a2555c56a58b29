-- Rows of sixteen actions, one for each agent: what is copied into them, and the text that they make.
use Rattle.std.specs.Prelude.{◌≡◌, ◌⊎◌, true, ◌&&◌, cond, List, [], ◌++◌, ℕ, ◌+◌, ◌*◌, ◌/◌, ◌%◌, ◌<◌, ◌≤◌, ltb, leb, length, get_or}
use Rattle.sets.specs.declared.Set.{Set}
use Rattle.table.specs.Base.{tab, fold_up}
use Rattle.table.specs.Cell.{no_agent, no_action}
use Rattle.table.specs.declared.Agent.{Agent}
use Rattle.meaning.specs.Text.{decimal, gap, joined}
use Rattle.meaning.specs.Listing.{kind_text}
use Rattle.text.specs.Wrote.{least}
use Rattle.lister.specs.Sheet.{dot}
use Rattle.lister.specs.Listed.{is_listed}

-- ---- where an agent's unused actions begin and end, in one word

-- where they begin in its lower eight bits, and where they end above
abbrev pub bounds_of : Agent → ℕ
bounds_of a = a.next + 256 * a.count

-- where they begin, of a word
abbrev pub first_of : ℕ → ℕ
first_of word = word % 256

-- and where they end
abbrev pub end_of : ℕ → ℕ
end_of word = word / 256

-- ---- the rows

-- the kind of an agent's action j
abbrev pub kind_of : Agent → ℕ → ℕ
kind_of a j = (get_or a.actions j no_action).kind

-- and its number
abbrev pub number_of : Agent → ℕ → ℕ
number_of a j = (get_or a.actions j no_action).name

-- the values of f from `first` to before `end` were copied into a row, each to its place there, and nothing else is changed
pub record Copied (f : ℕ → ℕ) (row first end : ℕ) (before after : List ℕ) : Type 0 where
  pub inside : (j : ℕ) → first ≤ j → j < end → get_or after (row + j) 0 ≡ f j
  pub outside : (i : ℕ) → (i < row + first) ⊎ (row + end ≤ i) → get_or after i 0 ≡ get_or before i 0
  pub long : length after ≡ length before

-- the rows of the agents below i that are listed: where their unused actions begin and end, and the kind and number of each
pub record Rows (given : Set) (crew : List Agent) (bounds kinds numbers : List ℕ) (i : ℕ) : Type 0 where
  pub bound : (x : ℕ) → x < i → is_listed given crew x ≡ true → get_or bounds x 0 ≡ bounds_of (get_or crew x no_agent)
  pub kind : (x j : ℕ) → x < i → is_listed given crew x ≡ true → (get_or crew x no_agent).next ≤ j → j < least (get_or crew x no_agent).count 16
      → get_or kinds (16 * x + j) 0 ≡ kind_of (get_or crew x no_agent) j
  pub number : (x j : ℕ) → x < i → is_listed given crew x ≡ true → (get_or crew x no_agent).next ≤ j → j < least (get_or crew x no_agent).count 16
      → get_or numbers (16 * x + j) 0 ≡ number_of (get_or crew x no_agent) j

-- ---- the text

-- the action at j of a row of kinds and numbers
abbrev pub action_on : List ℕ → List ℕ → ℕ → ℕ → List ℕ
action_on kinds numbers row j = kind_text (get_or kinds (row + j) 0) ++ decimal (get_or numbers (row + j) 0)

-- the actions of a row of sixteen from `first` to before `end`, joined by full stops
unfoldable pub row_from : List ℕ → List ℕ → ℕ → ℕ → ℕ → List ℕ
unfolding gap tab
row_from kinds numbers row first end = fold_up (λ j s. cond (leb first j && ltb j end) (joined dot s (action_on kinds numbers row j)) s) 16 []

-- the text of agent x, by the rows
abbrev pub row_text : List ℕ → List ℕ → List ℕ → ℕ → List ℕ
row_text kinds numbers bounds x = row_from kinds numbers (16 * x) (first_of (get_or bounds x 0)) (end_of (get_or bounds x 0))
