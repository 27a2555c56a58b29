-- What the writers are lent, read as functions of numbers, and the text that they make of it.
use Rattle.std.specs.Prelude.{◌≡◌, Bool, true, ◌&&◌, cond, List, [], ◌++◌, ℕ, zero, suc, ◌+◌, ◌<◌, ◌≤◌, eqb, ltb, length, get_or}
use Rattle.sets.specs.Set.{member, empty_set}
use Rattle.table.specs.Base.{tab}
use Rattle.table.specs.Cell.{State, no_place}
use Rattle.table.specs.declared.Name.{Name}
use Rattle.meaning.specs.Text.{ascii, decimal, overlay}
use Rattle.meaning.specs.Listing.{agent_text, lists_in, stands_under, texts_of, slashed, name_text, bracketed, in_order}
use Rattle.text.specs.Wrote.{capped, Fits}
use Rattle.lengths.specs.Longest.{longest_listing}
use Rattle.lister.specs.Listed.{agent_on}
use Rattle.lister.specs.declared.sheet.Sheet.{Sheet}

-- ---- the text

-- ` | `
abbrev pub bar : List ℕ
bar = ascii " | "

-- `.`
abbrev pub dot : List ℕ
dot = ascii "."

-- what is lent: which places stand in a place, which agents are listed in it, names, and agents' texts
pub record Shown : Type 0 where
  pub stands : ℕ → ℕ → Bool
  pub lives : ℕ → ℕ → Bool
  pub name : ℕ → Name
  pub text : ℕ → List ℕ

-- what a sheet shows: the sets of places and of agents, and the names and texts of its cell
abbrev pub sheet_of : Sheet → Shown
sheet_of s = record {
  stands = λ p. member (get_or s.places p empty_set);
  lives = λ p. member (get_or s.agents p empty_set);
  name = λ q. (get_or s.cell.now.places q no_place).name;
  text = agent_on s.cell.now;
}

-- a sheet says what a cell says: of places in use, and of agents where they are listed
pub record Drawn (c : State) (h : Shown) : Type 0 where
  pub stands : (p q : ℕ) → p < 64 → q < 64 → h.stands p q ≡ stands_under (c.land.used q) q (c.land.place q).parent p
  pub lives : (p x : ℕ) → p < 64 → x < 64 → h.lives p x ≡ lists_in (c.given x) (c.agent x) p
  pub name : (q : ℕ) → q < 64 → c.land.used q ≡ true → h.name q ≡ (c.land.place q).name
  pub text : (p x : ℕ) → x < 64 → lists_in (c.given x) (c.agent x) p ≡ true → h.text x ≡ agent_text (c.agent x)

-- the three keys of a name, a slash before each
unfoldable pub keys_text : Name → List ℕ
unfolding slashed
keys_text x = slashed x.entering ++ (slashed x.exiting ++ slashed x.opening)

-- a name and its keys
unfoldable pub keyed_text : Name → List ℕ
unfolding keys_text
keyed_text x = decimal x.name ++ keys_text x

-- a name, with its keys where they do not all equal it, and the bracket that opens the contents
unfoldable pub head_text : Name → List ℕ
unfolding name_text tab
head_text x = name_text x ++ ascii "["

-- the contents of p so many levels deep: agents, then places, each group in byte order
unfoldable pub contents_on : ℕ → Shown → ℕ → List ℕ
unfolding texts_of in_order bracketed
contents_on zero h p = []
contents_on (suc depth) h p = in_order (texts_of (h.lives p) h.text 64) (texts_of (h.stands p) (λ q. bracketed (h.name q) (contents_on depth h q)) 64)

-- a place with its contents so many levels deep
unfoldable pub place_on : ℕ → Shown → ℕ → List ℕ
unfolding bracketed contents_on
place_on depth h q = bracketed (h.name q) (contents_on depth h q)

-- the contents of the floor, or `0` where there are none
unfoldable pub floor_on : Shown → List ℕ
unfolding contents_on tab
floor_on h = cond (eqb (length (contents_on 65 h 0)) 0) (ascii "0") (contents_on 65 h 0)

-- ---- the room that a writer is lent

-- there is room for the whole text, which is no longer than the longest listing
pub record OnPage (text : List ℕ) (at : ℕ) (b : List ℕ) : Type 0 where
  pub fits : Fits text at b
  pub short : length text ≤ longest_listing

-- ---- the whole or nothing

-- the text was written as far as there was room, or, where it had to be whole and there was none for all of it, not at all
pub record WroteIf (whole : Bool) (written : List ℕ) (at : ℕ) (before after : List ℕ) (answer : ℕ) : Type 0 where
  pub count : answer ≡ capped (at + length written)
  pub text : after ≡ cond (whole && ltb (length before) (length written)) before (overlay written before)
