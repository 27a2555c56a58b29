-- The listing's language (document 02, W8): what may be typed, as trees, and the text of each tree.
-- A text belongs to the language exactly if it is the text of some tree. "Parts in any order": a tree has them as they are typed.
use Rattle.std.specs.Prelude.{◌≡◌, List, [], ◌∷◌, ◌++◌, ℕ, ◌≤◌}
use Rattle.table.specs.Base.{tab}
use Rattle.table.specs.Cell.{plain_name, last_kind}
use Rattle.table.specs.declared.Name.{Name}
use Rattle.table.specs.declared.Action.{Action}
use Rattle.meaning.specs.Text.{ascii, decimal}
use Rattle.meaning.specs.Listing.{action_text, slashed}

-- a text, as its bytes
abbrev pub Text : Type 0
Text = List ℕ

-- ---- what may be typed

-- "names and action numbers 1 to 65,535, keys 0 to 65,535"
pub record Number (least : ℕ) : Type 0 where
  pub value : ℕ
  pub low : least ≤ value
  pub high : value ≤ 65535

-- an action: a kind, "1 enter, 2 exit, 3 open" and 4 release (W11), and its number
pub record TypedAction : Type 0 where
  pub kind : ℕ
  pub from_one : 1 ≤ kind
  pub to_last : kind ≤ last_kind
  pub number : Number 1

-- an agent: its actions in their order, one at least
pub record TypedAgent : Type 0 where
  pub first : TypedAction
  pub further : List TypedAction

-- "three that equal the name may be written or left off"
pub data Keys : Type 0 where
  left_off : Keys
  written : Number 0 → Number 0 → Number 0 → Keys

-- what stands before a place's bracket: its name, and keys or none
pub record TypedName : Type 0 where
  pub name : Number 1
  pub keys : Keys

-- contents: the first part, which is an agent or a place with what it holds, and last what stands beside it, to its right
pub data Contents : Type 0 where
  nothing : Contents
  agent : TypedAgent → Contents → Contents
  place : TypedName → Contents → Contents → Contents

-- ---- what is meant by it

-- the action as an agent's row holds it
unfoldable pub action_of : TypedAction → Action
action_of a = record { kind = a.kind; name = a.number.value }

-- a name with its keys for entering, exiting and opening
abbrev pub with_keys : ℕ → ℕ → ℕ → ℕ → Name
with_keys n enter exit opened = record { name = n; entering = enter; exiting = exit; opening = opened }

-- left off, all three equal the name
unfoldable pub keyed_by : ℕ → Keys → Name
keyed_by n left_off = plain_name n
keyed_by n (written enter exit opened) = with_keys n enter.value exit.value opened.value

-- the name with its keys as a place has it
unfoldable pub name_of : TypedName → Name
unfolding keyed_by
name_of h = keyed_by h.name.value h.keys

-- ---- how it is typed

-- an action, such as `enter 9`: "decimal numbers without leading zeros"
unfoldable pub action_typed : TypedAction → Text
unfolding action_text action_of
action_typed a = action_text (action_of a)

-- actions after the first, each after a full stop
unfoldable pub further_typed : List TypedAction → Text
unfolding action_typed tab
further_typed [] = []
further_typed (a ∷ rest) = ascii "." ++ (action_typed a ++ further_typed rest)

-- an agent, such as `enter 9.exit 9`
unfoldable pub agent_typed : TypedAgent → Text
unfolding action_typed further_typed
agent_typed r = action_typed r.first ++ further_typed r.further

-- the keys for entering, exiting and opening, a slash before each; nothing where they are left off
unfoldable pub keys_typed : Keys → Text
unfolding slashed
keys_typed left_off = []
keys_typed (written enter exit opened) = slashed enter.value ++ (slashed exit.value ++ slashed opened.value)

-- "one space on each side of a bar": the text of what stands beside a part, after a bar; nothing where there is none
unfoldable pub after_bar : Contents → Text → Text
unfolding tab
after_bar nothing text = []
after_bar (agent r beside) text = ascii " | " ++ text
after_bar (place h inside beside) text = ascii " | " ++ text

-- contents: the parts joined by bars; a place is its name and keys, `[`, contents, `]`
unfoldable pub contents_typed : Contents → Text
unfolding agent_typed keys_typed after_bar tab
contents_typed nothing = []
contents_typed (agent r beside) = agent_typed r ++ after_bar beside (contents_typed beside)
contents_typed (place h inside beside) =
    decimal h.name.value ++ (keys_typed h.keys ++
    (ascii "[" ++ (contents_typed inside ++ (ascii "]" ++ after_bar beside (contents_typed beside)))))

-- the whole text: "`0` for a bare floor only, nothing after the end"
unfoldable pub floor_typed : Contents → Text
unfolding contents_typed tab
floor_typed nothing = ascii "0"
floor_typed (agent r beside) = contents_typed (agent r beside)
floor_typed (place h inside beside) = contents_typed (place h inside beside)

-- ---- the language

-- a text of the language, with a tree that it is the text of
pub record Belongs (text : Text) : Type 0 where
  pub floor : Contents
  pub same : floor_typed floor ≡ text

-- some text of the language begins with these bytes
pub record Viable (start : Text) : Type 0 where
  pub rest : Text
  pub belongs : Belongs (start ++ rest)
