-- The listing (document 01, "The listing"): "A term, in ASCII: a place writes its contents and contents write places."
use Rattle.std.specs.Prelude.{ℕ, zero, suc, ◌≡◌, Bool, not, ◌&&◌, cond, List, [], ◌∷◌, ◌++◌, ltb, leb, eqb, length, get_or}
use Rattle.table.specs.Base.{tab, fold_up}
use Rattle.table.specs.Cell.{Land, State, no_action, has_unused, enter_kind, exit_kind, open_kind}
use Rattle.table.specs.Sound.{sound}
use Rattle.table.specs.declared.Name.{Name}
use Rattle.table.specs.declared.Action.{Action}
use Rattle.table.specs.declared.Agent.{Agent}
use Rattle.meaning.specs.Answers.{Listed, Length, Unlisted}
use Rattle.meaning.specs.Refusals.{unsound_table, too_long}
use Rattle.meaning.specs.Text.{ascii, decimal, gap, joined, joined_all, overlay}
use Rattle.meaning.specs.Sorted.{sorted}

-- ---- agents

unfoldable pub kind_text : ℕ → List ℕ
unfolding tab
kind_text kind =
    cond (eqb kind enter_kind) (ascii "enter ")
    (cond (eqb kind exit_kind) (ascii "exit ")
    (cond (eqb kind open_kind) (ascii "open ")
    (ascii "release ")))

-- an action, such as `enter 9`
unfoldable pub action_text : Action → List ℕ
unfolding kind_text
action_text x = kind_text x.kind ++ decimal x.name

-- the action at j is one of the unused ones
abbrev pub is_unused : Agent → ℕ → Bool
is_unused a j = leb a.next j && ltb j a.count

-- one action more, after a full stop
abbrev pub action_turn : Agent → ℕ → List ℕ → List ℕ
action_turn a j s = cond (is_unused a j) (joined (ascii ".") s (action_text (get_or a.actions j no_action))) s

-- "An agent is its unused actions, such as `enter 9.exit 9`"
unfoldable pub agent_text : Agent → List ℕ
unfolding action_text gap tab
agent_text a = fold_up (action_turn a) 16 []

-- an agent with unused actions that lives in p
unfoldable pub lists_in : Bool → Agent → ℕ → Bool
lists_in given a p = given && (has_unused a && eqb a.home p)

-- the texts of those below n that are meant, the highest first
unfoldable pub texts_of : (ℕ → Bool) → (ℕ → List ℕ) → ℕ → List (List ℕ)
texts_of meant text zero = []
texts_of meant text (suc n) = cond (meant n) (text n ∷ texts_of meant text n) (texts_of meant text n)

-- the texts of the agents with unused actions that live in p
unfoldable pub agent_texts : State → ℕ → List (List ℕ)
unfolding lists_in agent_text
agent_texts c p = texts_of (λ x. lists_in (c.given x) (c.agent x) p) (λ x. agent_text (c.agent x)) 64

-- ---- places

-- place q stands in p; the floor stands in none, and "a place on its way stands in its destination"
unfoldable pub stands_under : Bool → ℕ → ℕ → ℕ → Bool
stands_under used q parent p = used && (not (eqb q 0) && eqb parent p)

-- "Kind 1 sets all three to the name" (document 02, W6): the keys all equal the name
unfoldable pub is_plain : Name → Bool
is_plain x = eqb x.entering x.name && (eqb x.exiting x.name && eqb x.opening x.name)

-- "a slash before each"
unfoldable pub slashed : ℕ → List ℕ
unfolding tab
slashed key = ascii "/" ++ decimal key

-- "A place whose keys all equal its name is listed as before; any other as name and the three keys, a slash before each"
unfoldable pub name_text : Name → List ℕ
unfolding is_plain slashed
name_text x = decimal x.name ++ cond (is_plain x) [] (slashed x.entering ++ (slashed x.exiting ++ slashed x.opening))

-- "A place is its decimal name, `[`, contents, `]`", and with keys these "then the bracket"
unfoldable pub bracketed : Name → List ℕ → List ℕ
unfolding name_text tab
bracketed name contents = ((name_text name ++ ascii "[") ++ contents) ++ ascii "]"

-- the texts of the places that stand in p, where text tells the contents of each
unfoldable pub place_texts : Land → ℕ → (ℕ → List ℕ) → List (List ℕ)
unfolding stands_under bracketed
place_texts l p text = texts_of (λ q. stands_under (l.used q) q (l.place q).parent p) (λ q. bracketed (l.place q).name (text q)) 64

-- "Within contents, agents come first, then places, each group in byte order of its own text" (document 02, W7), "joined by ` | `"
unfoldable pub in_order : List (List ℕ) → List (List ℕ) → List ℕ
unfolding sorted joined_all tab
in_order agents places = joined_all (ascii " | ") [] (sorted agents ++ sorted places)

-- the contents of p, so many levels deep
unfoldable pub contents_text : ℕ → State → ℕ → List ℕ
unfolding agent_texts place_texts in_order
contents_text zero c p = []
contents_text (suc depth) c p = in_order (agent_texts c p) (place_texts c.land p (contents_text depth c))

-- "An empty floor is `0`"; no place of a sound table is more than 63 levels deep
unfoldable pub listing : State → List ℕ
unfolding contents_text tab
listing c = cond (eqb (length (contents_text 65 c 0)) 0) (ascii "0") (contents_text 65 c 0)

-- "Two layouts are taken as alike when their listings are equal."
abbrev pub Alike : State → State → Type 0
Alike c d = listing c ≡ listing d

-- ---- the call

-- "Calls on a table test 10 first, then 12": "the call answers the length"
unfoldable pub list_answer : State → List ℕ → Listed
unfolding listing sound
list_answer c buffer =
    cond (sound c) (cond (leb (length (listing c)) (length buffer)) (Length (length (listing c))) (Unlisted too_long))
    (Unlisted unsound_table)

-- "bytes past the listing stay untouched", and a refusal leaves the whole buffer
unfoldable pub list_buffer : State → List ℕ → List ℕ
unfolding listing overlay sound
list_buffer c buffer =
    cond (sound c) (cond (leb (length (listing c)) (length buffer)) (overlay (listing c) buffer) buffer) buffer
