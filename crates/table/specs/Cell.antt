-- The cell as total functions over numbers, and the table of such a cell (document 01, "The cell").
use Rattle.std.specs.Prelude.{ℕ, ◌-◌, Bool, not, ◌&&◌, ◌||◌, cond, List, [], ◌∷◌, ltb, leb, eqb, get_or, replicate}
use Rattle.sets.specs.Word.{has, word_of, lowest_of}
use Rattle.sets.specs.Set.{member}
use Rattle.sets.specs.declared.Set.{Set}
use Rattle.order.specs.Row.{counting_row}
use Rattle.table.specs.Base.{tab}
use Rattle.table.specs.declared.Name.{Name}
use Rattle.table.specs.declared.Place.{Place}
use Rattle.table.specs.declared.Action.{Action}
use Rattle.table.specs.declared.Agent.{Agent}
use Rattle.table.specs.declared.Cell.{Cell}

-- ---- the stages of an agent

-- "0 looking"
abbrev pub looking : ℕ
looking = 0

-- "1 found"
abbrev pub found : ℕ
found = 1

-- "2 holding p"
abbrev pub holding : ℕ
holding = 2

-- "3 holding both"
abbrev pub holding_both : ℕ
holding_both = 3

-- "4 on its way"
abbrev pub on_way : ℕ
on_way = 4

-- on its way, holding its own place
abbrev pub on_way_own : ℕ
on_way_own = 5

-- on its way, holding its own place and the destination
abbrev pub on_way_both : ℕ
on_way_both = 6

-- "7: asleep. 8: done."
abbrev pub asleep : ℕ
asleep = 7

abbrev pub done : ℕ
done = 8

-- ---- names and empty values

-- no name and no keys: "0 means nobody may" (document 02, W6)
abbrev pub no_name : Name
no_name = record { name = 0; entering = 0; exiting = 0; opening = 0 }

-- "Kind 1 sets all three to the name" (document 02, W6): a name without keys of its own
abbrev pub plain_name : ℕ → Name
plain_name n = record { name = n; entering = n; exiting = n; opening = n }

-- a place that is not in use
abbrev pub no_place : Place
no_place = record { name = no_name; parent = 0; way = 0 }

-- no action: kind 0
abbrev pub no_action : Action
no_action = record { kind = 0; name = 0 }

-- what is read past the last agent
abbrev pub no_agent : Agent
no_agent = record { home = 0; stage = looking; remembered = 0; chosen = 0; next = 0; count = 0; actions = [] }

-- an agent that no record gave: on the floor, without actions, done
abbrev pub fresh_agent : Agent
fresh_agent = record { home = 0; stage = done; remembered = 0; chosen = 0; next = 0; count = 0; actions = replicate 16 no_action }

-- "Place 0 is the floor: name 0, no parent, never moves": it is not linked; of its keys "the floor's are 0" (document 02, W6)
abbrev pub floor_place : Place
floor_place = record { name = no_name; parent = 0; way = 1 }

-- the number that stands for no place and no agent; a lock that is free holds it
abbrev pub none : ℕ
none = 64

-- ---- the cell

-- the places without their locks: what each is, which numbers are in use, and all numbers in a row, the place first that "has been under
-- this parent longest" (document 02, W5)
pub record Land : Type 0 where
  pub place : ℕ → Place
  pub used : ℕ → Bool
  pub order : List ℕ

-- places, "a lock, free or held by one agent" for each, the agents given, and for each place "a touch count" (document 02, W3)
pub record State : Type 0 where
  pub land : Land
  pub lock : ℕ → ℕ
  pub agent : ℕ → Agent
  pub given : ℕ → Bool
  pub touches : ℕ → ℕ

-- the land of a table's places, the set of those in use and their row
abbrev pub land_of : List Place → Set → List ℕ → Land
land_of ps used row = record { place = λ q. get_or ps q no_place; used = member used; order = row }

-- the cell that a table holds
unfoldable pub cell_of : Cell → State
cell_of t = record {
  land = land_of t.places t.used t.order;
  lock = λ q. get_or t.locks q 0;
  agent = λ x. get_or t.agents x no_agent;
  given = has t.given.bits;
  touches = λ q. get_or t.touches q 0;
}

-- the table that holds a cell
unfoldable pub table_of : State → Cell
table_of c = record {
  places = tab c.land.place 64 0;
  locks = tab c.lock 64 0;
  agents = tab c.agent 64 0;
  used = record { bits = word_of 64 c.land.used };
  given = record { bits = word_of 64 c.given };
  touches = tab c.touches 64 0;
  order = c.land.order;
}

-- "A load starts from a bare floor": one place, no lock held, no agents; a touch count, "starting at 0";
-- the row as the numbers are counted
unfoldable pub bare_table : Cell
bare_table = record {
  places = floor_place ∷ replicate 63 no_place;
  locks = replicate 64 none;
  agents = replicate 64 fresh_agent;
  used = record { bits = 1 };
  given = record { bits = 0 };
  touches = replicate 64 0;
  order = counting_row;
}

-- ---- one array or set of a table written anew: besides table_of and bareTable the only definitions that write a table out

abbrev pub put_places : Cell → List Place → Cell
put_places t ps = record { places = ps; locks = t.locks; agents = t.agents; used = t.used; given = t.given; touches = t.touches; order = t.order }

abbrev pub put_locks : Cell → List ℕ → Cell
put_locks t ls = record { places = t.places; locks = ls; agents = t.agents; used = t.used; given = t.given; touches = t.touches; order = t.order }

abbrev pub put_agents : Cell → List Agent → Cell
put_agents t s = record { places = t.places; locks = t.locks; agents = s; used = t.used; given = t.given; touches = t.touches; order = t.order }

abbrev pub put_used : Cell → Set → Cell
put_used t s = record { places = t.places; locks = t.locks; agents = t.agents; used = s; given = t.given; touches = t.touches; order = t.order }

abbrev pub put_given : Cell → Set → Cell
put_given t s = record { places = t.places; locks = t.locks; agents = t.agents; used = t.used; given = s; touches = t.touches; order = t.order }

abbrev pub put_touches : Cell → List ℕ → Cell
put_touches t ns = record { places = t.places; locks = t.locks; agents = t.agents; used = t.used; given = t.given; touches = ns; order = t.order }

abbrev pub put_order : Cell → List ℕ → Cell
put_order t row = record { places = t.places; locks = t.locks; agents = t.agents; used = t.used; given = t.given; touches = t.touches; order = row }

-- ---- reading

-- "a place other than the floor is linked to a parent or on its way to a destination"
unfoldable pub linked : Land → ℕ → Bool
linked l q = l.used q && eqb (l.place q).way 0

-- q is linked to p
unfoldable pub linked_to : Land → ℕ → ℕ → Bool
linked_to l q p = l.used q && (eqb (l.place q).way 0 && eqb (l.place q).parent p)

-- q is on its way; the floor never is
unfoldable pub travels : Land → ℕ → Bool
travels l q = l.used q && (not (eqb q 0) && not (eqb (l.place q).way 0))

-- "the smallest unused number" (document 02, W11), 64 "with all numbers in use"; the floor always is in use, so it is from 1 to 63
unfoldable pub fresh_number : (ℕ → Bool) → ℕ
unfolding lowest_of
fresh_number used = lowest_of 64 (λ q. not (used q))

-- ---- the kinds of an action: "1 enter, 2 exit, 3 open", and "Action kind 4, release n" (document 02, W11)

abbrev pub enter_kind : ℕ
enter_kind = 1

abbrev pub exit_kind : ℕ
exit_kind = 2

abbrev pub open_kind : ℕ
open_kind = 3

abbrev pub release_kind : ℕ
release_kind = 4

-- the highest of them
abbrev pub last_kind : ℕ
last_kind = release_kind

-- an action of this kind looks at its agent's own place, any other at the place around that: open, and release ("the agent looks at its own
-- place")
abbrev pub looks_home : ℕ → Bool
looks_home kind = leb open_kind kind

-- "Enter and open choose the wished place": the kinds of action that choose a place; an exit and a release choose none
abbrev pub chooses : ℕ → Bool
chooses kind = eqb kind enter_kind || eqb kind open_kind

-- "An action's number is compared with the key of its kind on the place entered, left or opened" (document 02, W6): the key of a kind
abbrev pub key_of : ℕ → Name → ℕ
key_of kind x = cond (eqb kind enter_kind) x.entering (cond (eqb kind exit_kind) x.exiting x.opening)

-- an action is left
abbrev pub has_action : Agent → Bool
has_action a = ltb a.next a.count

-- the next action, or none of kind 0 where none is left
unfoldable pub next_action : Agent → Action
next_action a = cond (has_action a) (cond (ltb a.next 16) (get_or a.actions a.next no_action) no_action) no_action

-- "a kind and a name" of the next action
abbrev pub kind_of : Agent → ℕ
kind_of a = (next_action a).kind

abbrev pub name_of : Agent → ℕ
name_of a = (next_action a).name

-- where a row of so many actions ends: it has room for sixteen
unfoldable pub row_end : ℕ → ℕ
row_end count = cond (ltb count 16) count 16

-- the unused actions, in order
unfoldable pub unused : Agent → List Action
unused a = tab (λ j. get_or a.actions j no_action) (row_end a.count - a.next) a.next

-- there are some
abbrev pub has_unused : Agent → Bool
has_unused a = ltb a.next 16 && has_action a
