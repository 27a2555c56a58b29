-- "It starts as the file says, with nothing travelling and no picks" (document 01, "The plain tree"): what the bytes of a file say of places and
-- agents, record by record, by the lengths of the kinds alone. Definitions only; no cell plays a part in them.
use Rattle.std.specs.Prelude.{true, false, cond, List, [], ◌∷◌, ◌++◌, ℕ, zero, suc, ◌+◌, eqb, length}
use Rattle.order.specs.Row.{loaded_row}
use Rattle.table.specs.Base.{upd}
use Rattle.table.specs.Cell.{none, no_name, plain_name}
use Rattle.table.specs.declared.Name.{Name}
use Rattle.table.specs.declared.Action.{Action}
use Rattle.meaning.specs.File.{byte_at, name_at, keyed_name}
use Rattle.meaning.specs.Calculus.{Tree, with_tree_used, with_tree_names, with_tree_parents, with_tree_homes, with_tree_unused}
use Rattle.meaning.specs.Plain.{Plain}
use Rattle.demands.specs.FirstCome.{places_in, lasts}

-- ---- what one record says

-- "A load starts from a bare floor": the floor is in use and has no name, nothing stands on it, and nobody has an action
abbrev pub bare_tree : Tree
bare_tree = record { used = λ q. eqb q 0; name = λ q. no_name; parent = λ q. 0; home = λ x. 0; unused = λ x. [] }

-- "1 place: number, parent, name (2 bytes)": the number is in use, with this name and its keys, and stands in the parent
unfoldable pub with_place_record : Tree → ℕ → ℕ → Name → Tree
with_place_record t number parent name = with_tree_parents (with_tree_names (with_tree_used t (upd t.used number true)) (upd t.name number name))
    (upd t.parent number parent)

-- "2 agent: number, place it lives in"
unfoldable pub with_agent_record : Tree → ℕ → ℕ → Tree
with_agent_record t number home = with_tree_homes t (upd t.home number home)

-- "3 action: agent, action kind, name (2 bytes), put after that agent's earlier ones"
unfoldable pub with_action_record : Tree → ℕ → Action → Tree
with_action_record t agent action = with_tree_unused t (upd t.unused agent (t.unused agent ++ (action ∷ [])))

-- ---- what all records say

-- a tree with what the records from an offset on say, by the lengths of the kinds alone: five bytes for a place (1) or an action (3), three for
-- an agent (2), six for touches (5), of which a tree knows nothing, eleven for a place with keys (6), and the end (4)
unfoldable pub with_records : ℕ → Tree → List ℕ → ℕ → Tree
unfolding with_place_record with_agent_record with_action_record
with_records zero t s at = t
with_records (suc turns) t s at =
    cond (eqb (byte_at s at) 1) (with_records turns (with_place_record t (byte_at s (at + 1)) (byte_at s (at + 2)) (plain_name (name_at s at))) s (at + 5))
    (cond (eqb (byte_at s at) 2) (with_records turns (with_agent_record t (byte_at s (at + 1)) (byte_at s (at + 2))) s (at + 3))
    (cond (eqb (byte_at s at) 3)
    (with_records turns (with_action_record t (byte_at s (at + 1)) (record { kind = byte_at s (at + 2); name = name_at s at })) s (at + 5))
    (cond (eqb (byte_at s at) 5) (with_records turns t s (at + 6))
    (cond (eqb (byte_at s at) 6) (with_records turns (with_place_record t (byte_at s (at + 1)) (byte_at s (at + 2)) (keyed_name s at)) s (at + 11)) t))))

-- the tree that a whole file says
unfoldable pub tree_in : List ℕ → Tree
unfolding with_records
tree_in s = with_records (suc (length s)) bare_tree s 0

-- the plain tree that it says: "with nothing travelling and no picks"; "Loaded places count in file order" (document 02, W5)
unfoldable pub plain_in : List ℕ → Plain
unfolding tree_in places_in lasts loaded_row
plain_in s = record { tree = tree_in s; travels = λ q. false; pick = λ x. none; order = loaded_row (lasts (places_in s)) }
