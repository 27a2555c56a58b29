-- The ambient calculus on a tree of places (document 01, "The plain tree"): what it permits and what a move makes.
-- Red Enter and Red Exit of source 002 section 2.3 and Red Open of source 004, by themselves: no lock, stage or wish plays a part. Beside them
-- release: "Release counts as a move of the calculus, permitted while a number is unused" (document 02, W11).
-- A name holds its keys as in source 002 section 4.4, and "named n" is read with the key of the action's kind (document 02, W6).
use Rattle.std.specs.Prelude.{ℕ, ◌≡◌, Bool, true, false, not, ◌&&◌, cond, List, [], ◌∷◌, ltb, eqb}
use Rattle.table.specs.Base.{upd}
use Rattle.table.specs.Cell.{no_name, plain_name, no_action, enter_kind, exit_kind, open_kind, release_kind, key_of, fresh_number}
use Rattle.table.specs.declared.Name.{Name}
use Rattle.table.specs.declared.Action.{Action}

-- the places in use with their names and keys and where each stands, the agents' homes and unused actions in order
pub record Tree : Type 0 where
  pub used : ℕ → Bool
  pub name : ℕ → Name
  pub parent : ℕ → ℕ
  pub home : ℕ → ℕ
  pub unused : ℕ → List Action

-- ---- one part of a tree written anew: besides treeFrom, and bareTree of demands, the only definitions that write one out

abbrev pub with_tree_used : Tree → (ℕ → Bool) → Tree
with_tree_used t f = record { used = f; name = t.name; parent = t.parent; home = t.home; unused = t.unused }

abbrev pub with_tree_names : Tree → (ℕ → Name) → Tree
with_tree_names t f = record { used = t.used; name = f; parent = t.parent; home = t.home; unused = t.unused }

abbrev pub with_tree_parents : Tree → (ℕ → ℕ) → Tree
with_tree_parents t f = record { used = t.used; name = t.name; parent = f; home = t.home; unused = t.unused }

abbrev pub with_tree_homes : Tree → (ℕ → ℕ) → Tree
with_tree_homes t f = record { used = t.used; name = t.name; parent = t.parent; home = f; unused = t.unused }

abbrev pub with_tree_unused : Tree → (ℕ → List Action) → Tree
with_tree_unused t f = record { used = t.used; name = t.name; parent = t.parent; home = t.home; unused = f }

-- ---- actions

-- "only an agent's next action counts"
abbrev pub first_of : List Action → Action
first_of [] = no_action
first_of (x ∷ rest) = x

-- "the action is used up"
abbrev pub rest_of : List Action → List Action
rest_of [] = []
rest_of (x ∷ rest) = rest

-- the next action of agent a
abbrev pub next_of : Tree → ℕ → Action
next_of t a = first_of (t.unused a)

-- place q stands in p; the floor stands in none
unfoldable pub stands_at : Tree → ℕ → ℕ → Bool
stands_at t q p = t.used q && (not (eqb q 0) && eqb (t.parent q) p)

-- ---- what is permitted

-- "enter n if another place named n stands beside the agent's own": n[enter m.P | Q] | m[R]
unfoldable pub may_enter : Tree → ℕ → ℕ → Bool
unfolding stands_at
may_enter t a m =
    not (eqb (t.home a) 0)
    && (stands_at t m (t.parent (t.home a)) && (not (eqb m (t.home a)) && eqb (key_of enter_kind (t.name m)) (next_of t a).name))

-- "exit n if its own stands in a place named n": m[n[exit m.P | Q] | R]
unfoldable pub may_exit : Tree → ℕ → ℕ → Bool
may_exit t a m = not (eqb (t.home a) 0) && (eqb m (t.parent (t.home a)) && eqb (key_of exit_kind (t.name m)) (next_of t a).name)

-- "open n if a place named n stands in its own": open n.P | n[Q]
unfoldable pub may_open : Tree → ℕ → ℕ → Bool
unfolding stands_at
may_open t a m = stands_at t m (t.home a) && eqb (key_of open_kind (t.name m)) (next_of t a).name

-- "a number is unused"
unfoldable pub has_room : Tree → Bool
has_room t = ltb (fresh_number t.used) 64

-- release n "permitted while a number is unused": release n.P; m is the number that the new place gets, "the smallest number unused"
unfoldable pub may_release : Tree → ℕ → Bool
unfolding has_room
may_release t m = has_room t && eqb m (fresh_number t.used)

-- the calculus permits agent a its next action on place m: the one entered, left, opened or put out
unfoldable pub permits : Tree → ℕ → ℕ → Bool
unfolding may_enter may_exit may_open may_release
permits t a m =
    cond (eqb (next_of t a).kind enter_kind) (may_enter t a m)
    (cond (eqb (next_of t a).kind exit_kind) (may_exit t a m)
    (cond (eqb (next_of t a).kind open_kind) (may_open t a m)
    (cond (eqb (next_of t a).kind release_kind) (may_release t m) false)))

-- ---- what a move makes

-- the action is used up
abbrev pub used_up : Tree → ℕ → Tree
used_up t a = with_tree_unused t (upd t.unused a (rest_of (t.unused a)))

-- the agent's own place stands in d, the action is used up
unfoldable pub put_into : Tree → ℕ → ℕ → Tree
put_into t a d = used_up (with_tree_parents t (upd t.parent (t.home a) d)) a

-- places and agents in m go to the agent's own place, m's number becomes unused, the action is used up
unfoldable pub open_up : Tree → ℕ → ℕ → Tree
open_up t a m = used_up
    (with_tree_homes
    (with_tree_parents (with_tree_names (with_tree_used t (upd t.used m false)) (upd t.name m no_name))
    (λ q. cond (eqb q m) 0 (cond (eqb (t.parent q) m) (t.home a) (t.parent q))))
    (λ x. cond (eqb (t.home x) m) (t.home a) (t.home x)))
    a

-- "`release n.P` becomes `n[] | P`": a new place m named n, with "all keys n", stands in the agent's own place, the action is used up
unfoldable pub put_out : Tree → ℕ → ℕ → Tree
put_out t a m = used_up
    (with_tree_parents (with_tree_names (with_tree_used t (upd t.used m true)) (upd t.name m (plain_name (next_of t a).name)))
    (upd t.parent m (t.home a)))
    a

-- the tree after agent a's next action on m: enter m, exit to where the place around its own stands, open m, or put out m
unfoldable pub move : Tree → ℕ → ℕ → Tree
unfolding put_into open_up put_out
move t a m =
    cond (eqb (next_of t a).kind enter_kind) (put_into t a m)
    (cond (eqb (next_of t a).kind exit_kind) (put_into t a (t.parent (t.parent (t.home a))))
    (cond (eqb (next_of t a).kind open_kind) (open_up t a m)
    (put_out t a m)))

-- one move of agent a that the calculus permits, from t to u
pub record Move (t : Tree) (a : ℕ) (u : Tree) : Type 0 where
  pub place : ℕ
  pub permitted : permits t a place ≡ true
  pub result : u ≡ move t a place
