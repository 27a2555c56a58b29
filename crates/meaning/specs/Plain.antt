-- The plain tree (document 01, "The plain tree"): "It is kept beside the cell from each step call's agent, wish and answered word, and
-- from nothing else."
use Rattle.std.specs.Prelude.{ℕ, ◌≡◌, Bool, true, false, ◌||◌, cond, List, [], ◌∷◌, eqb, Ok, Err}
use Rattle.order.specs.Row.{later, latest}
use Rattle.table.specs.Base.{upd}
use Rattle.table.specs.Cell.{Land, State, none, no_name, unused, looks_home, chooses, fresh_number}
use Rattle.table.specs.declared.Action.{Action}
use Rattle.meaning.specs.declared.Word.{Word}
use Rattle.meaning.specs.declared.Word.TheVariants.{Looked, Took, Held, Back, Slept, Left, Came, Opened, Put, Asleep, Done}
use Rattle.meaning.specs.Step.{choose}
use Rattle.meaning.specs.Calculus.{Tree, next_of, stands_at, move, Move}
use Rattle.meaning.specs.Run.{Call, agent_of, wish_of, Reply, step_reply, touch_reply}

-- "It knows each place's name and where it stands, each agent's home and unused actions, which places travel, and a pick for each agent";
-- 64 is no pick. "The plain tree knows this order too, from the file and the words came and opened, and picks by it" (document 02, W5);
-- since W11 also from put
pub record Plain : Type 0 where
  pub tree : Tree
  pub travels : ℕ → Bool
  pub pick : ℕ → ℕ
  pub order : List ℕ

-- ---- one part of a plain tree written anew: besides plain_of, and plainIn of demands, the only definitions that write one out

abbrev pub with_tree : Plain → Tree → Plain
with_tree t u = record { tree = u; travels = t.travels; pick = t.pick; order = t.order }

abbrev pub with_travels : Plain → (ℕ → Bool) → Plain
with_travels t f = record { tree = t.tree; travels = f; pick = t.pick; order = t.order }

abbrev pub with_picks : Plain → (ℕ → ℕ) → Plain
with_picks t f = record { tree = t.tree; travels = t.travels; pick = f; order = t.order }

abbrev pub with_row : Plain → List ℕ → Plain
with_row t row = record { tree = t.tree; travels = t.travels; pick = t.pick; order = row }

-- ---- the start

-- the tree of places, and of agents' homes and unused actions; a place that is not in use has no name and stands at 0. The plain tree
-- "keeps and compares keys as it does names" (document 02, W6): a name has its keys with it
abbrev pub tree_from : Land → (ℕ → ℕ) → (ℕ → List Action) → Tree
tree_from l home unused = record {
  used = l.used;
  name = λ q. cond (l.used q) (l.place q).name no_name;
  parent = λ q. cond (l.used q) (l.place q).parent 0;
  home = home;
  unused = unused;
}

-- the tree of a cell: "the same place numbers are in use, with the same names and parents (the destination for a place on its way), and
-- each agent has the same home and the same unused actions in order"; one that is not given reads as 0 and without actions
unfoldable pub tree_of : State → Tree
tree_of c = tree_from c.land (λ x. cond (c.given x) (c.agent x).home 0) (λ x. cond (c.given x) (unused (c.agent x)) [])

-- "It starts as the file says, with nothing travelling and no picks": c is the cell that the file gives. What the file's bytes say is plainIn of
-- demands, and starts-as-file there shows the two equal
unfoldable pub plain_of : State → Plain
unfolding tree_of
plain_of c = record { tree = tree_of c; travels = λ q. false; pick = λ x. none; order = c.land.order }

-- ---- took: the pick

-- the plain tree as stage 2 reads places: "a travelling place is on its way to where it stands, any other is linked there"
unfoldable pub land_in : Plain → Land
land_in t = record {
  place = λ q. record { name = t.tree.name q; parent = t.tree.parent q; way = cond (eqb q 0 || t.travels q) 1 0 };
  used = t.tree.used;
  order = t.order;
}

-- "There p is where its own place stands (open: its own place)", and so for release
abbrev pub held_in : Tree → ℕ → ℕ
held_in t a = cond (looks_home (next_of t a).kind) (t.home a) (t.parent (t.home a))

-- "the place that stage 2 would choose here with this wish, if any"; an exit and a release choose none, and neither does an agent with no
-- action left, whose next action has kind 0
unfoldable pub pick_of : Plain → ℕ → ℕ → ℕ
unfolding land_in
pick_of t a wish =
    cond (chooses (next_of t.tree a).kind)
    (choose (land_in t) (next_of t.tree a).kind (next_of t.tree a).name (t.tree.home a) (held_in t.tree a) wish)
    none

-- ---- one call

-- "took: the agent's pick becomes the place that stage 2 would choose here. left: its own place now stands in the pick (enter), or where the
-- place around it stands (exit), and travels; the action is used up. opened: places and agents in the pick go to its own place, the
-- pick's number becomes unused; the action is used up. came: its own place travels no more." "A place that comes is the latest; children freed
-- by an opening become the latest and keep their order among themselves" (document 02, W5). "The plain tree .. takes one such move for each put,
-- under the smallest number unused in it", and "a put place is the latest of W5" (W11)
unfoldable pub plain_word : Plain → ℕ → ℕ → Word → Plain
unfolding pick_of later stands_at fresh_number
plain_word t a wish Took = with_picks t (upd t.pick a (pick_of t a wish))
plain_word t a wish Left = with_travels (with_tree t (move t.tree a (t.pick a))) (upd t.travels (t.tree.home a) true)
plain_word t a wish Opened = with_row (with_tree t (move t.tree a (t.pick a))) (later (λ q. stands_at t.tree q (t.pick a)) t.order)
plain_word t a wish Came = with_row (with_travels t (upd t.travels (t.tree.home a) false)) (latest (t.tree.home a) t.order)
plain_word t a wish Put = with_row (with_tree t (move t.tree a (fresh_number t.tree.used))) (latest (fresh_number t.tree.used) t.order)
plain_word t a wish Looked = t
plain_word t a wish Held = t
plain_word t a wish Back = t
plain_word t a wish Slept = t
plain_word t a wish Asleep = t
plain_word t a wish Done = t

-- "Any other word, or a refusal: nothing."; "touch calls .., which the plain tree passes over" (document 02, W3)
unfoldable pub plain_step : Plain → Call → Reply → Plain
unfolding plain_word
plain_step t k (step_reply (Ok o)) = plain_word t (agent_of k) (wish_of k) o.word
plain_step t k (step_reply (Err number)) = t
plain_step t k (touch_reply answer) = t

-- the plain tree after a list of calls and their answers
unfoldable pub plain_run : Plain → List Call → List Reply → Plain
unfolding plain_step
plain_run t [] answers = t
plain_run t (k ∷ calls) [] = t
plain_run t (k ∷ calls) (a ∷ answers) = plain_run (plain_step t k a) calls answers

-- ---- the history of a tree

-- "one calculus move for each call answered left or opened", and "for each put" (document 02, W11)
abbrev pub is_move : Word → Bool
is_move Left = true
is_move Opened = true
is_move Put = true
is_move Looked = false
is_move Took = false
is_move Held = false
is_move Back = false
is_move Slept = false
is_move Came = false
is_move Asleep = false
is_move Done = false

abbrev pub says_move : Reply → Bool
says_move (step_reply (Ok o)) = is_move o.word
says_move (step_reply (Err number)) = false
says_move (touch_reply answer) = false

-- "the loaded tree after one calculus move for each call answered left or opened, in the order of the calls, each a move that the calculus
-- permits in the tree before it", put "in its order among the leavings and openings", and no change of the tree for any other answer
pub data History : Tree → List Call → List Reply → Tree → Type 0 where
  start : {t : Tree} → History t [] [] t
  moved : {t u v : Tree} {k : Call} {calls : List Call} {a : Reply} {answers : List Reply}
      → says_move a ≡ true → Move t (agent_of k) u → History u calls answers v → History t (k ∷ calls) (a ∷ answers) v
  stayed : {t v : Tree} {k : Call} {calls : List Call} {a : Reply} {answers : List Reply}
      → says_move a ≡ false → History t calls answers v → History t (k ∷ calls) (a ∷ answers) v
