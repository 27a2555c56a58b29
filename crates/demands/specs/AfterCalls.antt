-- What demand 3 claims of a cell after a list of calls, with the plain tree kept beside it. Definitions only.
use Rattle.std.specs.Prelude.{◌≡◌, ◌≢◌, List, true, false, ℕ, ◌<◌}
use Rattle.table.specs.Base.{iter}
use Rattle.table.specs.Cell.{State, cell_of, table_of, unused, release_kind}
use Rattle.table.specs.declared.Cell.{Cell}
use Rattle.meaning.specs.Run.{Call, Reply, step_of, run, answers, rests}
use Rattle.meaning.specs.Calculus.{Tree, next_of, Move}
use Rattle.meaning.specs.Plain.{Plain, plain_of, plain_run, History}

-- "The cell equals the plain tree when the same place numbers are in use, with the same names and parents (the destination for a place on
-- its way), and each agent has the same home and the same unused actions in order." The plain tree "keeps and compares keys as it does names"
-- (document 02, W6): `name` is the name with its keys.
pub record EqualsPlain (c : State) (t : Tree) : Type 0 where
  pub used : (q : ℕ) → c.land.used q ≡ t.used q
  pub name : (q : ℕ) → c.land.used q ≡ true → (c.land.place q).name ≡ t.name q
  pub parent : (q : ℕ) → c.land.used q ≡ true → (c.land.place q).parent ≡ t.parent q
  pub home : (x : ℕ) → c.given x ≡ true → (c.agent x).home ≡ t.home x
  pub actions : (x : ℕ) → c.given x ≡ true → unused (c.agent x) ≡ t.unused x

-- agent y is given, and its step changes the table whatever its wish
pub record StepChanges (t : Cell) (y : ℕ) : Type 0 where
  pub given : (cell_of t).given y ≡ true
  pub changes : (wish : ℕ) → (step_of t y wish).cell ≢ t

-- the table after the calls from a loaded cell
abbrev pub reached : State → List Call → Cell
reached c calls = run (table_of c) calls

-- what the calls answer
abbrev pub answered : State → List Call → List Reply
answered c calls = answers (table_of c) calls

-- the plain tree run from the file by agent, wish and answered word alone
abbrev pub plain_after : State → List Call → Plain
plain_after c calls = plain_run (plain_of c) calls (answered c calls)

-- demand 3, of the cell c that a file gives and a list of calls
pub record AfterCalls (c : State) (calls : List Call) : Type 0 where
  -- the cell is one tree: "following parents or destinations leads every place to the floor"
  pub one_tree : (q : ℕ) → (cell_of (reached c calls)).land.used q ≡ true → iter (λ r. ((cell_of (reached c calls)).land.place r).parent) 64 q ≡ 0
  -- the cell equals the plain tree
  pub equals : EqualsPlain (cell_of (reached c calls)) (plain_after c calls).tree
  -- and has its places in the same order: "The plain tree knows this order too" (document 02, W5)
  pub order : (plain_after c calls).order ≡ (cell_of (reached c calls)).land.order
  -- the plain tree is the loaded tree after one permitted move for each call answered left, opened or put, in order, and no other change
  pub history : History (plain_of c).tree calls (answered c calls) (plain_after c calls).tree
  -- while some agent is neither asleep nor done, some agent's step changes the cell for every wish
  pub goes_on : (x : ℕ) → (cell_of (reached c calls)).given x ≡ true → rests (reached c calls) x ≡ false → (y : ℕ) × StepChanges (reached c calls) y
  -- when all agents are asleep or done, the calculus permits no move
  pub at_rest : ((x : ℕ) → (cell_of (reached c calls)).given x ≡ true → rests (reached c calls) x ≡ true)
      → (a : ℕ) (u : Tree) → Move (plain_after c calls).tree a u → ⊥
  -- "When all agents are asleep or done, a release may be an agent's next action, and then only with 64 places in use" (document 02, W11)
  pub full : ((x : ℕ) → (cell_of (reached c calls)).given x ≡ true → rests (reached c calls) x ≡ true)
      → (a : ℕ) → (next_of (plain_after c calls).tree a).kind ≡ release_kind → (q : ℕ) → q < 64 → (plain_after c calls).tree.used q ≡ true
