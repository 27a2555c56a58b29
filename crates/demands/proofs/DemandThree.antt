-- Demand 3: from every cell as a load leaves it, after every list of calls, the cell is one tree and equals the plain tree, which came by the
-- permitted moves; while not all are at rest some step changes the cell, and then no move is permitted, and an agent's next action is a
-- release only with all numbers in use.
-- Idea: the calls keep the invariant and the plain tree beside the cell; the claims follow from these two, read off the table.
use Rattle.std.specs.Prelude.{◌≡◌, refl, ◌↔◌, List, true, false, ℕ, ◌≤◌, ◌<◌, ltb}
use Rattle.std.proofs.Common.{sym, ◌∙◌, subst, eqb-true, ltb-true, ltb-false, leb-true, leb-false}
use Rattle.std.proofs.Math.Path.{ap, fun_ext}
use native.Mathlib.Omega.{arith}
use Rattle.table.specs.Base.{iter}
use Rattle.table.proofs.BaseLaws.{Told, yea, nay, told}
use Rattle.table.specs.Cell.{State, fresh_number, cell_of, table_of, release_kind}
use Rattle.table.proofs.FreshLaws.{fresh_none}
use Rattle.table.specs.Bounds.{Sized}
use Rattle.table.proofs.CellLaws.{sized_table}
use Rattle.table.specs.Idle.{idle}
use Rattle.table.specs.declared.Cell.{Cell}
use Rattle.meaning.specs.File.{load, accepted}
use Rattle.meaning.specs.Step.{step}
use Rattle.meaning.specs.Run.{Call, made, step_of, says_rest, rests}
use Rattle.meaning.specs.Calculus.{Tree, next_of, Move}
use Rattle.meaning.specs.Plain.{tree_of, plain_of}
use Rattle.calculus.proofs.MoveCases.{by_release, case_move}
use Rattle.demands.specs.Reading.{agent_in}
use Rattle.demands.proofs.ReadingLaws.{agent_given}
use Rattle.demands.specs.Invariant.{Inv}
use Rattle.demands.proofs.Facts.{whole_still}
use Rattle.demands.proofs.Stages.{not_between}
use Rattle.demands.proofs.SoundTest.{leads_all}
use Rattle.demands.proofs.Always.{step_back, sized_run, inv_run}
use Rattle.demands.specs.Fresh.{Fresh}
use Rattle.demands.proofs.LoadingFile.{accepted_fresh}
use Rattle.demands.proofs.LoadingLaws.{fresh_stage, fresh_inv, fresh_forth}
use Rattle.demands.proofs.Live.{Goes, live}
use Rattle.demands.proofs.AtRest.{all_linked, no_move}
use Rattle.demands.specs.AfterCalls.{EqualsPlain, StepChanges, reached, plain_after, AfterCalls}
use Rattle.demands.proofs.SamePlain.{Same}
use Rattle.demands.proofs.RunKeeps.{Beside, steps_history, call_made, run_keeps}
use Rattle.demands.proofs.Resting.{rests_stage, any_wish, idle_all}

-- ---- the start

-- a loaded cell and its plain tree: nothing travels, and nobody is at stage 3
pub fresh_same : (c : State) → Fresh c → Same c (plain_of c)
unfolding plain_of
fresh_same c f = record {
  tree = refl;
  travels = sym (fun_ext (whole_still c f.whole));
  pick = λ x s k. absurd (not_between (fresh_stage c f x) (omega arith) (omega arith));
  order = refl;
}

-- a cell equals its own tree
pub equals_tree : (c : State) → EqualsPlain c (tree_of c)
unfolding tree_of
equals_tree c = record {
  used = λ q. refl;
  name = λ q u. sym (rw u);
  parent = λ q u. sym (rw u);
  home = λ x g. sym (rw g);
  actions = λ x g. sym (rw g);
}

-- ---- what the invariant says of a table

module _ (t : Cell) (z : Sized t) (i : Inv (cell_of t)) where
  abbrev c : State
  c = cell_of t

  -- one tree: soundness tests it
  tree_of_lem : (q : ℕ) → c.land.used q ≡ true → iter (λ r. (c.land.place r).parent) 64 q ≡ 0
  tree_of_lem q u = eqb-true (iter (λ r. (c.land.place r).parent) 64 q) 0 (rw u at (leads_all c i.sound q))

  -- a step that changes the agent's stage changes the table
  changes_of : Goes c → (y : ℕ) × StepChanges t y
  changes_of g = (g.who, record { given = g.given; changes = λ wish e. g.changes wish (back wish e) })
    where
      back : (wish : ℕ) → (step_of t g.who wish).cell ≡ t → ((step c g.who wish).cell.agent g.who).stage ≡ (c.agent g.who).stage
      back wish e =
          let d : State = (step c g.who wish).cell in
          let m : table_of d ≡ t = sym (ap (λ r. r.cell) (call_made t i g.who wish g.given) ∙ unfold made in refl) ∙ e in
          ap (λ s. (s.agent g.who).stage) (sym (step_back t z i.sound g.who g.given wish) ∙ ap cell_of m)

  goes_of : (x : ℕ) → c.given x ≡ true → rests t x ≡ false → (y : ℕ) × StepChanges t y
  goes_of x g r = changes_of (live c i.sound x g (let l = leb-false 7 (c.agent x).stage (sym (rests_stage t i x g) ∙ r) in omega arith))

  rest_of : ((x : ℕ) → c.given x ≡ true → rests t x ≡ true) → (a : ℕ) (u : Tree) → Move (tree_of c) a u → ⊥
  rest_of r a u v = no_move c i (all_linked c i.sound stages) a (stages a) u v
    where
      go : (x : ℕ) → Told (c.given x) → 7 ≤ (agent_in c x).stage
      go x (yea g) = subst (λ a. 7 ≤ a.stage) (sym (agent_given c x g)) (leb-true 7 (c.agent x).stage (sym (rests_stage t i x g) ∙ r x g))
      go x (nay g) = let s : (agent_in c x).stage ≡ 8 = unfold agent_in in rw g in omega arith

      stages : (x : ℕ) → 7 ≤ (agent_in c x).stage
      stages x = go x (told (c.given x))

-- ---- a release that is not permitted

-- where a tree permits no move, an agent's next action is a release only with all numbers in use
release_full : (t : Tree) → ((a : ℕ) (u : Tree) → Move t a u → ⊥) → (a : ℕ) → (next_of t a).kind ≡ release_kind → (q : ℕ) → q < 64 → t.used q ≡ true
release_full t stuck a k = go (told (ltb (fresh_number t.used) 64))
  where
    go : Told (ltb (fresh_number t.used) 64) → (q : ℕ) → q < 64 → t.used q ≡ true
    go (yea e) = absurd (stuck a _ (case_move (by_release (fresh_number t.used) k (ltb-true (fresh_number t.used) 64 e) refl)))
    go (nay e) = fresh_none t.used (ltb-false (fresh_number t.used) 64 e)

-- ---- the demand, from a fresh cell

module _ (c : State) (f : Fresh c) (calls : List Call) where
  pub start_inv : Inv (cell_of (table_of c))
  start_inv = subst Inv (sym (fresh_forth c f)) (fresh_inv c f)

  -- the table reached has the sizes of the struct
  pub reached_sized : Sized (reached c calls)
  reached_sized = sized_run (table_of c) calls (sized_table c)

  -- and its cell the invariant
  pub reached_inv : Inv (cell_of (reached c calls))
  reached_inv = inv_run (table_of c) calls (sized_table c) start_inv

  -- the plain tree beside it
  pub reached_beside : Beside (table_of c) (plain_of c) calls
  reached_beside = run_keeps calls (table_of c) (sized_table c) start_inv (plain_of c) (subst (λ d. Same d (plain_of c)) (sym (fresh_forth c f)) (fresh_same c f))

  -- it has the tree of the cell reached
  pub reached_tree : (plain_after c calls).tree ≡ tree_of (cell_of (reached c calls))
  reached_tree = reached_beside.same.tree

  -- demand 3
  pub fresh_three : AfterCalls c calls
  fresh_three = record {
    one_tree = tree_of_lem (reached c calls) reached_sized reached_inv;
    equals = subst (EqualsPlain (cell_of (reached c calls))) (sym reached_tree) (equals_tree (cell_of (reached c calls)));
    order = reached_beside.same.order;
    history = steps_history reached_beside.steps;
    goes_on = goes_of (reached c calls) reached_sized reached_inv;
    at_rest = rest;
    full = λ r. release_full (plain_after c calls).tree (rest r);
  }
    where
      rest : ((x : ℕ) → (cell_of (reached c calls)).given x ≡ true → rests (reached c calls) x ≡ true)
          → (a : ℕ) (u : Tree) → Move (plain_after c calls).tree a u → ⊥
      rest r a u v = rest_of (reached c calls) reached_sized reached_inv r a u (subst (λ t. Move t a u) reached_tree v)

  -- whether an answer says asleep or done does not depend on the wish
  pub fresh_any_wish : (x wish : ℕ) → says_rest (step_of (reached c calls) x wish).answer ≡ rests (reached c calls) x
  fresh_any_wish = any_wish (reached c calls) reached_inv

  -- the cell is idle exactly if every agent that is given rests
  pub fresh_idle : (idle (cell_of (reached c calls)) ≡ true) ↔ ((x : ℕ) → (cell_of (reached c calls)).given x ≡ true → rests (reached c calls) x ≡ true)
  fresh_idle = idle_all (reached c calls) reached_inv

-- ---- from an accepted file

module _ (s : List ℕ) (c : State) (e : load s ≡ accepted c) (calls : List Call) where
  -- demand 3
  pub demand_three : AfterCalls c calls
  demand_three = fresh_three c (accepted_fresh s c e) calls

  -- whether an answer says asleep or done does not depend on the wish
  pub rests_any_wish : (x wish : ℕ) → says_rest (step_of (reached c calls) x wish).answer ≡ rests (reached c calls) x
  rests_any_wish = fresh_any_wish c (accepted_fresh s c e) calls

  -- the cell is idle exactly if every agent that is given rests
  pub idle_rests : (idle (cell_of (reached c calls)) ≡ true) ↔ ((x : ℕ) → (cell_of (reached c calls)).given x ≡ true → rests (reached c calls) x ≡ true)
  idle_rests = fresh_idle c (accepted_fresh s c e) calls
