-- A run of calls on a table whose cell has the invariant keeps the plain tree beside the cell, by one permitted move for each left, opened
-- or put.
-- By induction over the calls: a step call for an agent that is not given is refused with 11 and changes nothing, any other is a step; a commit
-- is a step call, or it is refused; a touch call changes touches, of which the plain tree knows nothing.
use Rattle.std.specs.Prelude.{◌≡◌, refl, List, [], ◌∷◌, true, false}
use Rattle.std.proofs.Math.Path.{sym, ap}
use Rattle.std.proofs.Common.{◌∙◌, subst}
use Prim.Native.Nat.{ℕ}
use Rattle.table.proofs.BaseLaws.{Told, yea, nay, told}
use Rattle.table.specs.Cell.{State, cell_of, table_of}
use Rattle.table.specs.Bounds.{Sized}
use Rattle.table.proofs.CellLaws.{sized_table}
use Rattle.table.specs.declared.Cell.{Cell}
use Rattle.meaning.specs.Refusals.{no_such_agent, answer_differs}
use Rattle.meaning.specs.Step.{step}
use Rattle.meaning.specs.Run.{Call, step_call, touch_call, commit_call, agent_of, wish_of, Reply, Called, by_step, by_touch, made, turned_away, step_of, call_of, run, answers}
use Rattle.meaning.proofs.AskLaws.{committed}
use Rattle.meaning.specs.Touch.{add_touches, counted, untouched, touch_of}
use Rattle.meaning.specs.Calculus.{Tree}
use Rattle.meaning.specs.Plain.{Plain, tree_of, plain_step, plain_run, says_move, History, start, moved, stayed}
use Rattle.demands.specs.Reading.{agent_in}
use Rattle.demands.specs.Invariant.{Inv}
use Rattle.demands.proofs.StepWays.{step_way}
use Rattle.demands.proofs.SoundTest.{sound_true}
use Rattle.demands.proofs.Touching.{touched, touch_back, sized_touched, inv_touched}
use Rattle.demands.proofs.Always.{step_inv, step_back}
use Rattle.demands.proofs.SamePlain.{Same}
use Rattle.demands.proofs.MovesMade.{MovedOrSame, unmoved, way_follows}

-- each reply makes one permitted move of the plain tree, by the plain tree's own step, or none
pub data Steps : Plain → List Call → List Reply → Type 0 where
  no_step : {p : Plain} → Steps p [] []
  one_step : {p : Plain} {k : Call} {calls : List Call} {a : Reply} {rest : List Reply}
      → MovedOrSame (says_move a) (agent_of k) p.tree (plain_step p k a).tree → Steps (plain_step p k a) calls rest → Steps p (k ∷ calls) (a ∷ rest)

-- the plain tree after a list of calls, from table t and plain tree p: beside the cell, and come by permitted moves
pub record Beside (t : Cell) (p : Plain) (calls : List Call) : Type 0 where
  pub same : Same (cell_of (run t calls)) (plain_run p calls (answers t calls))
  pub steps : Steps p calls (answers t calls)

-- one call more at the front of a history
more : {t u v : Tree} {k : Call} {calls : List Call} {a : Reply} {rest : List Reply} → MovedOrSame (says_move a) (agent_of k) t u
    → History u calls rest v → History t (k ∷ calls) (a ∷ rest) v
more {t} {u} {v} {k} {calls} {a} {rest} m h = go (told (says_move a))
  where
    go : Told (says_move a) → History t (k ∷ calls) (a ∷ rest) v
    go (yea e) = moved e (m.made e) h
    go (nay e) = stayed e (subst (λ s. History s calls rest v) (m.left_alone e) h)

-- the plain tree's steps are a history of its tree
pub steps_history : {p : Plain} {calls : List Call} {rest : List Reply} → Steps p calls rest → History p.tree calls rest (plain_run p calls rest).tree
unfolding plain_run
steps_history no_step = start
steps_history (one_step m s) = more m (steps_history s)

-- what a call replies and makes, and then the rest of the calls
first_call : (t : Cell) (p : Plain) (k : Call) (calls : List Call) (r : Called) → call_of t k ≡ r
    → MovedOrSame (says_move r.reply) (agent_of k) p.tree (plain_step p k r.reply).tree
    → Beside r.cell (plain_step p k r.reply) calls → Beside t p (k ∷ calls)
first_call t p k calls r e = subst
    (λ s. MovedOrSame (says_move s.reply) (agent_of k) p.tree (plain_step p k s.reply).tree
    → Beside s.cell (plain_step p k s.reply) calls → Beside t p (k ∷ calls))
    e whole
  where
    whole : MovedOrSame (says_move (call_of t k).reply) (agent_of k) p.tree (plain_step p k (call_of t k).reply).tree
        → Beside (call_of t k).cell (plain_step p k (call_of t k).reply) calls → Beside t p (k ∷ calls)
    whole m d = unfold run answers plain_run in record { same = d.same; steps = one_step m d.steps }

-- an equal cell has the same plain tree beside it
same_cell : {c d : State} {p : Plain} → c ≡ d → Same c p → Same d p
same_cell {p = p} e = subst (λ s. Same s p) e

module _ (t : Cell) (i : Inv (cell_of t)) (x wish : ℕ) where
  -- a step call for an agent that is given makes its step
  pub call_made : (cell_of t).given x ≡ true → step_of t x wish ≡ made (step (cell_of t) x wish)
  unfolding step_of
  call_made g = rw (sound_true (cell_of t) i.sound, g)

  -- for any other agent it is refused with 11
  pub call_refused : (cell_of t).given x ≡ false → step_of t x wish ≡ turned_away t no_such_agent
  unfolding step_of
  call_refused g = rw (sound_true (cell_of t) i.sound, g)

-- a cell with some touches more has the same plain tree beside it
same_touched : (c : State) (q n : ℕ) (p : Plain) → Same c p → Same (add_touches c q n) p
unfolding tree_of agent_in
same_touched c q n p m = record { tree = m.tree; travels = m.travels; pick = m.pick; order = m.order }

-- ---- one call and the rest

-- the rest of the calls keeps the plain tree beside the cell
abbrev KeptBy : List Call → Type 0
KeptBy calls = (u : Cell) → Sized u → Inv (cell_of u) → (q : Plain) → Same (cell_of u) q → Beside u q calls

module _ (t : Cell) (z : Sized t) (i : Inv (cell_of t)) (p : Plain) (m : Same (cell_of t) p) (k : Call) (calls : List Call) (rest : KeptBy calls) where
  -- a call that is refused
  refused_first : (number : ℕ) → call_of t k ≡ by_step (turned_away t number) → Beside t p (k ∷ calls)
  unfolding turned_away plain_step
  refused_first number e = first_call t p k calls (by_step (turned_away t number)) e unmoved (rest t z i p m)

  -- a call that is the step call of the agent that it names, with its wish
  step_first : call_of t k ≡ by_step (step_of t (agent_of k) (wish_of k)) → Beside t p (k ∷ calls)
  unfolding made plain_step
  step_first e = go (told ((cell_of t).given (agent_of k)))
    where
      go : Told ((cell_of t).given (agent_of k)) → Beside t p (k ∷ calls)
      go (yea g) =
          let c : State = cell_of t in
          let x : ℕ = agent_of k in
          let d : State = (step c x (wish_of k)).cell in
          let b : d ≡ cell_of (table_of d) = sym (step_back t z i.sound x g (wish_of k)) in
          let f = way_follows c i.sound x g p m (step_way c i.sound x g (wish_of k)) in
          first_call t p k calls (by_step (made (step c x (wish_of k)))) (e ∙ ap by_step (call_made t i x (wish_of k) g)) f.step
          (rest (table_of d) (sized_table d) (subst Inv b (step_inv c i x g (wish_of k))) _ (same_cell b f.same))
      go (nay g) = refused_first no_such_agent (e ∙ ap by_step (call_refused t i (agent_of k) (wish_of k) g))

-- a run keeps the plain tree beside the cell
pub run_keeps : (calls : List Call) (t : Cell) → Sized t → Inv (cell_of t) → (p : Plain) → Same (cell_of t) p → Beside t p calls
unfolding run answers plain_run plain_step call_of counted untouched
run_keeps [] t z i p m = record { same = m; steps = no_step }
run_keeps (step_call x wish ∷ calls) t z i p m = step_first t z i p m (step_call x wish) calls (run_keeps calls) refl
run_keeps (touch_call q n ∷ calls) t z i p m = first_call t p (touch_call q n) calls (by_touch (touch_of t q n)) refl unmoved
    (run_keeps calls _ (sized_touched t q n z) (inv_touched t q n z i) p
    (touched (λ s. Same (cell_of s.cell) p) t q n (λ _. m) (λ u _. same_cell (sym (touch_back t q n z u)) (same_touched (cell_of t) q n p m))))
run_keeps (commit_call x wish word woken place ∷ calls) t z i p m =
    committed (λ s. call_of t (commit_call x wish word woken place) ≡ by_step s → Beside t p (commit_call x wish word woken place ∷ calls)) t x wish word woken place
    (step_first t z i p m (commit_call x wish word woken place) calls (run_keeps calls))
    (refused_first t z i p m (commit_call x wish word woken place) calls (run_keeps calls) answer_differs) refl
