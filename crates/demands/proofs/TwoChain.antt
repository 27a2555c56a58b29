-- The calls of one agent while no other holds a lock or is on its way: the locks that it needs are free, and what it holds is where it would look.
-- Its own calls keep the others so; a list of them is put together one call at a time, from the last one back.
use Rattle.std.specs.Prelude.{◌≡◌, refl, ◌≢◌, ◌⊎◌, [], ◌∷◌, Bool, true}
use Rattle.std.proofs.Common.{sym, ap, ◌∙◌, inl, inr, arith}
use Rattle.std.proofs.Math.Path.{subst}
use Prim.Native.Nat.{ℕ, suc, ◌≤◌, ◌<◌, zero-le, suc-le-suc}
use Rattle.table.proofs.BaseLaws.{eq?, upd_same}
use Rattle.table.specs.Bounds.{Sized}
use Rattle.table.specs.Cell.{State, none, cell_of, table_of}
use Rattle.table.proofs.CellLaws.{sized_table}
use Rattle.table.specs.declared.Agent.{Agent}
use Rattle.table.specs.declared.Cell.{Cell}
use Rattle.meaning.specs.declared.Stepped.{Stepped}
use Rattle.meaning.specs.Update.{at_stage, with_locks}
use Rattle.meaning.specs.Step.{step}
use Rattle.meaning.specs.Run.{step_reply, made, step_of, call_of, run, answers, settled}
use Rattle.meaning.specs.Calculus.{Tree}
use Rattle.meaning.specs.Plain.{tree_of}
use Rattle.demands.specs.Reading.{agent_in}
use Rattle.demands.proofs.ReadingLaws.{agent_given}
use Rattle.demands.specs.Invariant.{Fit, Ok, Holds, Kept, free, kept, Sound, Inv}
use Rattle.demands.specs.Whole.{Whole}
use Rattle.demands.proofs.Stages.{ok_given, fit_given, home_given}
use Rattle.demands.specs.Ways.{goes_on}
use Rattle.demands.proofs.Change.{Keeps, keeps_inv}
use Rattle.demands.proofs.TreeOf.{tree_quiet}
use Rattle.demands.proofs.Permitted.{none_whole}
use Rattle.demands.specs.TwoSteps.{calls_of, no_wish, one_wish, Answered, no_call, one_call, Reaches}
use Rattle.demands.proofs.TwoAlone.{Low, low_not, low_holds, low_settled, low_after}
use Rattle.demands.proofs.Always.{step_keeps, step_back}
use Rattle.demands.proofs.RunKeeps.{call_made}

-- agent a is given, and no other agent holds a lock or is on its way
pub record Alone (t : Cell) (a : ℕ) : Type 0 where
  pub sized : Sized t
  pub inv : Inv (cell_of t)
  pub given : (cell_of t).given a ≡ true
  pub others : (y : ℕ) → y ≢ a → Low (agent_in (cell_of t) y).stage

module _ {a : ℕ} where
  -- ---- calls put together

  -- no call more, where the agent too holds nothing and is not on its way
  pub none_more : (n : ℕ) (t : Cell) → Alone t a → Low ((cell_of t).agent a).stage → Reaches n a t (tree_of (cell_of t))
  unfolding calls_of run answers call_of
  none_more n t p l = record {
    wishes = [];
    few = zero-le;
    bytes = no_wish;
    answered = no_call;
    settles = low_settled (cell_of t) p.inv.sound low;
    tree = refl;
  }
    where
      low : (y : ℕ) → Low (agent_in (cell_of t) y).stage
      low y = go (eq? y a)
        where
          go : (y ≡ a) ⊎ (y ≢ a) → Low (agent_in (cell_of t) y).stage
          go (inl e) = subst (λ (b : Agent). Low b.stage) (sym (ap (agent_in (cell_of t)) e ∙ agent_given (cell_of t) a p.given)) l
          go (inr n) = p.others y n

  -- one call more at the front, whose step makes d
  pub one_more : (n w : ℕ) (t : Cell) (d : State) {u : Tree} → w < 256 → Alone t a → (step (cell_of t) a w).cell ≡ d
      → ((v : Cell) → Alone v a → cell_of v ≡ d → Reaches n a v u) → Reaches (suc n) a t u
  unfolding calls_of run answers call_of made agent_in
  one_more n w t d {u} l p e f = record {
    wishes = w ∷ r.wishes;
    few = suc-le-suc r.few;
    bytes = one_wish l r.bytes;
    answered = subst (λ (s : Stepped). Answered (step_reply s.answer ∷ answers s.cell (calls_of a r.wishes))) (sym call) (one_call r.answered);
    settles = subst (λ (s : Stepped). settled (cell_of (run s.cell (calls_of a r.wishes))) ≡ true) (sym call) r.settles;
    tree = subst (λ (s : Stepped). tree_of (cell_of (run s.cell (calls_of a r.wishes))) ≡ u) (sym call) r.tree;
  }
    where
      o : State
      o = (step (cell_of t) a w).cell

      call : step_of t a w ≡ made (step (cell_of t) a w)
      call = call_made t p.inv a w p.given

      kept_by : Keeps (cell_of t) a o
      kept_by = step_keeps (cell_of t) p.inv.sound a p.given w

      back : cell_of (table_of o) ≡ o
      back = step_back t p.sized p.inv.sound a p.given w

      next : Alone (table_of o) a
      next = record {
        sized = sized_table _;
        inv = subst Inv (sym back) (keeps_inv kept_by p.inv);
        given = ap (λ (z : State). z.given a) back ∙ ap (λ (f : ℕ → Bool). f a) kept_by.untouched.given ∙ p.given;
        others = λ y m. subst (λ (z : State). Low (agent_in z y).stage) (sym back) (low_after (kept_by.others y m) (p.others y m));
      }

      r : Reaches n a (table_of o) u
      r = f (table_of o) next (back ∙ e)

  -- a step that leaves the places alone: the agent is at another stage, the tree is the same
  pub quiet_more : (n w : ℕ) (t : Cell) (stage remembered chosen : ℕ) (locks : ℕ → ℕ) {u : Tree} → w < 256 → Alone t a
      → (step (cell_of t) a w).cell ≡ with_locks (goes_on (cell_of t) a stage remembered chosen) locks
      → ((v : Cell) → Alone v a → (cell_of v).land ≡ (cell_of t).land → (cell_of v).agent a ≡ at_stage ((cell_of t).agent a) stage remembered chosen
      → tree_of (cell_of v) ≡ tree_of (cell_of t) → Reaches n a v u)
      → Reaches (suc n) a t u
  quiet_more n w t stage remembered chosen locks l p e f = one_more n w t _ l p e
      (λ v q s. f v q (ap (λ (z : State). z.land) s) (ap (λ (z : State). z.agent a) s ∙ upd_same (cell_of t).agent a _)
      (ap tree_of s ∙ tree_quiet (cell_of t) a p.given locks stage remembered chosen))

  -- a bound may be raised
  pub raise : {n m : ℕ} {t : Cell} {u : Tree} → n ≤ m → Reaches n a t u → Reaches m a t u
  raise l r = record {
    wishes = r.wishes;
    few = omega (arith, r.few);
    bytes = r.bytes;
    answered = r.answered;
    settles = r.settles;
    tree = r.tree;
  }

  -- ---- what is known of the agent

  module _ (t : Cell) (p : Alone t a) where
    abbrev c : State
    c = cell_of t

    abbrev own : Agent
    own = (cell_of t).agent a

    abbrev i : Sound (cell_of t)
    i = p.inv.sound

    abbrev g : (cell_of t).given a ≡ true
    g = p.given

    pub own_ok : Ok c.land c.lock a own
    own_ok = ok_given c i a g

    pub own_fit : Fit own
    own_fit = fit_given c i a g

    pub own_used : c.land.used own.home ≡ true
    own_used = home_given c i a g

    -- a place that the agent does not hold is free
    pub free_at : (q : ℕ) → c.land.used q ≡ true → (Holds c.land own q → ⊥) → c.lock q ≡ none
    free_at q u n = go (i.locks q u)
      where
        by : (y : ℕ) → Holds c.land (agent_in c y) q → (y ≡ a) ⊎ (y ≢ a) → c.lock q ≡ none
        by y r (inl e) = absurd (n (subst (λ (v : Agent). Holds c.land v q) (ap (agent_in c) e ∙ agent_given c a g) r))
        by y r (inr d) = absurd (low_holds (p.others y d) r)

        go : Kept c.land c.lock (agent_in c) q → c.lock q ≡ none
        go (free f) = f
        go (kept y h r) = by y r (eq? y a)

    -- while the agent is not on its way, every place is linked
    pub whole : own.stage ≤ 3 → Whole c
    whole l = none_whole c i (λ y t. go y t.from t.to (eq? y a))
      where
        go : (y : ℕ) → 4 ≤ (agent_in c y).stage → (agent_in c y).stage ≤ 6 → (y ≡ a) ⊎ (y ≢ a) → ⊥
        go y lo hi (inl e) = let s : (agent_in c y).stage ≡ own.stage = ap (λ (v : Agent). v.stage) (ap (agent_in c) e ∙ agent_given c a g) in
            omega arith
        go y lo hi (inr n) = low_not (p.others y n) (omega arith) hi
