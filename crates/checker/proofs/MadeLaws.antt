-- A move that a trail may tell, made on the table, makes the move of the calculus on its tree, and the table stays ready for the next.
-- Idea: an enter and an exit change one parent and use up one action; opening and putting are what the steps make of a cell, locks and stages aside, and
-- the tree reads neither.
use Rattle.std.specs.Prelude.{◌≡◌, ◌≢◌, ◌⊎◌, true, ◌&&◌}
use Rattle.std.proofs.Math.Path.{refl, sym, ap, fun_ext}
use Rattle.std.proofs.Common.{◌∙◌, subst, inl, inr}
use Rattle.std.proofs.Math.Bool.{cond}
use Prim.Native.Nat.{ℕ, ◌≤◌, ◌<◌}
use Rattle.std.proofs.Math.Dec.{eqb}
use Rattle.table.specs.Base.{upd}
use Rattle.table.proofs.BaseLaws.{Told, yea, nay, told, and_left, and_right, eq?, upd_same, upd_at, upd_other, upd_all}
use Rattle.table.specs.Cell.{State, cell_of, table_of, next_action, kind_of, has_action, unused, fresh_number, key_of, enter_kind, exit_kind, open_kind, release_kind, looking, found, done, none}
use Rattle.table.proofs.CellLaws.{sized_table}
use Rattle.table.proofs.KindLaws.{Kind, is_enter, is_exit, is_open, is_release}
use Rattle.table.specs.declared.Action.{Action}
use Rattle.table.specs.declared.Agent.{Agent}
use Rattle.table.specs.declared.Cell.{Cell}
use Rattle.meaning.specs.Calculus.{Tree, next_of, stands_at, may_open, permits, put_into, open_up, put_out, move, Move}
use Rattle.meaning.specs.Plain.{tree_of}
use Rattle.meaning.specs.Run.{made}
use Rattle.meaning.specs.Step.{wake, asleep_on, sleeper, dissolve, dissolve_agent, put, put_land, rest_stage}
use Rattle.meaning.specs.Update.{at_stage, use_up, with_home, with_land, with_locks, with_agents, with_touches, released}
use Rattle.calculus.proofs.Above.{below_one, below_not}
use Rattle.calculus.specs.Formed.{Formed}
use Rattle.calculus.proofs.MoveCases.{Stands, stands_in, move_case, case_kind}
use Rattle.calculus.proofs.MoveFormed.{move_formed}
use Rattle.demands.proofs.Actions.{has_some, fit_stage, fit_used}
use Rattle.demands.specs.Invariant.{Fit}
use Rattle.demands.specs.Reading.{agent_in}
use Rattle.demands.proofs.ReadingLaws.{agent_given}
use Rattle.demands.proofs.SameTree.{given_next, move_enter, move_exit, move_open, move_release}
use Rattle.demands.proofs.TreeOf.{tree_quiet, tree_put, tree_opened}
use Rattle.demands.specs.Ways.{goes_on}
use Rattle.moves.specs.declared.Motion.TheVariants.{Dissolve, Put}
use Rattle.trail.specs.Trail.{byte_fits, place_of, allows, moved}
use Rattle.claims.proofs.FollowsLaws.{allowed_move, place_entered, place_opened, place_put, mover_kind}
use Rattle.checker.specs.declared.Turn.TheVariants.{Into, Shift}
use Rattle.checker.specs.OnTable.{agent_at, turn_by, turn_of, went_into, shifted_on, motion_of, made_on, Ready, Makes, Comes}
use Rattle.checker.proofs.BackLaws.{agent_back, tree_back, given_there}
use Rattle.checker.proofs.IntoLaws.{home_is, few, agent_read, sent, sent_tree, sent_table}

-- a row of actions stays in order, wherever its agent lives and whatever its stage
fit_moved : (a : Agent) (home stage remembered chosen : ℕ) → Fit a → Fit (with_home (at_stage a stage remembered chosen) home)
unfolding unused
fit_moved a home stage remembered chosen f = record { ordered = f.ordered; few = f.few; good = f.good }

module _ (t : Cell) (r : Ready t) (x : ℕ) (g : (cell_of t).given x ≡ true) where
  abbrev c : State
  c = cell_of t

  abbrev own : Agent
  own = c.agent x

  abbrev tree : Tree
  tree = tree_of c

  fit_in : Fit (agent_in c x)
  fit_in = subst Fit (sym (agent_given c x g)) (r.fit x g)

  pub next_is : next_of tree x ≡ next_action own
  next_is = given_next c x g fit_in

  kind_is : (next_of tree x).kind ≡ kind_of own
  kind_is = ap (λ (y : Action). y.kind) next_is

  module _ (b : ℕ) (ok : allows tree x b ≡ true) where
    made_move : Move tree x (moved tree x b)
    made_move = allowed_move tree x b ok

    permitted : permits tree x (place_of tree x b) ≡ true
    unfolding allows
    permitted = and_right (byte_fits (next_of tree x).kind b) (permits tree x (place_of tree x b)) ok

    left_some : has_action own ≡ true
    left_some = has_some own (subst (λ (n : ℕ). 1 ≤ n) kind_is (case_kind (move_case made_move)))

    -- the agent's row once its action is used up
    spent : (stage : ℕ) → Fit (at_stage (use_up own) stage 0 0)
    spent stage = fit_stage (use_up own) stage 0 0 (fit_used own (r.fit x g) left_some)

    -- the agents after a move, of which x has used its action up
    fits_after : (f : ℕ → Agent) (stage : ℕ) → ((y : ℕ) → c.given y ≡ true → Fit (f y))
        → (y : ℕ) → c.given y ≡ true → Fit (upd f x (at_stage (use_up own) stage 0 0) y)
    fits_after f stage h = upd_all f x (at_stage (use_up own) stage 0 0) (λ y a. c.given y ≡ true → Fit a) (λ _. spent stage) (λ y _. h y)

    -- those that a move wakes
    woken_fit : (p q s y : ℕ) → c.given y ≡ true → Fit (wake c p q s y)
    unfolding wake
    woken_fit p q s y h = go (told (sleeper c p q s y))
      where
        go : Told (sleeper c p q s y) → Fit (cond (sleeper c p q s y) (at_stage (c.agent y) looking 0 0) (c.agent y))
        go (yea e) = rw e (fit_stage (c.agent y) looking 0 0 (r.fit y h))
        go (nay e) = rw e (r.fit y h)

    -- the table of a cell that has the tree after the move
    makes_of : (d : State) → d.given ≡ c.given → tree_of d ≡ moved tree x b → ((y : ℕ) → c.given y ≡ true → Fit (d.agent y)) → Makes t x b (table_of d)
    makes_of d same e h = record {
      allowed = ok;
      tree = tree_back d small given ∙ e;
      ready = record {
        sized = sized_table d;
        formed = subst Formed (sym (tree_back d small given)) formed;
        fit = λ y k. let z = given_there d small given y k in
            subst Fit (sym (agent_back d small given y z)) (h y (rw (ap (λ f. f y) same) at z));
      };
    }
      where
        formed : Formed (tree_of d)
        formed = subst Formed (sym e) (move_formed r.formed made_move)

        small : (q : ℕ) → d.land.used q ≡ true → q < 64
        small q u = formed.small q (unfold tree_of in u)

        given : (y : ℕ) → d.given y ≡ true → y < 64
        given y k = few t r x g y (rw (ap (λ f. f y) same) at k)

    -- ---- enter and exit: the agent's own place goes into d

    went_makes : (d : ℕ) → put_into tree x d ≡ moved tree x b → Makes t x b (went_into t x own d)
    went_makes d e = subst (Makes t x b) (sym (sent_table t r x g d)) (makes_of (sent t r x g d) refl (sent_tree t r x g d ∙ e)
        (upd_all c.agent x (use_up own) (λ y a. c.given y ≡ true → Fit a) (λ _. fit_used own (r.fit x g) left_some) (λ y _. r.fit y)))

    -- ---- open: the place b is dissolved into the agent's own

    module _ (k : kind_of own ≡ open_kind) where
      opened_place : place_of tree x b ≡ b
      opened_place = place_opened tree x b (kind_is ∙ k)

      stands : Stands tree b (tree.home x)
      unfolding permits may_open
      stands = stands_in tree b (tree.home x) (and_left (stands_at tree b (tree.home x)) (eqb (key_of open_kind (tree.name b)) (next_of tree x).name)
          (rw (kind_is ∙ k) at (subst (λ (m : ℕ). permits tree x m ≡ true) opened_place permitted)))

      own_not : own.home ≢ b
      own_not e = below_not tree r.formed (below_one stands.placed stands.parent) (sym (home_is t r x g ∙ e))

      other_fit : (a : Agent) → Fit a → Fit (dissolve_agent own.home b a)
      unfolding dissolve_agent
      other_fit a f = go (told (eqb a.home b)) (told (eqb a.stage found && eqb a.remembered b)) (told (asleep_on own.home b none a))
        where
          go : Told (eqb a.home b) → Told (eqb a.stage found && eqb a.remembered b) → Told (asleep_on own.home b none a)
              → Fit (dissolve_agent own.home b a)
          go (yea e) _ _ = rw e (fit_moved a own.home (cond (eqb a.stage done) done looking) 0 0 f)
          go (nay e) (yea s) _ = rw (e, s) (fit_stage a looking 0 0 f)
          go (nay e) (nay s) (yea z) = rw (e, s, z) (fit_stage a looking 0 0 f)
          go (nay e) (nay s) (nay z) = rw (e, s, z) f

      opened_is : open_up tree x b ≡ moved tree x b
      unfolding moved
      opened_is = sym (ap (move tree x) opened_place ∙ move_open c x g fit_in b k)

      opened_makes : Makes t x b (shifted_on t x (at_stage own 3 own.home b) Dissolve)
      unfolding dissolve made
      opened_makes = makes_of (dissolve c x own own.home b).cell refl (tree_opened c x g own.home b refl own_not stands.placed ∙ opened_is)
          (fits_after (λ y. cond (c.given y) (dissolve_agent own.home b (c.agent y)) (c.agent y)) (rest_stage (use_up own))
          (λ y h. rw h (other_fit (c.agent y) (r.fit y h))))

    -- ---- release: a new place is put into the agent's own

    abbrev opener : Agent
    opener = at_stage own 3 own.home b

    -- the same cell with the agent at its own place
    abbrev there : State
    there = goes_on c x 3 own.home b

    agent_there : there.agent x ≡ opener
    agent_there = upd_same c.agent x opener

    -- putting reads no other agent's stage than the cell's
    put_there : (q : ℕ) → (put there x opener q).cell ≡ (put c x opener q).cell
    unfolding put wake
    put_there q = ap (λ (f : ℕ → Agent). with_touches (with_land (with_locks (with_agents c f) (released c.lock own.home q)) (put_land c.land q (next_action opener).name own.home)) (upd c.touches q 0))
        (fun_ext (λ y. go y (eq? y x)))
      where
        b' : Agent
        b' = at_stage (use_up opener) (rest_stage (use_up opener)) 0 0

        p : ℕ
        p = own.home

        go : (y : ℕ) → (y ≡ x) ⊎ (y ≢ x) → upd (wake there p p p) x b' y ≡ upd (wake c p p p) x b' y
        go y (inl e) = upd_at (wake there p p p) x y b' e ∙ sym (upd_at (wake c p p p) x y b' e)
        go y (inr n) = upd_other (wake there p p p) x y b' n
            ∙ ap (λ (a : Agent). cond (c.given y && asleep_on p p p a) (at_stage a looking 0 0) a) (upd_other c.agent x y opener n)
            ∙ sym (upd_other (wake c p p p) x y b' n)

    put_tree : (q : ℕ) → tree_of (put c x opener q).cell ≡ put_out tree x q
    put_tree q =
        ap tree_of (sym (put_there q)) ∙ ap (λ (a : Agent). tree_of (put there x a q).cell) (sym agent_there)
        ∙ tree_put there x g q (subst Fit (sym (agent_given there x g ∙ agent_there)) (fit_stage own 3 own.home b (r.fit x g)))
        (ap (λ (a : Agent). a.remembered) agent_there ∙ sym (ap (λ (a : Agent). a.home) agent_there))
        ∙ ap (λ (s : Tree). put_out s x q) (tree_quiet c x g c.lock 3 own.home b)

    module _ (k : kind_of own ≡ release_kind) where
      put_is : put_out tree x (fresh_number c.land.used) ≡ moved tree x b
      unfolding moved tree_of
      put_is = sym (ap (move tree x) (place_put tree x b (kind_is ∙ k)) ∙ move_release c x g fit_in (fresh_number tree.used) k)

      put_makes : Makes t x b (shifted_on t x opener (Put (fresh_number c.land.used)))
      unfolding put made
      put_makes = makes_of (put c x opener (fresh_number c.land.used)).cell refl (put_tree (fresh_number c.land.used) ∙ put_is)
          (fits_after (wake c own.home own.home own.home) (rest_stage (use_up own)) (woken_fit own.home own.home own.home))

    -- ---- any move

    entered_is : kind_of own ≡ enter_kind → put_into tree x b ≡ moved tree x b
    unfolding moved
    entered_is k = sym (ap (move tree x) (place_entered tree x b (kind_is ∙ k)) ∙ move_enter c x g fit_in b k)

    exited_is : kind_of own ≡ exit_kind → put_into tree x (tree.parent (tree.parent (tree.home x))) ≡ moved tree x b
    unfolding moved tree_of
    exited_is k = sym (move_exit c x g fit_in (place_of tree x b) k)

    -- what it comes to, and the table after it
    pub allowed_comes : Comes t x b (turn_of tree x b)
    unfolding turn_of turn_by made_on motion_of
    allowed_comes = go (mover_kind (move_case made_move))
      where
        read : own ≡ agent_at t x
        read = agent_read t r x g

        tests : {n : ℕ} → (next_of tree x).kind ≡ n → (m : ℕ) → eqb (kind_of own) m ≡ eqb n m
        tests k m = ap (λ (j : ℕ). eqb j m) (sym kind_is ∙ k)

        goes : (d : ℕ) → turn_of tree x b ≡ Into d → put_into tree x d ≡ moved tree x b → Comes t x b (turn_of tree x b)
        goes d e w = subst (Comes t x b) (sym e) (subst (λ (a : Agent). Makes t x b (went_into t x a d)) read (went_makes d w))

        shifts : turn_of tree x b ≡ Shift → Makes t x b (made_on t x own b) → Comes t x b (turn_of tree x b)
        shifts e m = subst (Comes t x b) (sym e) (subst (λ (a : Agent). Makes t x b (made_on t x a b)) read m)

        go : Kind (next_of tree x).kind → Comes t x b (turn_of tree x b)
        go (is_enter k) = goes b (rw (ok, k)) (entered_is (sym kind_is ∙ k))
        go (is_exit k) = goes (tree.parent (tree.parent (tree.home x))) (rw (ok, k)) (exited_is (sym kind_is ∙ k))
        go (is_open k) = shifts (rw (ok, k)) (rw (tests k open_kind) (opened_makes (sym kind_is ∙ k)))
        go (is_release k) = shifts (rw (ok, k)) (rw (tests k open_kind) (put_makes (sym kind_is ∙ k)))
