-- From a settled cell every move that the calculus permits an agent is made by nine of the agent's own calls at most.
-- While nobody else holds a lock or is on its way, each lock that the agent needs is free, and the tree tells what it wishes for: its next
-- step is known at every stage. A move stays permitted, with the same result, until the step that makes it.
use Rattle.std.specs.Prelude.{◌≡◌, ◌≢◌, ◌⊎◌, cond, ℕ, ◌≤◌, ◌<◌, eqb}
use Rattle.std.proofs.Math.Path.{refl, sym, ap, subst}
use Rattle.std.proofs.Common.{◌∙◌, inl, inr, arith, eqb-true}
use Rattle.std.proofs.Math.Bool.{true, false}
use Rattle.table.specs.Base.{iter}
use Rattle.table.proofs.BaseLaws.{Told, yea, nay, told, eq?, upd_same}
use Rattle.table.specs.Bounds.{Sized}
use Rattle.table.specs.Cell.{Land, State, none, linked, next_action, kind_of, name_of, cell_of, fresh_number, exit_kind, open_kind, release_kind, looks_home}
use Rattle.table.proofs.KindLaws.{Kind, is_enter, is_exit, is_open, is_release, around_kind}
use Rattle.table.specs.Sound.{second_place}
use Rattle.table.specs.declared.Agent.{Agent}
use Rattle.table.specs.declared.Cell.{Cell}
use Rattle.meaning.specs.Update.{at_stage, use_up}
use Rattle.meaning.specs.Step.{stays, choice, qualifies, fires, target_of, destination_of, put, leave, dissolve, arrive}
use Rattle.meaning.specs.Run.{settled}
use Rattle.meaning.specs.Calculus.{Tree, Move, put_into, open_up, put_out, move}
use Rattle.meaning.specs.Plain.{tree_of}
use Rattle.calculus.proofs.Up.{acyclic}
use Rattle.calculus.proofs.MoveCases.{MoveCase, move_case, release_only}
use Rattle.demands.specs.Reading.{parent_in, agent_in}
use Rattle.demands.proofs.ReadingLaws.{agent_given}
use Rattle.demands.specs.Invariant.{Under, Ready, Holds, Sound, Inv}
use Rattle.demands.proofs.Facts.{link_used, parent_read, exits_fits, under_of}
use Rattle.demands.proofs.Choice.{choice_wish}
use Rattle.demands.proofs.Actions.{kind_of_lem, kind_small}
use Rattle.demands.proofs.Stages.{BothMove, BothOpen, ok_at, holds_none, holds_two, holds_four, holds_five}
use Rattle.demands.proofs.OpeningPlaces.{linked_not_floor, child_not_self}
use Rattle.demands.proofs.TreeOf.{tree_came, tree_left, tree_put, tree_opened}
use Rattle.demands.proofs.SameTree.{given_kind, given_beyond, move_enter, move_exit, move_open}
use Rattle.demands.proofs.AtRest.{no_move}
use Rattle.demands.proofs.Live.{second_under}
use Rattle.demands.proofs.Ahead.{looks_at, ahead_look, ahead_first, ahead_second, ahead_put, ahead_back, ahead_leave, ahead_open, ahead_own}
use Rattle.demands.proofs.Ahead.{ahead_destination, ahead_arrive}
use Rattle.demands.specs.TwoSteps.{Reaches}
use Rattle.demands.proofs.TwoAlone.{Low, rest_low, settled_low, low_whole}
use Rattle.demands.proofs.Permitted.{looks_same, Target, target, move_given, off_floor}
use Rattle.demands.proofs.TwoChain.{Alone, none_more, one_more, quiet_more, raise, own_ok, own_fit, own_used, free_at, whole}

module _ (a : ℕ) where
  -- the cell, its places, and the agent
  abbrev land : Cell → Land
  land t = (cell_of t).land

  abbrev own : Cell → Agent
  own t = (cell_of t).agent a

  abbrev tree : Cell → Tree
  tree t = tree_of (cell_of t)

  abbrev sound : (t : Cell) → Alone t a → Sound (cell_of t)
  sound t p = p.inv.sound

  -- ---- stages 4 to 6: the tree is as it is to be

  from_six : (t : Cell) → Alone t a → (own t).stage ≡ 6 → Reaches 1 a t (tree t)
  unfolding arrive
  from_six t p s = one_more 0 0 t _ (omega arith) p (ahead_arrive (cell_of t) a 0 s)
      (λ v q f. subst (Reaches 0 a v) (ap tree_of f ∙ tree_came (cell_of t) a p.given _)
      (none_more 0 v q (subst (λ (b : Agent). Low b.stage) (sym (ap (λ (z : State). z.agent a) f ∙ upd_same _ a _)) (rest_low (own t)))))

  from_five : (t : Cell) → Alone t a → (own t).stage ≡ 5 → Reaches 2 a t (tree t)
  from_five t p s = quiet_more 1 0 t 6 0 0 _ (omega arith) p
      (ahead_destination (cell_of t) a 0 s (own_used t p) (free_at t p _ ((sound t p).places.parent_used _) apart))
      (λ v q l e f. subst (Reaches 1 a v) f (from_six v q (ap (λ b. b.stage) e)))
    where
      apart : Holds (land t) (own t) (parent_in (land t) (own t).home) → ⊥
      apart h = (ok_at 5 s (own_ok t p)).0.placed
          (acyclic (parent_in (land t)) (sound t p).places.floor_parent ((sound t p).places.tree _) 0 (unfold iter in holds_five s h))

  from_four : (t : Cell) → Alone t a → (own t).stage ≡ 4 → Reaches 3 a t (tree t)
  from_four t p s = quiet_more 2 0 t 5 0 0 _ (omega arith) p (ahead_own (cell_of t) a 0 s (free_at t p _ (own_used t p) (holds_four s)))
      (λ v q l e f. subst (Reaches 2 a v) f (from_five v q (ap (λ b. b.stage) e)))

  -- ---- stage 3: the action fires

  module _ (t : Cell) (p : Alone t a) (s : (own t).stage ≡ 3) (fire : fires (land t) (own t) ≡ true) where
    ready : Ready (land t) (own t)
    ready = (ok_at 3 s (own_ok t p)).0

    abbrev Done : Type 0
    Done = Reaches 4 a t (move (tree t) a (target_of (own t)))

    -- leaving, with the destination as the move has it
    leaves : kind_of (own t) ≢ open_kind → move (tree t) a (target_of (own t)) ≡ put_into (tree t) a (destination_of (land t) (own t)) → Done
    unfolding leave
    leaves k e = one_more 3 0 t _ (omega arith) p (ahead_leave (cell_of t) a 0 s k fire)
        (λ v q f. subst (Reaches 3 a v) (ap tree_of f ∙ tree_left (cell_of t) a p.given _ (own_used t p) ∙ sym e)
        (from_four v q (ap (λ (b : Agent). b.stage) (ap (λ (z : State). z.agent a) f ∙ upd_same _ a _))))

    -- opening
    opened : kind_of (own t) ≡ open_kind → Under (land t) (own t).chosen (own t).remembered → Done
    unfolding dissolve
    opened k u = raise (omega arith) (one_more 0 0 t _ (omega arith) p (ahead_open (cell_of t) a 0 s k fire)
        (λ v q f. subst (Reaches 0 a v) (ap tree_of f ∙ tree_opened (cell_of t) a p.given _ _ mine apart placed ∙ made)
        (none_more 0 v q (subst (λ (b : Agent). Low b.stage) (sym (ap (λ (z : State). z.agent a) f ∙ upd_same _ a _))
        (rest_low (use_up (own t)))))))
      where
        mine : (own t).remembered ≡ (own t).home
        mine = ready.opener (omega arith)

        apart : (own t).home ≢ (own t).chosen
        apart e = child_not_self (sound t p).places u (mine ∙ e)

        placed : (own t).chosen ≢ 0
        placed = linked_not_floor (sound t p).places u.link

        made : open_up (tree t) a (own t).chosen ≡ move (tree t) a (target_of (own t))
        made = sym (move_open (cell_of t) a p.given ((sound t p).fit a) _ k) ∙ ap (move (tree t) a) (sym (rw k))

    from_three : Done
    from_three = go (kind_of_lem (own t) (own_fit t p) ready.some) (ok_at 3 s (own_ok t p)).2
      where
        go : Kind (kind_of (own t)) → BothMove (land t) (cell_of t).lock a (own t) ⊎ BothOpen (land t) (cell_of t).lock a (own t) → Done
        go (is_enter k) _ = leaves (omega arith) (move_enter (cell_of t) a p.given ((sound t p).fit a) _ k ∙ ap (put_into (tree t) a) (rw k))
        go (is_exit k) (inl b) = leaves (omega arith)
            (move_exit (cell_of t) a p.given ((sound t p).fit a) _ k ∙ ap (put_into (tree t) a) (around ∙ sym (rw k)))
          where
            around : (tree t).parent ((tree t).parent ((tree t).home a)) ≡ ((land t).place (own t).remembered).parent
            around = given_beyond (cell_of t) a p.given _ b.under.parent ∙ parent_read (land t) _ ready.known
        go (is_exit k) (inr b) = absurd (omega (arith, b.kind))
        go (is_open k) (inl b) = absurd (omega (arith, b.kind))
        go (is_open k) (inr b) = opened k b.under
        go (is_release k) (inl b) = absurd (omega (arith, b.kind))
        go (is_release k) (inr b) = absurd (omega (arith, b.kind))

  -- ---- stages 0 to 2: the agent goes for what is permitted

  -- at stage 3 the action is to fire on the place wished for
  target_is : (l : Land) (b : Agent) (q : ℕ) → qualifies l (kind_of b) (name_of b) b.home b.remembered q ≡ true
      → target_of (at_stage b 3 b.remembered (cond (eqb (kind_of b) exit_kind) 0 q)) ≡ q
  unfolding next_action
  target_is l b q f = go (told (eqb (kind_of b) exit_kind))
    where
      go : Told (eqb (kind_of b) exit_kind) → target_of (at_stage b 3 b.remembered (cond (eqb (kind_of b) exit_kind) 0 q)) ≡ q
      go (yea e) = rw e (sym (exits_fits l _ _ _ _ q (eqb-true _ _ e) f).0)
      go (nay e) = rw e

  -- release puts its place out
  from_release : (t : Cell) {u : Tree} → Alone t a → MoveCase (tree t) a u → (own t).stage ≡ 2 → kind_of (own t) ≡ release_kind → Reaches 1 a t u
  unfolding put
  from_release t {u} p m s k = one_more 0 0 t _ (omega arith) p (ahead_put (cell_of t) a 0 _ s k refl room.0)
      (λ v q f. subst (Reaches 0 a v) (ap tree_of f ∙ tree_put (cell_of t) a p.given _ ((sound t p).fit a) mine ∙ sym room.1)
      (none_more 0 v q (subst (λ (b : Agent). Low b.stage) (sym (ap (λ (z : State). z.agent a) f ∙ upd_same _ a _))
      (rest_low (use_up (own t))))))
    where
      room : (fresh_number (land t).used < 64) × (u ≡ put_out (tree t) a (fresh_number (land t).used))
      room = unfold tree_of in release_only m (given_kind (cell_of t) a p.given ((sound t p).fit a) ∙ k)

      mine : (own t).remembered ≡ (own t).home
      mine = (ok_at 2 s (own_ok t p)).0.opener (omega arith)

  -- an agent that chooses a place wishes for the one that its move goes to
  from_choice : (t : Cell) {u : Tree} → Alone t a → MoveCase (tree t) a u → (own t).stage ≡ 2 → kind_of (own t) ≤ open_kind → stays (land t) (own t) ≡ true
      → Reaches 5 a t u
  from_choice t {u} p m s k st = quiet_more 4 q t 3 _ _ _ (omega (arith, g.small)) p
      (ahead_second (cell_of t) a q q s k st wished g.small (free_at t p _ (link_used (land t) _ under.link) apart)) next
    where
      g : Target (cell_of t) (sound t p) a p.given (whole t p (omega arith)) u
      g = target (cell_of t) (sound t p) a p.given (whole t p (omega arith)) k m

      q : ℕ
      q = g.place

      fits : qualifies (land t) (kind_of (own t)) (name_of (own t)) (own t).home (own t).remembered q ≡ true
      fits = subst (λ (r : ℕ). qualifies (land t) (kind_of (own t)) (name_of (own t)) (own t).home r q ≡ true)
          (sym (looks_same (land t) (own t) (kind_small (own t) (own_fit t p)) (ok_at 2 s (own_ok t p)).0.opener st)) g.fits

      wished : choice (land t) (own t) q ≡ q
      wished = choice_wish (land t) (own t) q g.small fits

      second : ℕ
      second = second_place (kind_of (own t)) (own t).home q

      under : Under (land t) second (own t).remembered
      under = subst (λ (r : ℕ). Under (land t) (second_place (kind_of (own t)) (own t).home r) (own t).remembered) wished
          (second_under (cell_of t) (sound t p) a p.given q k st (subst (λ (r : ℕ). r < 64) (sym wished) g.small))

      apart : Holds (land t) (own t) second → ⊥
      apart h = child_not_self (sound t p).places under (sym (holds_two s h))

      b : Agent
      b = at_stage (own t) 3 (own t).remembered (cond (eqb (kind_of (own t)) exit_kind) 0 q)

      fire : fires (land t) b ≡ true
      fire = unfold fires next_action in (ap (qualifies (land t) (kind_of (own t)) (name_of (own t)) (own t).home (own t).remembered)
          (target_is (land t) (own t) q fits) ∙ fits)

      next : (v : Cell) → Alone v a → land v ≡ land t → own v ≡ b → tree v ≡ tree t → Reaches 4 a v u
      next v r l e f = subst (Reaches 4 a v)
          (ap (λ (w : Tree). move w a (target_of (own v))) f ∙ ap (λ (w : Agent). move (tree t) a (target_of w)) e
          ∙ ap (move (tree t) a) (target_is (land t) (own t) q fits) ∙ sym g.result)
          (from_three v r (ap (λ w. w.stage) e) (ap (λ (k : Land). fires k (own v)) l ∙ ap (fires (land t)) e ∙ fire))

  -- at stage 2 release puts its place out, and every other kind chooses a place
  from_two : (t : Cell) {u : Tree} → Alone t a → MoveCase (tree t) a u → (own t).stage ≡ 2 → stays (land t) (own t) ≡ true → Reaches 5 a t u
  from_two t {u} p m s st = go (eq? (kind_of (own t)) release_kind)
    where
      go : (kind_of (own t) ≡ release_kind) ⊎ (kind_of (own t) ≢ release_kind) → Reaches 5 a t u
      go (inl k) = raise (omega arith) (from_release t p m s k)
      go (inr n) = from_choice t p m s (let l = kind_small (own t) (own_fit t p) in omega arith) st

  -- a remembered place is free
  first_free : (t : Cell) (p : Alone t a) → (own t).stage ≡ 1 → (cell_of t).lock (own t).remembered ≡ none
  first_free t p s = free_at t p _ (ok_at 1 s (own_ok t p)).known (holds_none (omega arith))

  from_one : (t : Cell) {u : Tree} → Alone t a → MoveCase (tree t) a u → (own t).stage ≡ 1 → stays (land t) (own t) ≡ true → Reaches 6 a t u
  unfolding stays next_action
  from_one t {u} p m s st = quiet_more 5 0 t 2 _ 0 _ (omega arith) p (ahead_first (cell_of t) a 0 s (first_free t p s))
      (λ v q l e f. from_two v q (subst (λ w. MoveCase w a u) (sym f) m) (ap (λ b. b.stage) e)
      (ap (λ (k : Land). stays k (own v)) l ∙ ap (stays (land t)) e ∙ st))

  from_zero : (t : Cell) {u : Tree} → Alone t a → MoveCase (tree t) a u → (own t).stage ≡ 0 → Reaches 7 a t u
  unfolding stays next_action
  from_zero t {u} p m s = quiet_more 6 0 t 1 _ 0 _ (omega arith) p (ahead_look (cell_of t) a 0 s (own_used t p) home_linked)
      (λ v q l e f. from_one v q (subst (λ w. MoveCase w a u) (sym f) m) (ap (λ b. b.stage) e)
      (ap (λ (k : Land). stays k (own v)) l ∙ ap (stays (land t)) e ∙ fresh))
    where
      home_linked : looks_home (kind_of (own t)) ≡ false → linked (land t) (own t).home ≡ true
      home_linked k = whole t p (omega arith) _ (own_used t p) (off_floor (cell_of t) (sound t p) a p.given m (around_kind (kind_of (own t)) (kind_small (own t) (own_fit t p)) k))

      fresh : stays (land t) (at_stage (own t) 1 (looks_at (land t) (own t)) 0) ≡ true
      fresh = go (told (looks_home (kind_of (own t))))
        where
          go : Told (looks_home (kind_of (own t))) → stays (land t) (at_stage (own t) 1 (looks_at (land t) (own t)) 0) ≡ true
          go (yea e) = rw e
          go (nay e) = rw e (under_of (land t) (own t).home (parent_in (land t) (own t).home)
              (record { link = home_linked e; parent = refl }))

  -- a remembered place that its own is not linked to: taken, given back, and then from the start
  from_stale : (t : Cell) {u : Tree} → Alone t a → MoveCase (tree t) a u → (own t).stage ≡ 1 → stays (land t) (own t) ≡ false → Reaches 9 a t u
  unfolding stays next_action
  from_stale t {u} p m s st = quiet_more 8 0 t 2 _ 0 _ (omega arith) p (ahead_first (cell_of t) a 0 s (first_free t p s))
      (λ v q l e f. quiet_more 7 0 v 0 0 0 _ (omega arith) q
      (ahead_back (cell_of v) a 0 (ap (λ b. b.stage) e) (ap (λ (k : Land). stays k (own v)) l ∙ ap (stays (land t)) e ∙ st))
      (λ v₂ q₂ l₂ e₂ f₂. from_zero v₂ q₂ (subst (λ w. MoveCase w a u) (sym (f₂ ∙ f)) m) (ap (λ b. b.stage) e₂)))

  -- every permitted move, with exactly the calculus's result
  pub reach : (t : Cell) → Sized t → Inv (cell_of t) → settled (cell_of t) ≡ true → {u : Tree} → Move (tree t) a u → Reaches 9 a t u
  reach t z inv e {u} v = go (low a)
    where
      m : MoveCase (tree t) a u
      m = move_case v

      g : (cell_of t).given a ≡ true
      g = move_given (cell_of t) m

      low : (y : ℕ) → Low (agent_in (cell_of t) y).stage
      low = settled_low (cell_of t) inv.sound e

      p : Alone t a
      p = record { sized = z; inv = inv; given = g; others = λ y _. low y }

      one : (own t).stage ≡ 1 → Told (stays (land t) (own t)) → Reaches 9 a t u
      one s (yea st) = raise (omega arith) (from_one t p m s st)
      one s (nay st) = from_stale t p m s st

      early : (own t).stage ≤ 1 → ((own t).stage ≡ 0) ⊎ ((own t).stage ≢ 0) → Reaches 9 a t u
      early l (inl s) = raise (omega arith) (from_zero t p m s)
      early l (inr n) = one (omega arith) (told (stays (land t) (own t)))

      go : Low (agent_in (cell_of t) a).stage → Reaches 9 a t u
      go (inl l) = early (subst (λ (b : Agent). b.stage ≤ 1) (agent_given (cell_of t) a g) l) (eq? (own t).stage 0)
      go (inr l) = absurd (no_move (cell_of t) inv (low_whole (cell_of t) inv.sound low) a l u v)
