-- In a sound cell with an agent at stages 0 to 6, some agent's step changes the cell, whatever its wish: no deadlock.
-- An agent that waits leads to the holder of the lock. Holders at stage 2 lead down along links, those at stage 5 up along destinations;
-- both ways end, and at the other stages nobody waits while it holds a lock.
use Rattle.std.specs.Prelude.{◌≡◌, ◌≢◌, ◌⊎◌, Bool, true, false, not, ◌&&◌, eqb}
use Rattle.std.proofs.Math.Path.{refl}
use Rattle.std.proofs.Common.{sym, ap, ◌∙◌, subst, ⊎_elim, arith, ne_eqb}
use Rattle.std.proofs.Math.Logic.{inl, inr}
use Prim.Native.Nat.{ℕ, zero, suc, ◌+◌, ◌≤◌, ◌<◌}
use Rattle.std.proofs.lemmas.Bool.{eqb-false, not-true}
use Rattle.table.specs.Base.{upd, any_below, iter}
use Rattle.table.proofs.BaseLaws.{Told, yea, nay, told, clash, eq?, and_left, and_right, upd_same, any_at, any_found}
use Rattle.table.specs.Cell.{Land, State, none, linked, linked_to, kind_of, exit_kind, open_kind, holding, on_way_own, on_way_both, asleep}
use Rattle.table.specs.Sound.{second_place}
use Rattle.table.specs.declared.Agent.{Agent}
use Rattle.meaning.specs.Update.{use_up}
use Rattle.meaning.specs.Step.{Outcome, step, still, put, leave, dissolve, arrive, choice, stays}
use Rattle.calculus.proofs.Up.{sixty_three}
use Rattle.calculus.specs.Up.{Up, base, up}
use Rattle.demands.specs.Reading.{parent_in, agent_in}
use Rattle.demands.proofs.ReadingLaws.{agent_given}
use Rattle.demands.specs.Invariant.{Under, Ok, ok0, ok1, ok2, ok3_move, ok3_open, ok4, ok5, ok6, ok7, ok8, Holds, near, far, own}
use Rattle.demands.specs.Invariant.{destination, Kept, free, kept, Sound}
use Rattle.demands.proofs.Facts.{link_used, under_fits, under_of, opens_fits, stays_under, second_move, second_open}
use Rattle.demands.proofs.Choice.{choice_fits}
use Rattle.demands.proofs.Stages.{ok_at, rest_stage_lem, not_between, holds_given, ok_given, home_given}
use Rattle.demands.specs.Ways.{Way, is_done, is_asleep, held_first, held_second, held_own, held_destination, looks_up, looks_at_home}
use Rattle.demands.specs.Ways.{sleeps_alone, takes_first, goes_back, sleeps_stuck, takes_second, puts, sleeps_full, gives_up, enters, exits, opens}
use Rattle.demands.specs.Ways.{takes_own, takes_destination, comes}
use Rattle.demands.proofs.StepWays.{step_way}

-- an agent whose step changes its stage, whatever its wish
pub record Goes (c : State) : Type 0 where
  pub who : ℕ
  pub given : c.given who ≡ true
  pub awake : (c.agent who).stage ≤ on_way_both
  pub changes : (w : ℕ) → ((step c who w).cell.agent who).stage ≢ (c.agent who).stage

-- the lock of q is the next that an agent at this stage needs; the names of the stages stand above the clauses
abbrev pub Needs : Land → Agent → ℕ → ℕ → Type 0
-- looking
Needs l a q zero = ⊥
-- found
Needs l a q (suc zero) = q ≡ a.remembered
-- holding
Needs l a q (suc (suc zero)) = Under l q a.remembered
-- holdingBoth
Needs l a q (suc (suc (suc zero))) = ⊥
-- onWay
Needs l a q (suc (suc (suc (suc zero)))) = q ≡ a.home
-- onWayOwn
Needs l a q (suc (suc (suc (suc (suc zero))))) = q ≡ parent_in l a.home
-- onWayBoth, asleep, done
Needs l a q (suc (suc (suc (suc (suc (suc n)))))) = ⊥

-- a step that changes nothing: the agent is at rest, or a lock that it needs is held
pub data Waits (c : State) (x : ℕ) : Type 0 where
  rests : asleep ≤ (c.agent x).stage → Waits c x
  waits : (q n : ℕ) → (c.agent x).stage ≡ n → Needs c.land (c.agent x) q n → c.lock q ≢ none → Waits c x

module _ (c : State) (i : Sound c) (x : ℕ) (g : c.given x ≡ true) where
  other_stage : (s k : ℕ) (b : Agent) (f : ℕ → Agent) → (c.agent x).stage ≡ s → b.stage ≡ k → s ≢ k → (upd f x b x).stage ≢ (c.agent x).stage
  other_stage s k b f e d n z = n (sym e ∙ sym z ∙ ap (λ v. v.stage) (upd_same f x b) ∙ d)

  -- the second place is linked to the remembered one
  pub second_under : (w : ℕ) → kind_of (c.agent x) ≤ open_kind → stays c.land (c.agent x) ≡ true → choice c.land (c.agent x) w < 64
      → Under c.land (second_place (kind_of (c.agent x)) (c.agent x).home (choice c.land (c.agent x) w)) (c.agent x).remembered
  second_under w b st l = go (eq? (kind_of (c.agent x)) open_kind)
    where
      q : ℕ
      q = choice c.land (c.agent x) w

      to : (r : ℕ) → second_place (kind_of (c.agent x)) (c.agent x).home q ≡ r → Under c.land r (c.agent x).remembered
          → Under c.land (second_place (kind_of (c.agent x)) (c.agent x).home q) (c.agent x).remembered
      to r e = subst (λ (n : ℕ). Under c.land n (c.agent x).remembered) (sym e)

      go : (kind_of (c.agent x) ≡ open_kind) ⊎ (kind_of (c.agent x) ≢ open_kind)
          → Under c.land (second_place (kind_of (c.agent x)) (c.agent x).home q) (c.agent x).remembered
      go (inl k) = to q (second_open _ _ q k) (opens_fits c.land _ _ _ _ q k (choice_fits c.land (c.agent x) w q refl l)).0.under
      go (inr n) =
          let k : kind_of (c.agent x) ≤ exit_kind = omega arith in
          to (c.agent x).home (second_move _ _ q k) (stays_under c.land (c.agent x) k st)

  -- a step changes the agent's stage, or the agent waits
  change : {w : ℕ} {o : Outcome} → Way c x w o → ((o.cell.agent x).stage ≢ (c.agent x).stage) ⊎ Waits c x
  unfolding still put leave dissolve arrive
  change (is_done s) = inr (rests (omega arith))
  change (is_asleep s) = inr (rests (omega arith))
  change (held_first s n) = inr (waits _ 1 s refl n)
  change {w} (held_second s b st l n) = inr (waits _ 2 s (second_under w b st l) n)
  change (held_own s n) = inr (waits _ 4 s refl n)
  change (held_destination s n) = inr (waits _ 5 s refl n)
  change (looks_up s k e) = inl (other_stage 0 1 _ _ s refl (omega arith))
  change (looks_at_home s k) = inl (other_stage 0 1 _ _ s refl (omega arith))
  change (sleeps_alone s k e) = inl (other_stage 0 7 _ _ s refl (omega arith))
  change (takes_first s e) = inl (other_stage 1 2 _ _ s refl (omega arith))
  change (goes_back s e) = inl (other_stage 2 0 _ _ s refl (omega arith))
  change (sleeps_stuck s b st l) = inl (other_stage 2 7 _ _ s refl (omega arith))
  change (takes_second q s b st e l f) = inl (other_stage 2 3 _ _ s refl (omega arith))
  change (puts q s k e l) = inl (other_stage 2 _ _ _ s refl (λ z. not_between (rest_stage_lem (use_up (c.agent x))) (omega arith) (omega arith)))
  change (sleeps_full s k f) = inl (other_stage 2 7 _ _ s refl (omega arith))
  change (gives_up s e) = inl (other_stage 3 0 _ _ s refl (omega arith))
  change (enters s k e) = inl (other_stage 3 4 _ _ s refl (omega arith))
  change (exits s k e) = inl (other_stage 3 4 _ _ s refl (omega arith))
  change (opens s k e) = inl (other_stage 3 _ _ _ s refl (λ z. not_between (rest_stage_lem (use_up (c.agent x))) (omega arith) (omega arith)))
  change (takes_own s e) = inl (other_stage 4 5 _ _ s refl (omega arith))
  change (takes_destination s e) = inl (other_stage 5 6 _ _ s refl (omega arith))
  change (comes s) = inl (other_stage 6 _ _ _ s refl (λ z. not_between (rest_stage_lem (c.agent x)) (omega arith) (omega arith)))

  -- an agent at stage n whose locks are free goes
  free_to : (n : ℕ) → (c.agent x).stage ≡ n → n ≤ 6 → ((q : ℕ) → Needs c.land (c.agent x) q n → c.lock q ≡ none) → Goes c
  free_to n s l f = record { who = x; given = g; awake = omega arith; changes = λ w. go w (change (step_way c i x g w)) }
    where
      go : (w : ℕ) → (((step c x w).cell.agent x).stage ≢ (c.agent x).stage) ⊎ Waits c x → ((step c x w).cell.agent x).stage ≢ (c.agent x).stage
      go w (inl d) = d
      go w (inr (rests r)) = absurd (omega arith)
      go w (inr (waits q m t k h)) = absurd (h (f q (subst (Needs c.land (c.agent x) q) (sym t ∙ s) k)))

module _ (c : State) (i : Sound c) where
  -- an agent that holds both places needs no lock
  third : (x : ℕ) → c.given x ≡ true → (c.agent x).stage ≡ 3 → Goes c
  third x g s = free_to c i x g 3 s (omega arith) (λ r z. absurd z)

  sixth : (x : ℕ) → c.given x ≡ true → (c.agent x).stage ≡ 6 → Goes c
  sixth x g s = free_to c i x g 6 s (omega arith) (λ r z. absurd z)

  -- the holder of the lock of q: its step changes the cell, or it needs a second lock
  data Holder (q : ℕ) : Type 0 where
    goes : Goes c → Holder q
    at_two : (y : ℕ) → c.given y ≡ true → (c.agent y).stage ≡ holding → q ≡ (c.agent y).remembered → Holder q
    at_five : (y : ℕ) → c.given y ≡ true → (c.agent y).stage ≡ on_way_own → q ≡ (c.agent y).home → Holder q

  holder : (q : ℕ) → c.land.used q ≡ true → c.lock q ≢ none → Holder q
  holder q u n = go (i.locks q u)
    where
      by : (y : ℕ) → c.given y ≡ true → Holds c.land (c.agent y) q → Holder q
      by y g (near lo hi f) = ⊎_elim (λ e. at_two y g e f) (λ e. goes (third y g (omega arith))) (eq? (c.agent y).stage 2)
      by y g (far s f) = goes (third y g s)
      by y g (own lo hi f) = ⊎_elim (λ e. at_five y g e f) (λ e. goes (sixth y g (omega arith))) (eq? (c.agent y).stage 5)
      by y g (destination s f) = goes (sixth y g s)

      go : Kept c.land c.lock (agent_in c) q → Holder q
      go (free f) = absurd (n f)
      go (kept y h r) =
          let g = holds_given c y r in
          by y g (subst (λ (a : Agent). Holds c.land a q) (agent_given c y g) r)

  -- ---- stage 2: down along links

  -- place p is deeper than k - 1
  Deep : ℕ → ℕ → Type 0
  Deep zero p = Unit {0}
  Deep (suc k) p = iter (parent_in c.land) k p ≢ 0

  deeper : (k p q : ℕ) → Deep k p → Under c.land q p → Deep (suc k) q
  unfolding Deep iter
  deeper zero p q d u z = clash u.link (ap (linked c.land) z ∙ i.places.floor_link)
  deeper (suc k) p q d u z = d (ap (iter (parent_in c.land) k) (sym u.parent) ∙ z)

  too_deep : (p : ℕ) → c.land.used p ≡ true → Deep 64 p → ⊥
  unfolding Deep
  too_deep p u d = d (sixty_three (parent_in c.land) i.places.floor_parent (λ q _. i.places.small _ (i.places.parent_used q))
      (i.places.small p u) (i.places.tree p))

  -- a place linked to p is locked
  locked_under : ℕ → ℕ → Bool
  locked_under p q = linked_to c.land q p && not (eqb (c.lock q) none)

  -- an agent at stage 2 that holds a deeper place leads to one that goes
  abbrev Deeper : ℕ → Type 0
  Deeper k = (y : ℕ) → c.given y ≡ true → (c.agent y).stage ≡ holding → Deep (suc k) (c.agent y).remembered → Goes c

  down : (n k : ℕ) → k + n ≡ 64 → (x : ℕ) → c.given x ≡ true → (c.agent x).stage ≡ 2 → Deep k (c.agent x).remembered → Goes c
  unfolding locked_under
  down zero k e x g s d = absurd (too_deep _ (ok_at 2 s (ok_given c i x g)).0.known
      (subst (λ (j : ℕ). Deep j (c.agent x).remembered) (omega arith) d))
  down (suc n) k e x g s d = go (told (any_below (locked_under p) 64)) (λ y h t. down n (suc k) (omega arith) y h t)
    where
      p : ℕ
      p = (c.agent x).remembered

      clear : any_below (locked_under p) 64 ≡ false → (q : ℕ) → Under c.land q p → c.lock q ≡ none
      clear f q u = at (eq? (c.lock q) none)
        where
          at : (c.lock q ≡ none) ⊎ (c.lock q ≢ none) → c.lock q ≡ none
          at (inl e) = e
          at (inr h) = clash (any_at (locked_under p) 64 q (i.places.small q (link_used c.land q u.link))
              (rw (under_of c.land q p u, ne_eqb (c.lock q) none h))) f

      on : (q : ℕ) → Under c.land q p → Holder q → Deeper k → Goes c
      on q u (goes r) more = r
      on q u (at_two y h t f) more = more y h t (subst (Deep (suc k)) f (deeper k p q d u))
      on q u (at_five y h t f) more = clash u.link (ap (linked c.land) f ∙ (ok_at 5 t (ok_given c i y h)).0.loose)

      go : Told (any_below (locked_under p) 64) → Deeper k → Goes c
      go (nay f) more = free_to c i x g 2 s (omega arith) (clear f)
      go (yea f) more =
          let t = any_found (locked_under p) 64 f in
          let q = t.0 in
          let u = under_fits c.land q p (and_left (linked_to c.land q p) (not (eqb (c.lock q) none)) t.1.1) in
          let h = eqb-false (c.lock q) none (not-true _ (and_right (linked_to c.land q p) (not (eqb (c.lock q) none)) t.1.1)) in
          on q u (holder q (link_used c.land q u.link) h) more

  second_stage : (x : ℕ) → c.given x ≡ true → (c.agent x).stage ≡ 2 → Goes c
  unfolding Deep
  second_stage x g s = down 64 0 refl x g s tt

  -- ---- stage 5: up along destinations

  -- an agent at stage 5 of place q leads to one that goes
  abbrev Higher : ℕ → Type 0
  Higher q = (y : ℕ) → c.given y ≡ true → q ≡ (c.agent y).home → (c.agent y).stage ≡ on_way_own → Goes c

  climb : {q : ℕ} → Up (parent_in c.land) q → Higher q
  climb base x g e s = absurd ((ok_at 5 s (ok_given c i x g)).0.placed (sym e))
  climb (up q u) x g e s = go (eq? (c.lock d) none) (λ y h f t. climb u y h f t)
    where
      d : ℕ
      d = parent_in c.land (c.agent x).home

      on : Holder d → Higher (parent_in c.land q) → Goes c
      on (goes r) more = r
      on (at_two y h t f) more = second_stage y h t
      on (at_five y h t f) more = more y h (ap (parent_in c.land) e ∙ f) t

      go : (c.lock d ≡ none) ⊎ (c.lock d ≢ none) → Higher (parent_in c.land q) → Goes c
      go (inl f) more = free_to c i x g 5 s (omega arith) (λ r z. ap c.lock z ∙ f)
      go (inr n) more = on (holder d (i.places.parent_used _) n) more

  fifth_stage : (x : ℕ) → c.given x ≡ true → (c.agent x).stage ≡ 5 → Goes c
  fifth_stage x g s = climb (i.places.tree (c.agent x).home) x g refl s

  -- ---- the other stages

  -- an agent goes, or the lock of q, which it needs, has a holder
  either : (x n q : ℕ) → c.given x ≡ true → (c.agent x).stage ≡ n → n ≤ 6 → c.land.used q ≡ true
      → ((r : ℕ) → Needs c.land (c.agent x) r n → r ≡ q) → Goes c
  either x n q g s l u only = go (eq? (c.lock q) none)
    where
      on : Holder q → Goes c
      on (goes r) = r
      on (at_two y h t f) = second_stage y h t
      on (at_five y h t f) = fifth_stage y h t

      go : (c.lock q ≡ none) ⊎ (c.lock q ≢ none) → Goes c
      go (inl e) = free_to c i x g n s l (λ r z. ap c.lock (only r z) ∙ e)
      go (inr h) = on (holder q u h)

  -- an agent that is neither asleep nor done: somebody's step changes the cell
  pub live : (x : ℕ) → c.given x ≡ true → (c.agent x).stage ≤ 6 → Goes c
  live x g l = go (ok_given c i x g)
    where
      go : Ok c.land c.lock x (c.agent x) → Goes c
      go (ok0 s k) = free_to c i x g 0 s (omega arith) (λ r z. absurd z)
      go (ok1 s r) = either x 1 (c.agent x).remembered g s (omega arith) r.known (λ r z. z)
      go (ok2 s r h) = second_stage x g s
      go (ok3_move s r k h₁ h₂ u v) = third x g s
      go (ok3_open s r k h₁ h₂ u) = third x g s
      go (ok4 s v) = either x 4 (c.agent x).home g s (omega arith) (home_given c i x g) (λ r z. z)
      go (ok5 s v h) = fifth_stage x g s
      go (ok6 s v h₁ h₂) = sixth x g s
      go (ok7 s k u) = absurd (omega arith)
      go (ok8 s e) = absurd (omega arith)
