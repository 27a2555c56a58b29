-- The steps that leave the places as they are keep the cell: the agent goes on, takes a lock, or gives its locks back.
-- Each is a change of one agent that nobody else notices: others have their locks, and nothing is linked or loosened.
use Rattle.std.specs.Prelude.{◌≡◌, ◌≢◌, ◌⊎◌, ℕ, ◌≤◌, ◌<◌, true, cond, eqb}
use Rattle.std.proofs.Math.Path.{refl}
use Rattle.std.proofs.Common.{sym, ap, ◌∙◌, subst, arith}
use Rattle.std.proofs.Math.Logic.{inl, inr}
use Rattle.std.proofs.Math.Bool.{false}
use Rattle.table.specs.Base.{upd}
use Rattle.table.proofs.BaseLaws.{clash, eq?, upd_same, upd_other}
use Rattle.table.specs.Cell.{State, none, linked, fresh_number, next_action, kind_of, name_of, enter_kind, exit_kind, open_kind, release_kind}
use Rattle.table.proofs.FreshLaws.{fresh_none}
use Rattle.table.proofs.KindLaws.{Kind, is_enter, is_exit, is_open, is_release}
use Rattle.table.specs.Sound.{second_place}
use Rattle.table.specs.declared.Agent.{Agent}
use Rattle.meaning.specs.Update.{at_stage, with_locks, released}
use Rattle.meaning.specs.Step.{choice, qualifies, stays}
use Rattle.demands.specs.Reading.{parent_in, agent_in}
use Rattle.demands.proofs.ReadingLaws.{agent_given, agent_turned}
use Rattle.demands.specs.Invariant.{Under, Has, Ready, Travels, Sleeper, alone, stuck, full, Sound, Holds, near, far, own, destination}
use Rattle.demands.specs.Invariant.{Ok, ok0, ok1, ok2, ok3_move, ok3_open, ok5, ok6, ok7}
use Rattle.demands.specs.Ways.{goes_on, takes_lock, gives_back}
use Rattle.demands.proofs.Facts.{not_yes, link_used, stays_under, second_move, second_open}
use Rattle.demands.proofs.Choice.{choice_fits, choice_none}
use Rattle.demands.proofs.Facts.{enters_fits, opens_fits, fits_linked}
use Rattle.demands.proofs.Actions.{kind_of_lem, fit_stage}
use Rattle.demands.proofs.Stages.{ok_at, holds_none, holds_two, holds_four, holds_five, ok_given, fit_given, home_given}
use Rattle.demands.proofs.Stages.{second_used, returned_two, returned_three}
use Rattle.demands.proofs.Unused.{turned_untouched, upd_outside, released_outside}
use Rattle.demands.specs.NoMore.{Returned}
use Rattle.demands.proofs.Frame.{unchanged}
use Rattle.demands.proofs.Change.{Mine, is_free, is_mine, returned_has, returned_free, Change, Keeps, keeps}

module _ (c : State) (i : Sound c) (x : ℕ) (g : c.given x ≡ true) where
  -- the agent at another stage
  abbrev next : ℕ → ℕ → ℕ → Agent
  next stage remembered chosen = at_stage (c.agent x) stage remembered chosen

  -- the agent is at stages 4 to 6 before and after, or neither
  abbrev Pace : ℕ → ℕ → ℕ → Type 0
  Pace stage remembered chosen = (Travels (c.agent x) × Travels (next stage remembered chosen))
      ⊎ ((Travels (c.agent x) → ⊥) × (Travels (next stage remembered chosen) → ⊥))

  -- one agent and some locks change, and not the places
  quiet : (stage remembered chosen : ℕ) (lock' : ℕ → ℕ) → ((q : ℕ) → c.land.used q ≡ false → lock' q ≡ c.lock q)
      → Ok c.land lock' x (next stage remembered chosen)
      → ((y q : ℕ) → y ≢ x → Has c.lock q y → Has lock' q y)
      → ((q : ℕ) → c.land.used q ≡ true → Mine c.land c.lock x (c.agent x) q → Mine c.land lock' x (next stage remembered chosen) q)
      → Pace stage remembered chosen
      → (stage ≡ 7 → Sleeper c.land (next stage remembered chosen))
      → Keeps c x (with_locks (goes_on c x stage remembered chosen) lock')
  unfolding agent_in
  quiet stage remembered chosen lock' same ok has mine pace asleep = keeps i change asleep (λ a _ _ _ _ r. r)
    where
      own_loose : Pace stage remembered chosen → linked c.land (c.agent x).home ≡ false
          → Travels (next stage remembered chosen) ⊎ ((linked c.land (c.agent x).home ≡ false) × (Travels (c.agent x) → ⊥))
      own_loose (inl t) e = inl t.1
      own_loose (inr n) e = inr (e, n.0)

      lone : Pace stage remembered chosen → Travels (next stage remembered chosen) → (y : ℕ) → y ≢ x → Travels (agent_in c y)
          → (agent_in c y).home ≢ (c.agent x).home
      lone (inl t) _ y n u e =
          let a = agent_given c x g in
          n (i.single y x u (subst Travels (sym a) t.0) (e ∙ ap (λ (b : Agent). b.home) (sym a)))
      lone (inr r) t y n u e = r.1 t

      change : Change c (with_locks (goes_on c x stage remembered chosen) lock') x (λ _. Unit {0})
      change = record {
        steps = g;
        untouched = turned_untouched c x g _ lock' same;
        used = λ q u. u;
        fresh = λ q n u. clash u n;
        touches = λ q _. refl;
        new = next stage remembered chosen;
        woke = agent_in c;
        reads = agent_turned c x (next stage remembered chosen) g;
        roused = λ y. unchanged (λ _. tt);
        places = i.places;
        home = refl;
        fit = fit_stage (c.agent x) stage remembered chosen (fit_given c i x g);
        ok = ok;
        has = λ y q n _. has y q n;
        under = λ y n q p h u. u;
        way = λ y n t v. (v.loose, refl);
        mine = mine;
        loose = λ q n e. e;
        own_loose = own_loose pace;
        lone = lone pace;
      }

  -- no lock changes
  go_on : (stage remembered chosen : ℕ) → Ok c.land c.lock x (next stage remembered chosen)
      → ((q : ℕ) → Holds c.land (c.agent x) q → ⊥) → Pace stage remembered chosen
      → (stage ≡ 7 → Sleeper c.land (next stage remembered chosen)) → Keeps c x (goes_on c x stage remembered chosen)
  go_on stage remembered chosen ok idle pace asleep = quiet stage remembered chosen c.lock (λ q u. refl) ok (λ y q n h. h) (λ q u. go q) pace asleep
    where
      go : (q : ℕ) → Mine c.land c.lock x (c.agent x) q → Mine c.land c.lock x (next stage remembered chosen) q
      go q (is_free e) = is_free e
      go q (is_mine h r) = absurd (idle q r)

  -- a free lock is taken
  take_on : (p stage remembered chosen : ℕ) → c.land.used p ≡ true → c.lock p ≡ none
      → (((q : ℕ) → Has c.lock q x → Has (upd c.lock p x) q x) → Has (upd c.lock p x) p x
      → Ok c.land (upd c.lock p x) x (next stage remembered chosen))
      → ((q : ℕ) → Holds c.land (c.agent x) q → Holds c.land (next stage remembered chosen) q)
      → Holds c.land (next stage remembered chosen) p → Pace stage remembered chosen → stage ≢ 7
      → Keeps c x (takes_lock c x p stage remembered chosen)
  take_on p stage remembered chosen u f ok old add pace up = quiet stage remembered chosen lock'
      (upd_outside c.land.used c.lock p x u) (ok (has x) mine) (λ y q n h. has y q h)
      (λ q u. go q (eq? q p)) pace
      (λ e. absurd (up e))
    where
      lock' : ℕ → ℕ
      lock' = upd c.lock p x

      has : (y q : ℕ) → Has c.lock q y → Has lock' q y
      has y q h = record {
        by = upd_other c.lock p q x (λ e. let z : y ≡ none = sym h.by ∙ ap c.lock e ∙ f in omega (arith, h.small)) ∙ h.by;
        small = h.small;
      }

      mine : Has lock' p x
      mine = record { by = upd_same c.lock p x; small = i.few x g }

      go : (q : ℕ) → (q ≡ p) ⊎ (q ≢ p) → Mine c.land c.lock x (c.agent x) q → Mine c.land lock' x (next stage remembered chosen) q
      go q (inl e) r = subst (Mine c.land lock' x (next stage remembered chosen)) (sym e) (is_mine mine add)
      go q (inr n) (is_free e) = is_free (upd_other c.lock p q x n ∙ e)
      go q (inr n) (is_mine h r) = is_mine (has x q h) (old q r)

  -- all of the agent's locks are given back
  give_on : (p q stage remembered : ℕ) → c.land.used p ≡ true → c.land.used q ≡ true → Returned c x (released c.lock p q)
      → Ok c.land (released c.lock p q) x (next stage remembered 0) → Pace stage remembered 0
      → (stage ≡ 7 → Sleeper c.land (next stage remembered 0)) → Keeps c x (gives_back c x p q stage remembered)
  give_on p q stage remembered u v back ok pace asleep = quiet stage remembered 0 (released c.lock p q)
      (released_outside c.land.used c.lock p q u v) ok
      (λ y r n h. returned_has back n h) (λ r u h. is_free (returned_free back (i.few x g) u h)) pace asleep

  -- ---- the steps

  -- neither before nor after is the agent on its way
  stay : (stage remembered chosen : ℕ) → (c.agent x).stage ≤ 3 → (stage ≤ 3) ⊎ (stage ≡ 7) → Pace stage remembered chosen
  stay stage remembered chosen b (inl a) = inr (λ t. omega arith, λ t. omega arith)
  stay stage remembered chosen b (inr a) = inr (λ t. omega arith, λ t. omega arith)

  -- both before and after
  travel : (stage remembered chosen : ℕ) → 4 ≤ (c.agent x).stage → (c.agent x).stage ≤ 6 → 4 ≤ stage → stage ≤ 6 → Pace stage remembered chosen
  travel stage remembered chosen a b d e = inl (record { from = a; to = b }, record { from = d; to = e })

  -- an agent that keeps what it remembers
  ready : (stage k : ℕ) → Ready c.land (c.agent x) → Ready c.land (next stage (c.agent x).remembered k)
  unfolding next_action
  ready stage k r = record { some = r.some; known = r.known; opener = r.opener }

  -- stage 0 with a linked parent
  pub keep_look : (c.agent x).stage ≡ 0 → kind_of (c.agent x) ≤ exit_kind → Keeps c x (goes_on c x 1 (parent_in c.land (c.agent x).home) 0)
  unfolding next_action
  keep_look e k = go_on 1 _ 0
      (ok1 refl (record { some = ok_at 0 e (ok_given c i x g); known = i.places.parent_used _; opener = λ z. absurd (omega arith) }))
      (λ q. holds_none (omega arith)) (stay 1 _ 0 (omega arith) (inl (omega arith))) (λ z. absurd (omega arith))

  -- stage 0 of open and release
  pub keep_look_home : (c.agent x).stage ≡ 0 → Keeps c x (goes_on c x 1 (c.agent x).home 0)
  unfolding next_action
  keep_look_home e = go_on 1 _ 0
      (ok1 refl (record { some = ok_at 0 e (ok_given c i x g); known = home_given c i x g; opener = λ _. refl }))
      (λ q. holds_none (omega arith)) (stay 1 _ 0 (omega arith) (inl (omega arith))) (λ z. absurd (omega arith))

  -- stage 0 without a linked parent
  pub keep_sleep_alone : (c.agent x).stage ≡ 0 → kind_of (c.agent x) ≤ exit_kind → linked c.land (c.agent x).home ≡ false
      → Keeps c x (goes_on c x 7 (c.agent x).home 0)
  unfolding next_action
  keep_sleep_alone e k l = go_on 7 _ 0
      (ok7 refl (ok_at 0 e (ok_given c i x g)) (inl (home_given c i x g)))
      (λ q. holds_none (omega arith)) (stay 7 _ 0 (omega arith) (inr refl)) (λ z. alone k refl l)

  -- stage 1 with the lock free
  pub keep_take_first : (c.agent x).stage ≡ 1 → c.lock (c.agent x).remembered ≡ none
      → Keeps c x (takes_lock c x (c.agent x).remembered 2 (c.agent x).remembered 0)
  keep_take_first e f = take_on _ 2 _ 0 (ok_at 1 e (ok_given c i x g)).known f
      (λ has mine. ok2 refl (ready 2 0 (ok_at 1 e (ok_given c i x g))) mine)
      (λ q h. absurd (holds_none (omega arith) h)) (near (omega arith) (omega arith) refl)
      (stay 2 _ 0 (omega arith) (inl (omega arith))) (λ z. omega arith)

  -- stage 2 when its place is no longer linked to p
  pub keep_back : (c.agent x).stage ≡ 2 → Keeps c x (gives_back c x (c.agent x).remembered (c.agent x).remembered 0 0)
  unfolding next_action
  keep_back e = let u = (ok_at 2 e (ok_given c i x g)).0.known in give_on _ _ 0 0 u u (returned_two c i x g e) (ok0 refl (ok_at 2 e (ok_given c i x g)).0.some)
      (stay 0 0 0 (omega arith) (inl (omega arith))) (λ z. absurd (omega arith))

  -- stage 2 when the action can't fire
  pub keep_sleep_stuck : (wish : ℕ) → (c.agent x).stage ≡ 2 → kind_of (c.agent x) ≤ open_kind → stays c.land (c.agent x) ≡ true
      → 64 ≤ choice c.land (c.agent x) wish
      → Keeps c x (gives_back c x (c.agent x).remembered (c.agent x).remembered 7 (c.agent x).remembered)
  unfolding next_action stays
  keep_sleep_stuck wish e b st ch = give_on _ _ 7 _ r.known r.known (returned_two c i x g e) (ok7 refl r.some (inl r.known))
      (stay 7 _ 0 (omega arith) (inr refl)) (λ z. stuck b r.opener st nothing)
    where
      r : Ready c.land (c.agent x)
      r = (ok_at 2 e (ok_given c i x g)).0

      nothing : (q : ℕ) → qualifies c.land (kind_of (c.agent x)) (name_of (c.agent x)) (c.agent x).home (c.agent x).remembered q ≡ false
      nothing q = not_yes _ (λ t. clash t (choice_none c.land (c.agent x) wish i.places.order ch q
          (i.places.small q (link_used c.land q (fits_linked c.land _ _ _ _ q (kind_of_lem _ (fit_given c i x g) r.some) t)))))

  -- stage 2 of release with all numbers in use
  pub keep_sleep_full : (c.agent x).stage ≡ 2 → kind_of (c.agent x) ≡ release_kind → 64 ≤ fresh_number c.land.used
      → Keeps c x (gives_back c x (c.agent x).remembered (c.agent x).remembered 7 none)
  unfolding next_action
  keep_sleep_full e k f = let u = (ok_at 2 e (ok_given c i x g)).0.known in
      give_on _ _ 7 _ u u (returned_two c i x g e) (ok7 refl (omega arith) (inr (k, refl)))
      (stay 7 _ 0 (omega arith) (inr refl)) (λ z. full k refl (λ q s. fresh_none c.land.used f q (omega arith)))

  -- stage 2 when it fires and the second lock is free
  pub keep_take_second : (wish q : ℕ) → (c.agent x).stage ≡ 2 → kind_of (c.agent x) ≤ open_kind → stays c.land (c.agent x) ≡ true
      → choice c.land (c.agent x) wish ≡ q → q < 64
      → c.lock (second_place (kind_of (c.agent x)) (c.agent x).home q) ≡ none
      → Keeps c x (takes_lock c x (second_place (kind_of (c.agent x)) (c.agent x).home q) 3 (c.agent x).remembered
      (cond (eqb (kind_of (c.agent x)) exit_kind) 0 q))
  unfolding next_action
  keep_take_second wish q e b st ch l f = take_on _ 3 _ _ (in_use kind) f (λ has mine. ok kind has mine)
      (λ r h. near (omega arith) (omega arith) (holds_two e h)) (far refl (second kind)) (stay 3 _ _ (omega arith) (inl (omega arith)))
      (λ z. omega arith)
    where
      a : Agent
      a = c.agent x

      o : Ready c.land a × Has c.lock a.remembered x
      o = ok_at 2 e (ok_given c i x g)

      kind : Kind (kind_of a)
      kind = kind_of_lem _ (fit_given c i x g) o.0.some

      fits : qualifies c.land (kind_of a) (name_of a) a.home a.remembered q ≡ true
      fits = choice_fits c.land a wish q ch l

      -- the second place is in use
      in_use : Kind (kind_of a) → c.land.used (second_place (kind_of a) a.home q) ≡ true
      in_use (is_enter k) = ap c.land.used (second_move (kind_of a) a.home q (omega arith)) ∙ home_given c i x g
      in_use (is_exit k) = ap c.land.used (second_move (kind_of a) a.home q (omega arith)) ∙ home_given c i x g
      in_use (is_open k) = ap c.land.used (second_open (kind_of a) a.home q k) ∙ link_used c.land q (opens_fits c.land _ _ _ _ q k fits).0.under.link
      in_use (is_release k) = absurd (omega (arith, b))

      second : Kind (kind_of a) → second_place (kind_of a) a.home q ≡ second_place (kind_of a) a.home (cond (eqb (kind_of a) exit_kind) 0 q)
      second (is_enter k) = rw k
      second (is_exit k) = rw k
      second (is_open k) = rw k
      second (is_release k) = rw k

      lock' : ℕ → ℕ
      lock' = upd c.lock (second_place (kind_of a) a.home q) x

      ok : Kind (kind_of a) → ((r : ℕ) → Has c.lock r x → Has lock' r x) → Has lock' (second_place (kind_of a) a.home q) x
          → Ok c.land lock' x (next 3 a.remembered (cond (eqb (kind_of a) exit_kind) 0 q))
      ok kind has mine = at kind
        where
          moves : kind_of a ≤ exit_kind → (kind_of a ≡ enter_kind → Under c.land (cond (eqb (kind_of a) exit_kind) 0 q) a.remembered)
              → Ok c.land lock' x (next 3 a.remembered (cond (eqb (kind_of a) exit_kind) 0 q))
          moves k = ok3_move refl (ready 3 _ o.0) k (has _ o.1) (subst (λ (r : ℕ). Has lock' r x) (second_move (kind_of a) a.home q k) mine)
              (stays_under c.land a k st)

          at : Kind (kind_of a) → Ok c.land lock' x (next 3 a.remembered (cond (eqb (kind_of a) exit_kind) 0 q))
          at (is_enter k) = moves (omega arith)
              (λ _. subst (λ (r : ℕ). Under c.land r a.remembered) (rw k) (enters_fits c.land _ _ _ _ q k fits).0.under)
          at (is_exit k) = moves (omega arith) (λ z. absurd (omega arith))
          at (is_release k) = absurd (omega (arith, b))
          at (is_open k) =
              let chosen : q ≡ cond (eqb (kind_of a) exit_kind) 0 q = rw k in
              ok3_open refl (ready 3 _ o.0) k (has _ o.1)
              (subst (λ (r : ℕ). Has lock' r x) (second_open (kind_of a) a.home q k ∙ chosen) mine)
              (subst (λ (r : ℕ). Under c.land r a.remembered) chosen (opens_fits c.land _ _ _ _ q k fits).0.under)

  -- stage 3 when the action no longer fires
  pub keep_give_up : (c.agent x).stage ≡ 3
      → Keeps c x (gives_back c x (c.agent x).remembered (second_place (kind_of (c.agent x)) (c.agent x).home (c.agent x).chosen) 0 0)
  unfolding next_action
  keep_give_up e = give_on _ _ 0 0 (ok_at 3 e (ok_given c i x g)).0.known (second_used c i x g e) (returned_three c i x g e)
      (ok0 refl (ok_at 3 e (ok_given c i x g)).0.some)
      (stay 0 0 0 (omega arith) (inl (omega arith))) (λ z. absurd (omega arith))

  -- stage 4 with its own lock free
  pub keep_take_own : (c.agent x).stage ≡ 4 → c.lock (c.agent x).home ≡ none → Keeps c x (takes_lock c x (c.agent x).home 5 0 0)
  keep_take_own e f = take_on _ 5 0 0 (home_given c i x g) f
      (λ has mine. let w = ok_at 4 e (ok_given c i x g) in ok5 refl (record { loose = w.loose; placed = w.placed }) mine)
      (λ q h. absurd (holds_four e h)) (own (omega arith) (omega arith) refl)
      (travel 5 0 0 (omega arith) (omega arith) (omega arith) (omega arith)) (λ z. omega arith)

  -- stage 5 with the destination's lock free
  pub keep_take_destination : (c.agent x).stage ≡ 5 → c.lock (parent_in c.land (c.agent x).home) ≡ none
      → Keeps c x (takes_lock c x (parent_in c.land (c.agent x).home) 6 0 0)
  keep_take_destination e f = take_on _ 6 0 0 (i.places.parent_used _) f
      (λ has mine. let w = ok_at 5 e (ok_given c i x g) in ok6 refl (record { loose = w.0.loose; placed = w.0.placed }) (has _ w.1) mine)
      (λ q h. own (omega arith) (omega arith) (holds_five e h)) (destination refl refl)
      (travel 6 0 0 (omega arith) (omega arith) (omega arith) (omega arith)) (λ z. omega arith)
