-- What soundness asks of one agent: the test and the proposition say the same.
-- By cases on the stage: at each stage the test is a short conjunction, and each of its parts is one of the proposition's.
use Rattle.std.specs.Prelude.{◌≡◌, ◌≢◌, Bool, ◌&&◌, ℕ, zero, suc, ◌≤◌, ◌<◌, eqb}
use Rattle.std.proofs.Math.Path.{refl, ap}
use Rattle.std.proofs.Common.{◌∙◌, inl, inr, arith}
use Rattle.std.proofs.Math.Bool.{true, false, cond}
use borrow.Author.Tests.{eqb-true, eq-eqb, ne_eqb, lt-leb, not-true}
use Rattle.table.proofs.BaseLaws.{Told, yea, nay, told, clash, and_left, and_right}
use Rattle.table.specs.Cell.{Land, State, none, has_action, kind_of, linked_to, enter_kind, exit_kind, release_kind, looks_home, asleep}
use Rattle.table.proofs.KindLaws.{Kind, is_enter, is_exit, is_open, is_release, home_kind, kind_home}
use Rattle.table.specs.Sound.{actions_fit, sleeps_nowhere, remembers, ready, holds_both, stage_fits, first_held, second_place, second_held, second_held_in, stands_in, lock_is, agent_fits}
use Rattle.table.specs.declared.Agent.{Agent}
use Rattle.demands.specs.Reading.{parent_in}
use Rattle.demands.specs.Invariant.{Places, Has, Fit, Ready, Away, SleepsOn, Ok, ok0, ok1, ok2, ok3_move, ok3_open, ok4, ok5, ok6, ok7, ok8, Travels}
use Rattle.demands.proofs.Facts.{under_fits, under_of, link_used, second_move, second_open}
use Rattle.demands.proofs.Actions.{kind_small, kind_some, has_some, kind_of_lem, unused_none}
use Rattle.demands.proofs.SoundTestActions.{fit_true, fit_holds, none_left}
use Rattle.demands.proofs.SoundTestStages.{first_at, second_at, first_at_lem, second_at_lem, stands_parent}

-- ---- a lock

module _ (c : State) (x q : ℕ) where
  -- the lock of a place in use is x's: the test and the proposition
  lock_true : c.land.used q ≡ true → Has c.lock q x → lock_is c x q ≡ true
  unfolding lock_is
  lock_true u h = rw (u, eq-eqb (c.lock q) x h.by) (go (eqb q none))
    where
      go : (b : Bool) → cond b true true ≡ true
      go true = refl
      go false = refl

  pub lock_holds : x < 64 → q ≢ none → lock_is c x q ≡ true → Has c.lock q x
  unfolding lock_is
  lock_holds l n e = record { by = eqb-true _ _ (and_right (c.land.used q) (eqb (c.lock q) x) (rw (ne_eqb q none n) at e)); small = l }

module _ (c : State) (x : ℕ) (a : Agent) where
  abbrev l : Land
  l = c.land

  -- ---- what an agent remembers: a place in use, or asleep, for release, no place

  remembers_true : a.stage ≡ asleep → SleepsOn l a → remembers l.used a ≡ true
  remembers_true s (inl u) = rw u
  remembers_true s (inr (k, n)) =
      rw (eq-eqb a.remembered none n, eq-eqb a.stage asleep s, eq-eqb (kind_of a) release_kind k) (go (l.used a.remembered))
    where
      go : (b : Bool) → cond b true true ≡ true
      go true = refl
      go false = refl

  remembers_holds : remembers l.used a ≡ true → SleepsOn l a
  remembers_holds e = go (told (l.used a.remembered))
    where
      go : Told (l.used a.remembered) → SleepsOn l a
      go (yea u) = inl u
      go (nay u) =
          let f : sleeps_nowhere a ≡ true = rw u at e in
          let r = and_right (eqb a.remembered none) _ f in
          inr (eqb-true _ _ (and_right (eqb a.stage asleep) _ r), eqb-true _ _ (and_left (eqb a.remembered none) _ f))

  -- one that is not asleep remembers a place in use
  remembers_awake : a.stage ≢ asleep → remembers l.used a ≡ true → l.used a.remembered ≡ true
  remembers_awake n e = go (told (l.used a.remembered))
    where
      go : Told (l.used a.remembered) → l.used a.remembered ≡ true
      go (yea u) = u
      go (nay u) =
          let f : sleeps_nowhere a ≡ true = rw u at e in
          absurd (n (eqb-true _ _ (and_left (eqb a.stage asleep) _ (and_right (eqb a.remembered none) _ f))))

  -- ---- an agent with an action left that remembers a place

  abbrev ready_test : Bool
  ready_test = ready (has_action a) (remembers l.used a) (eqb a.remembered a.home) (kind_of a)

  ready_true : Ready l a → ready_test ≡ true
  unfolding ready
  ready_true r = rw (has_some a r.some, r.known) (go (told (looks_home (kind_of a))))
    where
      go : Told (looks_home (kind_of a)) → cond (looks_home (kind_of a)) (eqb a.remembered a.home) true ≡ true
      go (yea e) = rw (e, eq-eqb a.remembered a.home (r.opener (home_kind (kind_of a) e)))
      go (nay e) = rw e

  ready_holds : Fit a → a.stage ≢ asleep → ready_test ≡ true → Ready l a
  unfolding ready
  ready_holds f n e =
      let rest = and_right (has_action a) _ e in
      record {
        some = kind_some a f (and_left (has_action a) _ e);
        known = remembers_awake n (and_left (remembers l.used a) _ rest);
        opener = λ k. eqb-true _ _ (rw (kind_home (kind_of a) k (kind_small a f)) at (and_right (remembers l.used a) _ rest));
      }

  -- ---- the whole agent

  abbrev here : Bool
  here = linked_to l a.home a.remembered

  abbrev there : Bool
  there = linked_to l a.chosen a.remembered

  abbrev stage_test : ℕ → Bool
  stage_test n = stage_fits n (has_action a) (remembers l.used a) (eqb a.remembered a.home) (kind_of a) here there

  -- the place that it takes second at stage n
  abbrev second : ℕ → ℕ
  second n = second_at a (stands_in l a.home) n

  -- an agent that is as its stage says passes the test
  pub agent_true : Places l → l.used a.home ≡ true → Fit a → Ok l c.lock x a → agent_fits c x a ≡ true
  unfolding agent_fits stage_fits holds_both
  agent_true p u f o = go o
    where
      at : (n : ℕ) → a.stage ≡ n → stage_test n ≡ true → lock_is c x (first_at a n) ≡ true → lock_is c x (second n) ≡ true → agent_fits c x a ≡ true
      at n s t first other = rw (
        fit_true a f,
        ap stage_test s ∙ t,
        ap (lock_is c x) (first_at_lem a n s) ∙ first,
        ap (lock_is c x) (second_at_lem a (stands_in l a.home) n s) ∙ other,
        u,
      )

      free : lock_is c x none ≡ true
      free = unfold lock_is in refl

      move : Kind (kind_of a) → kind_of a ≤ exit_kind → here ≡ true → (kind_of a ≡ enter_kind → there ≡ true) → holds_both (kind_of a) here there ≡ true
      move (is_enter e) k h t = rw (e, h, t e)
      move (is_exit e) k h t = rw (e, h)
      move (is_open e) k h t = absurd (omega arith)
      move (is_release e) k h t = absurd (omega arith)

      go : Ok l c.lock x a → agent_fits c x a ≡ true
      go (ok0 s k) = at 0 s (has_some a k) free free
      go (ok1 s r) = at 1 s (ready_true r) free free
      go (ok2 s r h) = at 2 s (ready_true r) (lock_true c x _ r.known h) free
      go (ok3_move s r k h₁ h₂ v t) = at 3 s (rw (ready_true r) (move (kind_of_lem a f r.some) k (under_of l _ _ v) (λ e. under_of l _ _ (t e))))
          (lock_true c x _ r.known h₁) (rw (second_move (kind_of a) a.home a.chosen k) (lock_true c x _ u h₂))
      go (ok3_open s r k h₁ h₂ v) = at 3 s (rw (ready_true r, k, under_of l _ _ v))
          (lock_true c x _ r.known h₁) (rw (second_open (kind_of a) a.home a.chosen k) (lock_true c x _ (link_used l _ v.link) h₂))
      go (ok4 s w) = at 4 s refl free free
      go (ok5 s w h) = at 5 s refl (lock_true c x _ u h) free
      go (ok6 s w h₁ h₂) = at 6 s refl (lock_true c x _ u h₁) (rw (stands_parent l a.home u) (lock_true c x _ (p.parent_used a.home) h₂))
      go (ok7 s k m) = at 7 s (rw (has_some a k) (remembers_true s m)) free free
      go (ok8 s e) = at 8 s (rw (none_left a f e)) free free

  -- ---- the parts of the test

  abbrev locks_test : Bool
  locks_test = lock_is c x (first_held a) && lock_is c x (second_held_in c a)

  module _ (e : agent_fits c x a ≡ true) where
    -- an agent that passes it lives in a place in use, has the locks that it claims, and its row fits
    pub home_holds : l.used a.home ≡ true
    unfolding agent_fits
    home_holds = and_left (l.used a.home) _ e

    row_holds : (actions_fit a && (stage_test a.stage && locks_test)) ≡ true
    unfolding agent_fits
    row_holds = and_right (l.used a.home) _ e

    stage_holds : (stage_test a.stage && locks_test) ≡ true
    stage_holds = and_right (actions_fit a) _ row_holds

    pub locks_hold : locks_test ≡ true
    locks_hold = and_right (stage_test a.stage) _ stage_holds

    pub row_fits : Fit a
    row_fits = fit_holds a (and_left (actions_fit a) _ row_holds)

  -- an agent that passes the test is as its stage says; that the place of one at stages 4 to 6 is on its way, the count of these says
  pub agent_holds : ((q : ℕ) → l.used q ≡ true → q < 64) → x < 64 → l.used (parent_in l a.home) ≡ true → (Travels a → Away l a)
      → agent_fits c x a ≡ true → Ok l c.lock x a
  unfolding stage_fits holds_both
  agent_holds small low above away e = go a.stage refl (and_left (stage_test a.stage) _ (stage_holds e)) first other
    where
      home : l.used a.home ≡ true
      home = home_holds e

      fit : Fit a
      fit = row_fits e

      first : lock_is c x (first_at a a.stage) ≡ true
      first = unfold first_held in and_left (lock_is c x (first_held a)) _ (locks_hold e)

      other : lock_is c x (second a.stage) ≡ true
      other = unfold second_held in and_right (lock_is c x (first_held a)) _ (locks_hold e)

      -- the lock of a place in use is x's
      has : (q : ℕ) → l.used q ≡ true → lock_is c x q ≡ true → Has c.lock q x
      has q u t = lock_holds c x q low (λ z. absurd (omega (arith, small q u))) t

      on_way : (n : ℕ) → a.stage ≡ n → 4 ≤ n → n ≤ 6 → Away l a
      on_way n s lo hi = away (record { from = omega arith; to = omega arith })

      over : (n : ℕ) → 9 ≤ n → stage_test n ≡ false
      over n m = rw (
        ne_eqb n 0 (λ z. absurd (omega arith)),
        lt-leb n 2 (omega arith),
        lt-leb n 3 (omega arith),
        lt-leb n 6 (omega arith),
        lt-leb n 7 (omega arith),
        lt-leb n 8 (omega arith),
      )

      three : Kind (kind_of a) → a.stage ≡ 3 → Ready l a → Has c.lock a.remembered x → holds_both (kind_of a) here there ≡ true
          → lock_is c x (second_place (kind_of a) a.home a.chosen) ≡ true → Ok l c.lock x a
      three (is_enter k) s r h t m =
          let b : (here && there) ≡ true = rw k at t in
          ok3_move s r (omega arith) h (has a.home home (rw (second_move (kind_of a) a.home a.chosen (omega arith)) at m))
          (under_fits l _ _ (and_left here there b)) (λ _. under_fits l _ _ (and_right here there b))
      three (is_exit k) s r h t m =
          ok3_move s r (omega arith) h (has a.home home (rw (second_move (kind_of a) a.home a.chosen (omega arith)) at m))
          (under_fits l _ _ (rw k at t)) (λ z. absurd (omega arith))
      three (is_open k) s r h t m =
          let b : there ≡ true = rw k at t in
          let v = under_fits l a.chosen a.remembered b in
          ok3_open s r k h (has a.chosen (link_used l _ v.link) (rw (second_open (kind_of a) a.home a.chosen k) at m)) v
      three (is_release k) s r h t m = clash t (rw k)

      go : (n : ℕ) → a.stage ≡ n → stage_test n ≡ true → lock_is c x (first_at a n) ≡ true → lock_is c x (second n) ≡ true → Ok l c.lock x a
      go zero s t p m = ok0 s (kind_some a fit t)
      go (suc zero) s t p m = ok1 s (ready_holds fit (λ z. omega arith) t)
      go (suc (suc zero)) s t p m = let r = ready_holds fit (λ z. omega arith) t in ok2 s r (has a.remembered r.known p)
      go (suc (suc (suc zero))) s t p m =
          let r = ready_holds fit (λ z. omega arith) (and_left ready_test _ t) in
          three (kind_of_lem a fit r.some) s r (has a.remembered r.known p) (and_right ready_test _ t) m
      go (suc (suc (suc (suc zero)))) s t p m = ok4 s (on_way 4 s (omega arith) (omega arith))
      go (suc (suc (suc (suc (suc zero))))) s t p m = ok5 s (on_way 5 s (omega arith) (omega arith)) (has a.home home p)
      go (suc (suc (suc (suc (suc (suc zero)))))) s t p m = ok6 s (on_way 6 s (omega arith) (omega arith)) (has a.home home p)
          (has (parent_in l a.home) above (rw (stands_parent l a.home home) at m))
      go (suc (suc (suc (suc (suc (suc (suc zero))))))) s t p m = ok7 s (kind_some a fit (and_left (has_action a) _ t))
          (remembers_holds (and_right (has_action a) _ t))
      go (suc (suc (suc (suc (suc (suc (suc (suc zero)))))))) s t p m = ok8 s (unused_none a (not-true (has_action a) t))
      go (suc (suc (suc (suc (suc (suc (suc (suc (suc n))))))))) s t p m = clash t
          (over (suc (suc (suc (suc (suc (suc (suc (suc (suc n))))))))) (omega arith))
