-- What becomes of an agent when place t is dissolved into p: one case for each thing that can.
-- By cases on its home, its stage and what it remembers, in the order in which dissolving asks.
use Rattle.std.specs.Prelude.{◌≡◌, ◌≢◌, ◌⊎◌, ℕ, ◌&&◌, cond, eqb}
use Rattle.std.proofs.Math.Path.{refl}
use Rattle.std.proofs.Common.{inl, inr, eqb-true, eq-eqb}
use Rattle.std.proofs.lemmas.Bool.{eqb-false}
use Rattle.table.proofs.BaseLaws.{Told, yea, nay, told, clash, and_left, and_right}
use Rattle.table.specs.Cell.{none, unused}
use Rattle.table.specs.declared.Agent.{Agent}
use Rattle.meaning.specs.Update.{at_stage, with_home}
use Rattle.meaning.specs.Step.{asleep_on, dissolve_agent}
use Rattle.demands.specs.NoMore.{Dissolved, moves, moves_done, forgets, wakes, goes_on, sleeps_on}
use Rattle.demands.specs.Invariant.{Fit}
use Rattle.demands.proofs.Stages.{SameOrReset}
use Rattle.demands.proofs.Actions.{fit_stage}

-- every agent goes one of these ways
pub dissolved : (p t : ℕ) (a : Agent) → Dissolved p t a (dissolve_agent p t a)
unfolding dissolve_agent asleep_on
dissolved p t a = go (told (eqb a.home t))
  where
    in_it : a.home ≡ t → Told (eqb a.stage 8) → Dissolved p t a (with_home (at_stage a (cond (eqb a.stage 8) 8 0) 0 0) p)
    in_it h (yea e) = rw e (moves_done h (eqb-true _ _ e))
    in_it h (nay e) = rw e (moves h (eqb-false _ _ e))

    sleeping : a.home ≢ t → (a.stage ≡ 1 → a.remembered ≢ t) → Told (eqb a.stage 7) → Told (eqb a.remembered p) → Told (eqb a.remembered t)
        → Told (eqb a.remembered none) → Dissolved p t a (cond (asleep_on p t none a) (at_stage a 0 0 0) a)
    sleeping h m (yea e) (yea f) _ _ = rw (e, f) (wakes h (eqb-true _ _ e) (inl (eqb-true _ _ f)))
    sleeping h m (yea e) (nay f) (yea k) _ = rw (e, f, k) (wakes h (eqb-true _ _ e) (inr (inl (eqb-true _ _ k))))
    sleeping h m (yea e) (nay f) (nay k) (yea n) = rw (e, f, k, n) (wakes h (eqb-true _ _ e) (inr (inr (eqb-true _ _ n))))
    sleeping h m (yea e) (nay f) (nay k) (nay n) = rw (e, f, k, n)
        (sleeps_on h (eqb-true _ _ e) (eqb-false _ _ f) (eqb-false _ _ k) (eqb-false _ _ n))
    sleeping h m (nay e) _ _ _ = rw e (goes_on h (eqb-false _ _ e) m)

    out : a.home ≢ t → Told (eqb a.stage 1 && eqb a.remembered t)
        → Dissolved p t a (cond (eqb a.stage 1 && eqb a.remembered t) (at_stage a 0 0 0) (cond (asleep_on p t none a) (at_stage a 0 0 0) a))
    out h (yea e) = rw e (forgets h (eqb-true _ _ (and_left (eqb a.stage 1) (eqb a.remembered t) e))
        (eqb-true _ _ (and_right (eqb a.stage 1) (eqb a.remembered t) e)))
    out h (nay e) = rw e (sleeping h (λ s m. clash (rw (eq-eqb a.stage 1 s, eq-eqb a.remembered t m)) e)
        (told (eqb a.stage 7)) (told (eqb a.remembered p)) (told (eqb a.remembered t)) (told (eqb a.remembered none)))

    go : Told (eqb a.home t) → Dissolved p t a (dissolve_agent p t a)
    go (yea e) = rw e (in_it (eqb-true _ _ e) (told (eqb a.stage 8)))
    go (nay e) = rw e (out (eqb-false _ _ e) (told (eqb a.stage 1 && eqb a.remembered t)))

module _ {p t : ℕ} {a : Agent} where
  -- an agent elsewhere that has neither found a place nor sleeps is as it was
  pub not_dissolved : {b : Agent} → Dissolved p t a b → a.home ≢ t → a.stage ≢ 7 → a.stage ≢ 1 → b ≡ a
  not_dissolved (moves h s) n e f = absurd (n h)
  not_dissolved (moves_done h s) n e f = absurd (n h)
  not_dissolved (forgets h s m) n e f = absurd (f s)
  not_dissolved (wakes h s m) n e f = absurd (e s)
  not_dissolved (goes_on h s m) n e f = refl
  not_dissolved (sleeps_on h s m k z) n e f = refl

  -- it is as it was, or at stage 0 or 8
  pub dissolved_reset : {b : Agent} → Dissolved p t a b → SameOrReset a b
  dissolved_reset (moves h s) = inr (inl refl)
  dissolved_reset (moves_done h s) = inr (inr refl)
  dissolved_reset (forgets h s m) = inr (inl refl)
  dissolved_reset (wakes h s m) = inr (inl refl)
  dissolved_reset (goes_on h s m) = inl refl
  dissolved_reset (sleeps_on h s m k z) = inl refl

  -- it lives where it lived, or in p where that was t
  pub home_after : {b : Agent} → Dissolved p t a b → ((a.home ≡ t) × (b.home ≡ p)) ⊎ ((a.home ≢ t) × (b.home ≡ a.home))
  home_after (moves h s) = inl (h, refl)
  home_after (moves_done h s) = inl (h, refl)
  home_after (forgets h s m) = inr (h, refl)
  home_after (wakes h s m) = inr (h, refl)
  home_after (goes_on h s m) = inr (h, refl)
  home_after (sleeps_on h s m k z) = inr (h, refl)

  -- its row of actions is as it was
  pub unused_same : {b : Agent} → Dissolved p t a b → unused b ≡ unused a
  unfolding unused
  unused_same (moves h s) = refl
  unused_same (moves_done h s) = refl
  unused_same (forgets h s m) = refl
  unused_same (wakes h s m) = refl
  unused_same (goes_on h s m) = refl
  unused_same (sleeps_on h s m k z) = refl

  pub fit_same : {b : Agent} → Dissolved p t a b → Fit a → Fit b
  unfolding unused
  fit_same (moves h s) f = record { ordered = f.ordered; few = f.few; good = f.good }
  fit_same (moves_done h s) f = record { ordered = f.ordered; few = f.few; good = f.good }
  fit_same (forgets h s m) f = fit_stage a 0 0 0 f
  fit_same (wakes h s m) f = fit_stage a 0 0 0 f
  fit_same (goes_on h s m) f = f
  fit_same (sleeps_on h s m k z) f = f
