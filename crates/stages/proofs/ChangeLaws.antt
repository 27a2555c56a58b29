-- Carried out on a cell, the change of a stage is its step. Assumes nothing.
-- Idea: both go by the same tests, so it is enough to compare what they end in.
use Rattle.std.specs.Prelude.{◌≡◌, Bool, true, false, cond, ℕ, ltb, leb, eqb}
use Rattle.std.proofs.Math.Path.{refl}
use Rattle.table.specs.Cell.{State, linked, fresh_number, kind_of, open_kind, release_kind, looks_home}
use Rattle.table.specs.declared.Agent.{Agent}
use Rattle.meaning.specs.Step.{Outcome, choice, stays, fires, look, lock_first, lock_second, put_or_sleep, hold, act, travel, step_at}
use Rattle.stages.specs.declared.Change.{Change}
use Rattle.stages.specs.Changes.{carried, looks, locks_second, puts_or_sleeps, holds, acts, travels, change_at}

module _ (c : State) (x : ℕ) (a : Agent) where
  -- one of two changes is one of two outcomes
  either : (b : Bool) (r s : Change) (o p : Outcome) → carried c x a r ≡ o → carried c x a s ≡ p → carried c x a (cond b r s) ≡ cond b o p
  either true r s o p e f = e
  either false r s o p e f = f

  looked : carried c x a (looks c.land a) ≡ look c x a
  unfolding looks look
  looked = either (looks_home (kind_of a)) _ _ _ _ refl (either (linked c.land a.home) _ _ _ _ refl refl)

  second_locked : (q : ℕ) → carried c x a (locks_second a q) ≡ lock_second c x a q
  unfolding locks_second lock_second
  second_locked q = either (ltb q 64) _ _ _ _ refl refl

  put_or_slept : (q : ℕ) → carried c x a (puts_or_sleeps a q) ≡ put_or_sleep c x a q
  unfolding puts_or_sleeps put_or_sleep
  put_or_slept q = either (ltb q 64) _ _ _ _ refl refl

  held : (wish : ℕ) → carried c x a (holds c.land a wish) ≡ hold c x a wish
  unfolding holds hold
  held wish =
      either (stays c.land a) _ _ _ _
      (either (eqb (kind_of a) release_kind) _ _ _ _ (put_or_slept (fresh_number c.land.used)) (second_locked (choice c.land a wish)))
      refl

  acted : carried c x a (acts c.land a) ≡ act c x a
  unfolding acts act
  acted = either (fires c.land a) _ _ _ _ (either (eqb (kind_of a) open_kind) _ _ _ _ refl refl) refl

  travelled : carried c x a (travels c.land a) ≡ travel c x a
  unfolding travels travel
  travelled = either (eqb a.stage 4) _ _ _ _ refl (either (eqb a.stage 5) _ _ _ _ refl refl)

  -- the change of a stage is the step of that stage
  pub step_carried : (stage wish : ℕ) → carried c x a (change_at stage c.land a wish) ≡ step_at stage c x a wish
  unfolding change_at step_at lock_first
  step_carried stage wish =
      either (eqb stage 0) _ _ _ _ looked (
      either (eqb stage 1) _ _ _ _ refl (
      either (eqb stage 2) _ _ _ _ (held wish) (
      either (eqb stage 3) _ _ _ _ acted (
      either (leb stage 6) _ _ _ _ travelled (
      either (eqb stage 7) _ _ _ _ refl refl)))))
