-- What a step comes to, forwards: the cell after it, from its conditions.
-- By the stage, and the tests of that stage in order.
use Rattle.std.specs.Prelude.{◌≡◌, ◌≢◌, true, false, cond, ℕ, ◌≤◌, ◌<◌}
use Rattle.std.proofs.Math.Path.{sym, ap}
use Rattle.std.proofs.Common.{◌∙◌, arith}
use Rattle.std.proofs.Math.Dec.{eqb}
use borrow.Author.Tests.{eq-eqb, ne_eqb, lt-ltb}
use Rattle.table.proofs.BaseLaws.{Told, yea, nay, told}
use Rattle.table.specs.Cell.{Land, State, none, linked, fresh_number, kind_of, exit_kind, open_kind, release_kind, looks_home}
use Rattle.table.proofs.KindLaws.{kind_home}
use Rattle.table.specs.Sound.{second_place}
use Rattle.table.specs.declared.Agent.{Agent}
use Rattle.meaning.specs.Update.{at_stage}
use Rattle.meaning.specs.Step.{step, step_at, look, lock_first, hold, put, put_or_sleep, lock_second, act, travel, take, release, turn, still, leave, dissolve}
use Rattle.meaning.specs.Step.{arrive, choice, stays, fires, destination_of}
use Rattle.demands.specs.Reading.{parent_in}
use Rattle.demands.proofs.Facts.{parent_read, stays_home}
use Rattle.demands.specs.Ways.{goes_on, takes_lock, gives_back}

-- where an agent at stage 0 looks: its own place to open or release, else the place around it
abbrev pub looks_at : Land → Agent → ℕ
looks_at l a = cond (looks_home (kind_of a)) a.home (parent_in l a.home)

module _ (c : State) (x w : ℕ) where
  abbrev own : Agent
  own = c.agent x

  by_stage : (n : ℕ) (d : State) → own.stage ≡ n → (step_at n c x own w).cell ≡ d → (step c x w).cell ≡ d
  unfolding step
  by_stage n d s e = ap (λ (k : ℕ). (step_at k c x own w).cell) s ∙ e

  taken : (q stage remembered chosen : ℕ) → c.lock q ≡ none
      → (take c x q (at_stage own stage remembered chosen)).cell ≡ takes_lock c x q stage remembered chosen
  unfolding take still
  taken q stage remembered chosen e = rw (eq-eqb (c.lock q) none e)

  -- stage 0, with something to look at
  pub ahead_look : own.stage ≡ 0 → c.land.used own.home ≡ true → (looks_home (kind_of own) ≡ false → linked c.land own.home ≡ true)
      → (step c x w).cell ≡ goes_on c x 1 (looks_at c.land own) 0
  unfolding step_at look turn still
  ahead_look s u f = by_stage 0 _ s (go (told (looks_home (kind_of own))))
    where
      go : Told (looks_home (kind_of own)) → (look c x own).cell ≡ goes_on c x 1 (looks_at c.land own) 0
      go (yea e) = rw e
      go (nay e) = rw (e, f e, parent_read c.land own.home u)

  -- stage 1, with the remembered place free
  pub ahead_first : own.stage ≡ 1 → c.lock own.remembered ≡ none → (step c x w).cell ≡ takes_lock c x own.remembered 2 own.remembered 0
  unfolding step_at lock_first
  ahead_first s e = by_stage 1 _ s (taken _ _ _ _ e)

  -- stage 2, with the second place free
  pub ahead_second : (q : ℕ) → own.stage ≡ 2 → kind_of own ≤ open_kind → stays c.land own ≡ true → choice c.land own w ≡ q → q < 64
      → c.lock (second_place (kind_of own) own.home q) ≡ none
      → (step c x w).cell ≡ takes_lock c x (second_place (kind_of own) own.home q) 3 own.remembered (cond (eqb (kind_of own) exit_kind) 0 q)
  unfolding step_at hold lock_second
  ahead_second q s k st e l f = by_stage 2 _ s (rw (st, ne_eqb (kind_of own) release_kind (λ z. omega arith), e, lt-ltb q 64 l) (taken _ _ _ _ f))

  -- of release, with a number unused
  pub ahead_put : (q : ℕ) → own.stage ≡ 2 → kind_of own ≡ release_kind → fresh_number c.land.used ≡ q → q < 64
      → (step c x w).cell ≡ (put c x own q).cell
  unfolding step_at hold put_or_sleep
  ahead_put q s k e l = by_stage 2 _ s (rw (
    stays_home c.land own (kind_home (kind_of own) (omega arith) (omega arith)),
    eq-eqb (kind_of own) release_kind k,
    e,
    lt-ltb q 64 l,
  ))

  -- or with its place no longer linked to the remembered one
  pub ahead_back : own.stage ≡ 2 → stays c.land own ≡ false → (step c x w).cell ≡ gives_back c x own.remembered own.remembered 0 0
  unfolding step_at hold release still
  ahead_back s st = by_stage 2 _ s (rw st)

  -- stage 3, the action fires
  pub ahead_leave : own.stage ≡ 3 → kind_of own ≢ open_kind → fires c.land own ≡ true
      → (step c x w).cell ≡ (leave c x own (destination_of c.land own)).cell
  unfolding step_at act
  ahead_leave s k f = by_stage 3 _ s (rw (f, ne_eqb (kind_of own) open_kind k))

  pub ahead_open : own.stage ≡ 3 → kind_of own ≡ open_kind → fires c.land own ≡ true
      → (step c x w).cell ≡ (dissolve c x own own.remembered own.chosen).cell
  unfolding step_at act
  ahead_open s k f = by_stage 3 _ s (rw (f, eq-eqb (kind_of own) open_kind k))

  -- stages 4 to 6
  pub ahead_own : own.stage ≡ 4 → c.lock own.home ≡ none → (step c x w).cell ≡ takes_lock c x own.home 5 0 0
  unfolding step_at travel
  ahead_own s e = by_stage 4 _ s (rw (ap (λ n. eqb n 4) s) (taken _ _ _ _ e))

  pub ahead_destination : own.stage ≡ 5 → c.land.used own.home ≡ true → c.lock (parent_in c.land own.home) ≡ none
      → (step c x w).cell ≡ takes_lock c x (parent_in c.land own.home) 6 0 0
  unfolding step_at travel
  ahead_destination s u e = by_stage 5 _ s (rw (ap (λ n. eqb n 4) s, ap (λ n. eqb n 5) s, sym (parent_read c.land own.home u))
      (taken _ _ _ _ e))

  pub ahead_arrive : own.stage ≡ 6 → (step c x w).cell ≡ (arrive c x own (c.land.place own.home).parent).cell
  unfolding step_at travel
  ahead_arrive s = by_stage 6 _ s (rw (ap (λ n. eqb n 4) s, ap (λ n. eqb n 5) s))
