-- Every step of a given agent in a sound cell goes one of the ways.
-- By the tests of the step, one after the other, each with its answer kept as an equation; soundness gives the kinds, and that homes and
-- remembered places are in use, so that where they stand is read as it is.
use Rattle.std.specs.Prelude.{◌≡◌, ◌≢◌, true, ℕ, ◌≤◌, ltb}
use Rattle.std.proofs.Math.Path.{refl, ap, subst}
use Rattle.std.proofs.Common.{sym, ⊎_elim, arith}
use Rattle.std.proofs.Math.Bool.{false}
use Rattle.std.proofs.Math.Dec.{eqb}
use borrow.Author.Tests.{eqb-true, eqb-false, ltb-true, ltb-false}
use Rattle.table.proofs.BaseLaws.{Told, yea, nay, told}
use Rattle.table.specs.Cell.{State, none, linked, kind_of, enter_kind, exit_kind, open_kind, release_kind, last_kind, looks_home, fresh_number}
use Rattle.table.proofs.KindLaws.{home_kind, around_kind}
use Rattle.meaning.specs.Update.{at_stage}
use Rattle.meaning.specs.declared.Word.TheVariants.{Took, Held}
use Rattle.meaning.specs.Step.{step, step_at, look, lock_first, hold, put_or_sleep, lock_second, act, travel, take, release, turn, still, choice, stays, fires}
use Rattle.demands.specs.Reading.{parent_in}
use Rattle.demands.specs.Invariant.{Sound, Ready, Ok, ok0, ok1, ok2, ok3_move, ok3_open, ok4, ok5, ok6, ok7, ok8}
use Rattle.demands.specs.Ways.{Way, takes_lock, is_done, is_asleep, held_first, held_second, held_own, held_destination, looks_up}
use Rattle.demands.specs.Ways.{looks_at_home, sleeps_alone, takes_first, goes_back, sleeps_stuck, takes_second, puts, sleeps_full, gives_up, enters}
use Rattle.demands.specs.Ways.{exits, opens, takes_own, takes_destination, comes}
use Rattle.demands.proofs.Facts.{parent_read}
use Rattle.demands.proofs.Actions.{kind_small}
use Rattle.demands.proofs.Stages.{ok_at, ok_given, fit_given, home_given}

module _ (c : State) (i : Sound c) (x : ℕ) (g : c.given x ≡ true) where
  -- its kind is the last at most, and before it moves it has an action
  pub kind_given : kind_of (c.agent x) ≤ last_kind
  kind_given = kind_small (c.agent x) (fit_given c i x g)

  remembered_third : (c.agent x).stage ≡ 3 → Ready c.land (c.agent x)
  remembered_third s = (ok_at 3 s (ok_given c i x g)).0

  -- at stage 3 it enters, exits or opens: no release agent is there
  third_kind : (c.agent x).stage ≡ 3 → kind_of (c.agent x) ≤ open_kind
  third_kind s = ⊎_elim (λ m. omega (arith, m.kind)) (λ o. omega (arith, o.kind)) (ok_at 3 s (ok_given c i x g)).2

  module _ (w : ℕ) where
    -- a lock is free and taken, or it is not
    take_way : (q stage remembered chosen : ℕ) → (c.lock q ≡ none → Way c x w (still (takes_lock c x q stage remembered chosen) Took))
        → (c.lock q ≢ none → Way c x w (still c Held)) → Way c x w (take c x q (at_stage (c.agent x) stage remembered chosen))
    unfolding take
    take_way q stage remembered chosen f h = go (told (eqb (c.lock q) none))
      where
        go : Told (eqb (c.lock q) none) → Way c x w (take c x q (at_stage (c.agent x) stage remembered chosen))
        go (yea e) = rw e (f (eqb-true (c.lock q) none e))
        go (nay e) = rw e (h (eqb-false (c.lock q) none e))

    look_way : (c.agent x).stage ≡ 0 → Way c x w (look c x (c.agent x))
    unfolding look turn
    look_way s = go (told (looks_home (kind_of (c.agent x)))) (told (linked c.land (c.agent x).home))
      where
        two : looks_home (kind_of (c.agent x)) ≡ false → kind_of (c.agent x) ≤ exit_kind
        two = around_kind (kind_of (c.agent x)) kind_given

        go : Told (looks_home (kind_of (c.agent x))) → Told (linked c.land (c.agent x).home) → Way c x w (look c x (c.agent x))
        go (yea e) _ = rw e (looks_at_home s (home_kind (kind_of (c.agent x)) e))
        go (nay e) (yea k) = rw (e, k) (rw (← parent_read c.land (c.agent x).home (home_given c i x g)) (looks_up s (two e) k))
        go (nay e) (nay k) = rw (e, k) (sleeps_alone s (two e) k)

    second_way : (c.agent x).stage ≡ 2 → kind_of (c.agent x) ≤ open_kind → stays c.land (c.agent x) ≡ true
        → Way c x w (lock_second c x (c.agent x) (choice c.land (c.agent x) w))
    unfolding lock_second release
    second_way s k e = go (told (ltb (choice c.land (c.agent x) w) 64))
      where
        go : Told (ltb (choice c.land (c.agent x) w) 64) → Way c x w (lock_second c x (c.agent x) (choice c.land (c.agent x) w))
        go (yea l) = let small = ltb-true (choice c.land (c.agent x) w) 64 l in
            rw l (take_way _ _ _ _ (λ f. takes_second _ s k e refl small f) (λ h. held_second s k e small h))
        go (nay l) = rw l (sleeps_stuck s k e (ltb-false (choice c.land (c.agent x) w) 64 l))

    -- release puts a place out, or sleeps with all numbers in use
    out_way : (c.agent x).stage ≡ 2 → kind_of (c.agent x) ≡ release_kind → Way c x w (put_or_sleep c x (c.agent x) (fresh_number c.land.used))
    unfolding put_or_sleep release
    out_way s k = go (told (ltb (fresh_number c.land.used) 64))
      where
        go : Told (ltb (fresh_number c.land.used) 64) → Way c x w (put_or_sleep c x (c.agent x) (fresh_number c.land.used))
        go (yea l) = rw l (puts _ s k refl (ltb-true (fresh_number c.land.used) 64 l))
        go (nay l) = rw l (sleeps_full s k (ltb-false (fresh_number c.land.used) 64 l))

    hold_way : (c.agent x).stage ≡ 2 → Way c x w (hold c x (c.agent x) w)
    unfolding hold release
    hold_way s = go (told (stays c.land (c.agent x))) (told (eqb (kind_of (c.agent x)) release_kind))
      where
        three : eqb (kind_of (c.agent x)) release_kind ≡ false → kind_of (c.agent x) ≤ open_kind
        three e = let n = eqb-false (kind_of (c.agent x)) release_kind e in omega (arith, kind_given)

        go : Told (stays c.land (c.agent x)) → Told (eqb (kind_of (c.agent x)) release_kind) → Way c x w (hold c x (c.agent x) w)
        go (yea e) (yea k) = rw (e, k) (out_way s (eqb-true (kind_of (c.agent x)) release_kind k))
        go (yea e) (nay k) = rw (e, k) (second_way s (three k) e)
        go (nay e) _ = rw e (goes_back s e)

    act_way : (c.agent x).stage ≡ 3 → Way c x w (act c x (c.agent x))
    unfolding act release
    act_way s = go (told (fires c.land (c.agent x))) (told (eqb (kind_of (c.agent x)) open_kind)) (told (eqb (kind_of (c.agent x)) enter_kind))
      where
        two : eqb (kind_of (c.agent x)) open_kind ≡ false → eqb (kind_of (c.agent x)) enter_kind ≡ false → kind_of (c.agent x) ≡ exit_kind
        two e d =
            let n = eqb-false (kind_of (c.agent x)) open_kind e in let m = eqb-false (kind_of (c.agent x)) enter_kind d in
            omega (arith, third_kind s, (remembered_third s).some)

        go : Told (fires c.land (c.agent x)) → Told (eqb (kind_of (c.agent x)) open_kind) → Told (eqb (kind_of (c.agent x)) enter_kind)
            → Way c x w (act c x (c.agent x))
        go (yea f) (yea e) _ = rw (f, e) (opens s (eqb-true (kind_of (c.agent x)) open_kind e) f)
        go (yea f) (nay e) (yea d) = rw (f, e, d) (enters s (eqb-true (kind_of (c.agent x)) enter_kind d) f)
        go (yea f) (nay e) (nay d) = rw (f, e, d) (rw (← parent_read c.land (c.agent x).remembered (remembered_third s).known)
            (exits s (two e d) f))
        go (nay f) _ _ = rw f (gives_up s f)

    destination : (c.land.place (c.agent x).home).parent ≡ parent_in c.land (c.agent x).home
    destination = sym (parent_read c.land (c.agent x).home (home_given c i x g))

    by_stage : (s : ℕ) → (c.agent x).stage ≡ s → Way c x w (step_at s c x (c.agent x) w) → Way c x w (step c x w)
    unfolding step
    by_stage s e = subst (λ (n : ℕ). Way c x w (step_at n c x (c.agent x) w)) (sym e)

    -- every step goes one of the ways
    pub step_way : Way c x w (step c x w)
    unfolding step_at lock_first travel
    step_way = go (ok_given c i x g)
      where
        go : Ok c.land c.lock x (c.agent x) → Way c x w (step c x w)
        go (ok0 s k) = by_stage 0 s (look_way s)
        go (ok1 s r) = by_stage 1 s (take_way _ _ _ _ (takes_first s) (held_first s))
        go (ok2 s r h) = by_stage 2 s (hold_way s)
        go (ok3_move s r k h₁ h₂ u v) = by_stage 3 s (act_way s)
        go (ok3_open s r k h₁ h₂ u) = by_stage 3 s (act_way s)
        go (ok4 s v) = by_stage 4 s (rw (ap (λ n. eqb n 4) s) (take_way _ _ _ _ (takes_own s) (held_own s)))
        go (ok5 s v h) = by_stage 5 s (rw (ap (λ n. eqb n 4) s, ap (λ n. eqb n 5) s, destination)
            (take_way _ _ _ _ (takes_destination s) (held_destination s)))
        go (ok6 s v h₁ h₂) = by_stage 6 s (rw (ap (λ n. eqb n 4) s, ap (λ n. eqb n 5) s, destination) (comes s))
        go (ok7 s k u) = by_stage 7 s (is_asleep s)
        go (ok8 s n) = by_stage 8 s (is_done (omega arith))
