-- Who is at rest, by what a step call would answer: the wish plays no part, and it is exactly the agents at stages 7 and 8.
-- By the ways a step can go: asleep and done are the words of stages 7 and 8 and of no other.
use Rattle.std.specs.Prelude.{◌≡◌, ◌↔◌, false}
use Rattle.std.proofs.Math.Path.{refl, sym, ap}
use Rattle.std.proofs.Common.{◌∙◌, arith, le-leb}
use Rattle.std.proofs.Math.Bool.{Bool, true, cond}
use Prim.Native.Nat.{ℕ}
use Rattle.table.proofs.BaseLaws.{Told, yea, nay, told, all_at, all_yes}
use Rattle.table.specs.Cell.{State, cell_of}
use Rattle.table.specs.declared.Cell.{Cell}
use Rattle.table.specs.Idle.{rests_at, idle}
use Rattle.meaning.specs.Step.{Outcome, still, put, leave, dissolve, arrive}
use Rattle.meaning.specs.Run.{made, step_of, is_rest, says_rest, rests}
use Rattle.demands.specs.Invariant.{Inv}
use Rattle.demands.specs.Ways.{Way, is_done, is_asleep, held_first, held_second, held_own, held_destination, looks_up, looks_at_home}
use Rattle.demands.specs.Ways.{sleeps_alone, takes_first, goes_back, sleeps_stuck, takes_second, puts, sleeps_full, gives_up, enters, exits, opens}
use Rattle.demands.specs.Ways.{takes_own, takes_destination, comes}
use Rattle.demands.proofs.StepWays.{step_way}
use Rattle.demands.proofs.RunKeeps.{call_made, call_refused}

module _ (c : State) (x : ℕ) where
  awake : (n : ℕ) → (c.agent x).stage ≡ n → rests_at n ≡ false → false ≡ rests_at (c.agent x).stage
  awake n s e = sym (ap rests_at s ∙ e)

  -- the word says asleep or done exactly at stages 7 and 8
  way_rests : {wish : ℕ} {o : Outcome} → Way c x wish o → is_rest o.word ≡ rests_at (c.agent x).stage
  unfolding still put leave dissolve arrive
  way_rests (is_done s) = sym (le-leb 7 (c.agent x).stage (omega arith))
  way_rests (is_asleep s) = sym (le-leb 7 (c.agent x).stage (omega arith))
  way_rests (held_first s _) = awake 1 s refl
  way_rests (held_second s _ _ _ _) = awake 2 s refl
  way_rests (held_own s _) = awake 4 s refl
  way_rests (held_destination s _) = awake 5 s refl
  way_rests (looks_up s _ _) = awake 0 s refl
  way_rests (looks_at_home s _) = awake 0 s refl
  way_rests (sleeps_alone s _ _) = awake 0 s refl
  way_rests (takes_first s _) = awake 1 s refl
  way_rests (goes_back s _) = awake 2 s refl
  way_rests (sleeps_stuck s _ _ _) = awake 2 s refl
  way_rests (takes_second _ s _ _ _ _ _) = awake 2 s refl
  way_rests (puts _ s _ _ _) = awake 2 s refl
  way_rests (sleeps_full s _ _) = awake 2 s refl
  way_rests (gives_up s _) = awake 3 s refl
  way_rests (enters s _ _) = awake 3 s refl
  way_rests (exits s _ _) = awake 3 s refl
  way_rests (opens s _ _) = awake 3 s refl
  way_rests (takes_own s _) = awake 4 s refl
  way_rests (takes_destination s _) = awake 5 s refl
  way_rests (comes s) = awake 6 s refl

module _ (t : Cell) (i : Inv (cell_of t)) where
  -- a call for an agent that is given says by its stage whether it rests
  answer_given : (x wish : ℕ) → (cell_of t).given x ≡ true → says_rest (step_of t x wish).answer ≡ rests_at ((cell_of t).agent x).stage
  answer_given x wish g = ap (λ r. says_rest r.answer) (call_made t i x wish g) ∙ unfold made in
      way_rests (cell_of t) x (step_way (cell_of t) i.sound x g wish)

  -- whether the answer says asleep or done does not depend on the wish
  pub any_wish : (x wish : ℕ) → says_rest (step_of t x wish).answer ≡ rests t x
  unfolding rests
  any_wish x wish = go (told ((cell_of t).given x))
    where
      go : Told ((cell_of t).given x) → says_rest (step_of t x wish).answer ≡ says_rest (step_of t x 0).answer
      go (yea g) = answer_given x wish g ∙ sym (answer_given x 0 g)
      go (nay g) = ap (λ r. says_rest r.answer) (call_refused t i x wish g ∙ sym (call_refused t i x 0 g))

  -- an agent that is given rests exactly at stages 7 and 8
  pub rests_stage : (x : ℕ) → (cell_of t).given x ≡ true → rests t x ≡ rests_at ((cell_of t).agent x).stage
  unfolding rests
  rests_stage x g = answer_given x 0 g

  -- the cell is idle exactly if every agent that is given rests
  pub idle_all : (idle (cell_of t) ≡ true) ↔ ((x : ℕ) → (cell_of t).given x ≡ true → rests t x ≡ true)
  unfolding idle
  idle_all = (
    λ e x g. rests_stage x g ∙ (rw g at (all_at at_rest 64 x (i.sound.few x g) e)),
    λ r. all_yes at_rest 64 (λ x _. go r x (told ((cell_of t).given x))),
  )
    where
      at_rest : ℕ → Bool
      at_rest x = cond ((cell_of t).given x) (rests_at ((cell_of t).agent x).stage) true

      go : ((x : ℕ) → (cell_of t).given x ≡ true → rests t x ≡ true) → (x : ℕ) → Told ((cell_of t).given x) → at_rest x ≡ true
      go r x (yea g) = rw g (sym (rests_stage x g) ∙ r x g)
      go r x (nay g) = rw g
