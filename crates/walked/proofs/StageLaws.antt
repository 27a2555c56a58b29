-- What becomes of the walk at a busy agent, stage by stage. Assumes nothing.
-- Idea: at a stage that is known the places that the agent holds and moves, and what is asked of it, compute.
use Rattle.std.specs.Prelude.{◌≡◌, Bool, false, ◌&&◌, ℕ, eqb}
use Rattle.std.proofs.Math.Path.{refl, subst}
use Rattle.std.proofs.Common.{sym, ap}
use Rattle.std.proofs.Math.Bool.{true}
use Rattle.sets.specs.Set.{member}
use Rattle.table.specs.Cell.{none, has_action}
use Rattle.table.specs.Sound.{ready, holds_both, stage_fits, first_held, second_place, second_held, going_from}
use Rattle.table.specs.declared.Agent.{Agent}
use Rattle.table.specs.declared.Place.{Place}
use Rattle.soundness.specs.Pass.{lock_is_at, linked_at, busy_fits}
use Rattle.walked.specs.Glances.{Walk, turned_of, busy_of, holds_first, holds_second}

and_one : (a b : Bool) → (a && b) ≡ (a && (b && true))
and_one true true = refl
and_one true false = refl
and_one false b = refl

and_four : (a b c d : Bool) → ((a && b) && (c && d)) ≡ ((a && c) && (b && d))
and_four false b c d = refl
and_four true true true d = refl
and_four true true false d = refl
and_four true false true d = refl
and_four true false false d = refl

-- the same agent at another stage
abbrev staged : Agent → ℕ → Agent
staged a s = record { home = a.home; stage = s; remembered = a.remembered; chosen = a.chosen; next = a.next; count = a.count; actions = a.actions }

module _ (w : Walk) (a : Agent) (kind : ℕ) (home chosen : Place) (i j : ℕ) where
  abbrev lock : ℕ → ℕ → Bool
  lock q l = lock_is_at (member w.used q) q l w.at

  abbrev is_ready : Bool
  is_ready = ready (has_action a) (member w.used a.remembered) (eqb a.remembered a.home) kind

  abbrev linked : Bool
  linked = holds_both kind (linked_at true home a.remembered) (linked_at (member w.used a.chosen) chosen a.remembered)

  abbrev second : ℕ
  second = second_place kind a.home a.chosen

  -- it suffices to know the walk of the same agent at that stage
  by_stage : (s : ℕ) (v : Walk) → a.stage ≡ s → v ≡ busy_of w (staged a s) kind home chosen i j → v ≡ busy_of w a kind home chosen i j
  by_stage s v e = subst (λ (n : ℕ). v ≡ busy_of w (staged a n) kind home chosen i j) (sym e)

  pub at_two : a.stage ≡ 2 → turned_of (holds_first w a kind i) w a.remembered none none ≡ busy_of w a kind home chosen i j
  unfolding busy_of busy_fits stage_fits lock_is_at first_held second_held going_from holds_first
  at_two e = by_stage 2 _ e (ap (λ (b : Bool). turned_of b w a.remembered none none) (and_one is_ready (lock a.remembered i)))

  pub at_three : a.stage ≡ 3
      → turned_of (holds_first w a kind i && holds_second w a kind home chosen (second_held a kind home.parent) j) w a.remembered (second_held a kind home.parent) none
      ≡ busy_of w a kind home chosen i j
  unfolding busy_of busy_fits stage_fits first_held second_held going_from holds_first holds_second
  at_three e =
      subst (λ (n : ℕ). turned_of (holds_first w a kind i && holds_second w a kind home chosen (second_held (staged a n) kind home.parent) j) w a.remembered (second_held (staged a n) kind home.parent) none
      ≡ busy_of w (staged a n) kind home chosen i j) (sym e)
      (ap (λ (b : Bool). turned_of b w a.remembered second none) (and_four is_ready (lock a.remembered i) linked (lock second j)))

  pub at_four : a.stage ≡ 4 → turned_of true w none none a.home ≡ busy_of w a kind home chosen i j
  unfolding busy_of busy_fits stage_fits lock_is_at first_held second_held going_from
  at_four e = by_stage 4 _ e refl

  pub at_five : a.stage ≡ 5 → turned_of (lock a.home i) w a.home none a.home ≡ busy_of w a kind home chosen i j
  unfolding busy_of busy_fits stage_fits lock_is_at first_held second_held going_from
  at_five e = by_stage 5 _ e (ap (λ (b : Bool). turned_of b w a.home none a.home) (and_one true (lock a.home i)))

  pub at_six : a.stage ≡ 6 → turned_of (lock a.home i && lock home.parent j) w a.home home.parent a.home ≡ busy_of w a kind home chosen i j
  unfolding busy_of busy_fits stage_fits first_held second_held going_from
  at_six e = by_stage 6 _ e refl
