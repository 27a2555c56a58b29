-- What is asked of a busy agent, stage by stage. Assumes nothing.
-- Idea: at a stage that is known the places that the agent holds and moves, and what is asked of it, compute.
use Rattle.std.specs.Prelude.{◌≡◌, refl, Bool, true, false, ◌&&◌, ◌||◌, ℕ, leb, eqb}
use Rattle.std.proofs.Common.{sym, ap, ◌∙◌, subst, arith}
use Rattle.std.proofs.lemmas.Bool.{leb-false}
use Rattle.sets.specs.Set.{member}
use Rattle.sets.proofs.ToldLaws.{Told, yea, nay, told, clash}
use Rattle.table.specs.Cell.{none, has_action}
use Rattle.table.specs.Sound.{ready, holds_both, stage_fits, first_held, second_place, second_held, going_from}
use Rattle.soundness.specs.Pass.{quiet, lock_is_at, linked_at, busy_fits}
use Rattle.soundness.specs.Turn.{held_with, fits_of, second_of, busy_of, holds_first, holds_second}
use Rattle.soundness.specs.declared.turns.Busy.{Busy}
use Rattle.soundness.specs.declared.turns.Held.{Held}

and_one : (a b : Bool) → (a && b) ≡ (a && (b && true))
and_one true true = refl
and_one true false = refl
and_one false b = refl

and_four : (a b c d : Bool) → ((a && b) && (c && d)) ≡ ((a && c) && (b && d))
and_four false b c d = refl
and_four true true true d = refl
and_four true true false d = refl
and_four true false true d = refl
and_four true false false d = refl

-- a busy agent at none of stages 2 to 5 is at stage 6
pub last_stage : (s : ℕ) → quiet s ≡ false → (s ≡ 2 → ⊥) → (s ≡ 3 → ⊥) → (s ≡ 4 → ⊥) → (s ≡ 5 → ⊥) → s ≡ 6
unfolding quiet
last_stage s q two three four five = go (told (leb s 1)) (told (leb 7 s))
  where
    go : Told (leb s 1) → Told (leb 7 s) → s ≡ 6
    go (yea t) b = clash (ap (λ (x : Bool). x || leb 7 s) t) q
    go (nay t) (yea u) = clash (ap (λ (x : Bool). x || leb 7 s) t ∙ u) q
    go (nay t) (nay u) = omega (arith, leb-false s 1 t, leb-false 7 s u)

-- the same agent at another stage
abbrev staged : Busy → ℕ → Busy
staged b s = record {
  number = b.number;
  agent = record { home = b.agent.home; stage = s; remembered = b.agent.remembered; chosen = b.agent.chosen; next = b.agent.next; count = b.agent.count; actions = b.agent.actions };
  kind = b.kind;
  used = b.used;
  home = b.home;
  chosen = b.chosen;
  first_lock = b.first_lock;
  second_lock = b.second_lock;
}

module _ (b : Busy) where
  abbrev lock : ℕ → ℕ → Bool
  lock q l = lock_is_at (member b.used q) q l b.number

  by_stage : (s : ℕ) (P : Busy → Type 0) → b.agent.stage ≡ s → P (staged b s) → P b
  by_stage s P e p = subst (λ (n : ℕ). P (staged b n)) (sym e) p

  pub at_two : b.agent.stage ≡ 2 → holds_first b ≡ fits_of b
  unfolding fits_of busy_fits stage_fits lock_is_at first_held second_held holds_first
  at_two e = by_stage 2 (λ z. holds_first z ≡ fits_of z) e (and_one _ _)

  pub at_three : b.agent.stage ≡ 3 → (holds_first b && holds_second b) ≡ fits_of b
  unfolding fits_of busy_fits stage_fits first_held second_held holds_first holds_second
  at_three e =
      let a = b.agent in
      let second = second_place b.kind a.home a.chosen in
      by_stage 3 (λ z. (holds_first z && holds_second z) ≡ fits_of z) e
      (and_four (ready (has_action a) (member b.used a.remembered) (eqb a.remembered a.home) b.kind) (lock a.remembered b.first_lock)
      (holds_both b.kind (linked_at true b.home a.remembered) (linked_at (member b.used a.chosen) b.chosen a.remembered)) (lock second b.second_lock))

  pub at_four : b.agent.stage ≡ 4 → true ≡ fits_of b
  unfolding fits_of busy_fits stage_fits lock_is_at first_held second_held
  at_four e = by_stage 4 (λ z. true ≡ fits_of z) e refl

  pub at_five : b.agent.stage ≡ 5 → lock b.agent.home b.first_lock ≡ fits_of b
  unfolding fits_of busy_fits stage_fits lock_is_at first_held second_held
  at_five e = by_stage 5 (λ z. lock_is_at (member z.used z.agent.home) z.agent.home z.first_lock z.number ≡ fits_of z) e (and_one true _)

  pub at_six : b.agent.stage ≡ 6 → (lock b.agent.home b.first_lock && lock b.home.parent b.second_lock) ≡ fits_of b
  unfolding fits_of busy_fits stage_fits first_held second_held
  at_six e =
      by_stage 6 (λ z. (lock_is_at (member z.used z.agent.home) z.agent.home z.first_lock z.number && lock_is_at (member z.used z.home.parent) z.home.parent z.second_lock z.number) ≡ fits_of z)
      e refl

-- ---- what it adds

module _ (b : Busy) (h : Held) where
  pub adds_two : b.agent.stage ≡ 2 → held_with h (holds_first b) b.agent.remembered none none ≡ busy_of b h
  unfolding first_held second_held going_from
  adds_two e =
      ap (λ (x : Bool). held_with h x b.agent.remembered none none) (at_two b e)
      ∙ by_stage b 2 (λ z. held_with h (fits_of z) z.agent.remembered none none ≡ busy_of z h) e refl

  pub adds_three : b.agent.stage ≡ 3 → held_with h (holds_first b && holds_second b) b.agent.remembered (second_of b) none ≡ busy_of b h
  unfolding first_held going_from
  adds_three e =
      ap (λ (x : Bool). held_with h x b.agent.remembered (second_of b) none) (at_three b e)
      ∙ by_stage b 3 (λ z. held_with h (fits_of z) z.agent.remembered (second_of z) none ≡ busy_of z h) e refl

  pub adds_four : b.agent.stage ≡ 4 → held_with h true none none b.agent.home ≡ busy_of b h
  unfolding first_held second_held going_from
  adds_four e =
      ap (λ (x : Bool). held_with h x none none b.agent.home) (at_four b e)
      ∙ by_stage b 4 (λ z. held_with h (fits_of z) none none z.agent.home ≡ busy_of z h) e refl

  pub adds_five : b.agent.stage ≡ 5 → held_with h (lock b b.agent.home b.first_lock) b.agent.home none b.agent.home ≡ busy_of b h
  unfolding first_held second_held going_from
  adds_five e =
      ap (λ (x : Bool). held_with h x b.agent.home none b.agent.home) (at_five b e)
      ∙ by_stage b 5 (λ z. held_with h (fits_of z) z.agent.home none z.agent.home ≡ busy_of z h) e refl

  pub adds_six : b.agent.stage ≡ 6 → held_with h (lock b b.agent.home b.first_lock && lock b b.home.parent b.second_lock) b.agent.home b.home.parent b.agent.home ≡ busy_of b h
  unfolding first_held second_held going_from
  adds_six e =
      ap (λ (x : Bool). held_with h x b.agent.home b.home.parent b.agent.home) (at_six b e)
      ∙ by_stage b 6 (λ z. held_with h (fits_of z) z.agent.home z.home.parent z.agent.home ≡ busy_of z h) e refl
