-- The round, agent by agent, comes to whether all are asleep or done. Assumes nothing.
-- Idea: before each turn all agents so far rest, or one does not and the round is at its end.
use Rattle.std.specs.Prelude.{◌≡◌, refl, ◌≢◌, ◌⊎◌, Bool, cond, ℕ, ◌+◌, ◌^◌, ◌≤◌, ◌<◌, get_or}
use Rattle.std.proofs.Math.Path.{sym, subst}
use Rattle.std.proofs.Common.{ap, ◌∙◌, pos_of_ne-zero, arith}
use Rattle.std.proofs.Math.Logic.{inl, inr}
use Rattle.std.proofs.Math.Bool.{true, false}
use Rattle.sets.specs.Word.{has}
use Rattle.sets.proofs.WordLaws.{has_none}
use Rattle.sets.specs.Set.{member, removed}
use Rattle.sets.proofs.WalkLaws.{rest_start, rest_lt, rest_member, removed_less, lowest_found}
use Rattle.sets.specs.Walk.{lowest_in}
use Rattle.table.proofs.BaseLaws.{clash, eq?}
use Rattle.table.specs.Cell.{no_agent, cell_of}
use Rattle.table.specs.Idle.{rests_at, idle}
use Rattle.table.proofs.TestLaws.{Tested, tested_start, tested_end, tested_stop, tested_more}
use Rattle.table.specs.declared.Cell.{Cell}
use Rattle.table.proofs.RestLaws.{rests, not_given}
use Rattle.walked.specs.Rounds.{Round, standing_at, stopped_of, passed_of}

-- ---- what holds before each turn

pub record On (c : Cell) (w : Round) : Type 0 where
  pub rest : w.rest ≡ true
  pub at : w.at ≡ lowest_in w.left
  pub tested : Tested (has c.given.bits) (rests c) w.left

pub record Off (c : Cell) (w : Round) : Type 0 where
  pub rest : w.rest ≡ false
  pub at : w.at ≡ 64
  pub why : idle (cell_of c) ≡ false

abbrev pub Reaches : Cell → Round → Type 0
Reaches c w = On c w ⊎ Off c w

-- what gets less with each turn
abbrev pub turns : Round → ℕ
turns w = cond w.rest (w.left.bits + 1) 0

module _ (c : Cell) where
  pub start_reaches : c.given.bits < 2 ^ 64 → Reaches c (standing_at c.given)
  start_reaches b = inl (record { rest = refl; at = refl; tested = tested_start (has c.given.bits) (rests c) c.given (rest_start c.given b) })

  module _ (w : Round) where
    off_ends : Off c w → w.at < 64 → ⊥
    off_ends f l = let e = f.at in omega arith

    -- an agent is left, and is given
    module _ (o : On c w) (l : lowest_in w.left < 64) where
      some : 0 < w.left.bits
      some = pos_of_ne-zero (λ e. clash (lowest_found 64 (member w.left) l) (ap (λ (n : ℕ). has n (lowest_in w.left)) e ∙ has_none (lowest_in w.left)))

      abbrev stage : ℕ
      stage = (get_or c.agents (lowest_in w.left) no_agent).stage

      rests_is : rests c (lowest_in w.left) ≡ rests_at stage
      rests_is = ap (λ (b : Bool). cond b (rests_at stage) true) (rest_member o.tested.left some)

      next_by : (b : Bool) → rests_at stage ≡ b → Reaches c (cond b (standing_at (removed w.left (lowest_in w.left))) (stopped_of w))
      unfolding idle cell_of
      next_by true e = inl (record { rest = refl; at = refl; tested = tested_more (has c.given.bits) (rests c) (not_given c) o.tested some (rests_is ∙ e) })
      next_by false e = inr (record { rest = refl; at = refl; why = tested_stop (has c.given.bits) (rests c) (not_given c) o.tested some (rests_is ∙ e) })

      is_left : turns w ≡ w.left.bits + 1
      is_left = ap (λ (b : Bool). cond b (w.left.bits + 1) 0) o.rest

      less_by : (b : Bool) → turns (cond b (standing_at (removed w.left (lowest_in w.left))) (stopped_of w)) < turns w
      less_by true = subst (λ (n : ℕ). (removed w.left (lowest_in w.left)).bits + 1 < n) (sym is_left) (let h = removed_less w.left o.tested.left.small some in omega (arith, h))
      less_by false = subst (λ (n : ℕ). 0 < n) (sym is_left) (omega arith)

    -- the turn of the agent that is next
    module _ (l : w.at < 64) where
      pub turn_reaches : Reaches c w → Reaches c (passed_of w (get_or c.agents w.at no_agent).stage)
      unfolding passed_of
      turn_reaches (inr f) = absurd (off_ends f l)
      turn_reaches (inl o) = subst (λ (n : ℕ). Reaches c (passed_of w (get_or c.agents n no_agent).stage)) (sym o.at) (next_by o (subst (λ (n : ℕ). n < 64) o.at l) _ refl)

      pub turn_less : Reaches c w → (s : ℕ) → turns (passed_of w s) < turns w
      unfolding passed_of
      turn_less (inr f) s = absurd (off_ends f l)
      turn_less (inl o) s = less_by o (subst (λ (n : ℕ). n < 64) o.at l) (rests_at s)

    -- nobody is left
    pub round_ends : Reaches c w → 64 ≤ w.at → w.rest ≡ idle (cell_of c)
    unfolding idle cell_of
    round_ends (inr f) l = f.rest ∙ sym f.why
    round_ends (inl o) l = o.rest ∙ sym (tested_end (has c.given.bits) (rests c) (not_given c) o.tested (none (eq? w.left.bits 0)))
      where
        none : (w.left.bits ≡ 0) ⊎ (w.left.bits ≢ 0) → w.left.bits ≡ 0
        none (inl e) = e
        none (inr n) = absurd (let h = rest_lt o.tested.left (pos_of_ne-zero n) in let e = o.at in omega arith)
