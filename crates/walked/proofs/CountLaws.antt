-- The walk that tells whom a motion would wake comes to the number of those whom the motion wakes. Assumes nothing.
-- Idea: each turn gathers one agent where it would be woken.
use Rattle.std.specs.Prelude.{◌≡◌, refl, ◌≢◌, ◌⊎◌, Bool, ℕ, ◌%◌, ◌≤◌, ◌<◌, get_or}
use Rattle.std.proofs.Common.{sym, ap, subst, ◌∙◌, inl, inr, pos_of_ne-zero, arith}
use Rattle.sets.specs.Word.{has, count_of}
use Rattle.sets.proofs.WordLaws.{has_none}
use Rattle.sets.specs.Set.{member}
use Rattle.sets.proofs.WalkLaws.{rest_lt, lowest_found, removed_less}
use Rattle.sets.specs.Walk.{lowest_in}
use Rattle.sets.specs.declared.Set.{Set}
use Rattle.table.proofs.BaseLaws.{clash, eq?}
use Rattle.table.specs.Bounds.{Sized}
use Rattle.table.specs.Cell.{no_place, no_agent, cell_of}
use Rattle.table.specs.declared.Agent.{Agent}
use Rattle.table.specs.declared.Cell.{Cell}
use Rattle.updates.proofs.GatherLaws.{Gathered, gathered_start, gathered_more, gathered_end}
use Rattle.moves.specs.declared.Motion.{Motion}
use Rattle.moves.specs.declared.Motion.TheVariants.{Leave, Arrive, Dissolve, Put}
use Rattle.moves.specs.Motions.{woken_in}
use Rattle.moving.specs.Plan.{goal_of}
use Rattle.walked.specs.Turns.{Waking, wakes, standing_at, start_of, was, sleepers_of}
use Rattle.walked.specs.Shifts.{plan_in}
use Rattle.walked.specs.Counts.{before_of, passed_of}
use Rattle.walked.proofs.ShiftLaws.{woken_is}

-- t: the table
module _ (t : Cell) (opens : Bool) (p q r : ℕ) where
  -- what holds before each turn
  pub record Counting (w : Waking) : Type 0 where
    pub so : w ≡ standing_at opens p q r w.rest w.sleepers w.holders
    pub slept : Gathered (member t.given) (λ y. wakes opens p q r (was t opens p q r y)) w.sleepers w.rest

  pub counting_start : Sized t → Counting (start_of t.given opens p q r)
  counting_start z = record { so = refl; slept = gathered_start t.given _ z.given }

  module _ {w : Waking} (a : Counting w) where
    is_lowest : w.at ≡ lowest_in w.rest
    is_lowest = ap (λ (v : Waking). v.at) a.so

    module _ (l : w.at < 64) where
      some_left : 0 < w.rest.bits
      some_left = pos_of_ne-zero (λ e. clash (lowest_found 64 (member w.rest) (subst (λ (n : ℕ). n < 64) is_lowest l)) (ap (λ (n : ℕ). has n (lowest_in w.rest)) e ∙ has_none (lowest_in w.rest)))

      pub counting_more : Counting (passed_of w (get_or t.agents w.at no_agent))
      counting_more = subst (λ (v : Waking). Counting (passed_of v (get_or t.agents v.at no_agent))) (sym a.so)
          (record { so = refl; slept = gathered_more a.slept some_left _ refl })

      -- fewer are left
      pub counting_less : (b : Agent) → (passed_of w b).rest.bits < w.rest.bits
      counting_less b = removed_less w.rest a.slept.left.small some_left

    -- once none is left
    module _ (l : 64 ≤ w.at) where
      none_left : w.rest.bits ≡ 0
      none_left = go (eq? w.rest.bits 0)
        where
          go : (w.rest.bits ≡ 0) ⊎ (w.rest.bits ≢ 0) → w.rest.bits ≡ 0
          go (inl e) = e
          go (inr n) = absurd (let h = rest_lt a.slept.left (pos_of_ne-zero n) in let s = is_lowest in omega (arith, h, s, l))

      pub counting_end : w.sleepers ≡ sleepers_of t opens p q r
      counting_end = gathered_end a.slept none_left

-- ---- the walk of a motion
module _ (t : Cell) (a : Agent) where
  abbrev pub Counts : Motion → Waking → Type 0
  Counts m w = Counting t (plan_in t a m).opens (plan_in t a m).p (plan_in t a m).q (plan_in t a m).r w

  starts : (m : Motion) → before_of t.given t.used a m (get_or t.places (goal_of m % 64) no_place)
      ≡ start_of t.given (plan_in t a m).opens (plan_in t a m).p (plan_in t a m).q (plan_in t a m).r
  starts (Leave d) = refl
  starts (Arrive d) = refl
  starts Dissolve = refl
  starts (Put n) = refl

  module _ (z : Sized t) (m : Motion) where
    -- g, j: the place that the motion links to, as it is read
    pub counts_start : (g j : ℕ) → g ≡ goal_of m → j ≡ g % 64 → (w : Waking) → w ≡ before_of t.given t.used a m (get_or t.places j no_place) → Counts m w
    counts_start g j e_g e_j w e = subst (Counts m)
        (sym (e ∙ ap (λ (k : ℕ). before_of t.given t.used a m (get_or t.places k no_place)) (e_j ∙ ap (λ (k : ℕ). k % 64) e_g) ∙ starts m))
        (counting_start t _ _ _ _ z)

    pub counts_end : (w : Waking) → Counts m w → 64 ≤ w.at → count_of 64 (member w.sleepers) ≡ woken_in (cell_of t) a m
    counts_end w c l = ap (λ (s : Set). count_of 64 (member s)) (counting_end t _ _ _ _ c l) ∙ woken_is t z a m
