-- The round of the agents as a program goes about it, one at a time.
use Rattle.std.specs.Prelude.{ℕ, Bool, true, false, cond}
use Rattle.sets.specs.Set.{removed}
use Rattle.sets.specs.Walk.{lowest_in}
use Rattle.sets.specs.declared.Set.{Set}
use Rattle.table.specs.Idle.{rests_at}

-- what the agents before said: which one is next, or 64; the agents left, the next one among them; and whether all before are asleep or done
pub record Round : Type 0 where
  pub at : ℕ
  pub left : Set
  pub rest : Bool

-- the next agent is the lowest of those left
abbrev pub standing_at : Set → Round
standing_at left = record { at = lowest_in left; left = left; rest = true }

-- an agent is neither asleep nor done
abbrev pub stopped_of : Round → Round
stopped_of w = record { at = 64; left = w.left; rest = false }

-- the next agent, which is at this stage, is passed
unfoldable pub passed_of : Round → ℕ → Round
passed_of w stage = cond (rests_at stage) (standing_at (removed w.left (lowest_in w.left))) (stopped_of w)
