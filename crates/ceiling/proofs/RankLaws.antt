-- Laws of the rank: what bounds it, and what is enough to lower it. Assumes nothing.
-- Idea: the steps of all agents are five for each agent at most, so one move less outweighs whatever steps come back.
use Rattle.std.specs.Prelude.{◌≡◌, refl, Bool, true, false, cond, ℕ, zero, suc, ◌+◌, ◌*◌, ◌≤◌, ◌<◌}
use Rattle.std.proofs.Common.{sym, ap, subst, zero-le, le_of_lt, mul-suc, mul-add, add-mul, mul-one, one-mul, mul-le-mul_left, arith}
use Rattle.sets.specs.Word.{bit}
use Rattle.table.specs.Base.{upd, tab, count_below, sum_below}
use Rattle.table.proofs.BaseLaws.{Told, yea, nay, told, upd_same, upd_all}
use Rattle.table.proofs.SumLaws.{sum_le, sum_less, sum_ext}
use Rattle.table.specs.Cell.{State, row_end, unused}
use Rattle.table.specs.declared.Agent.{Agent}
use Rattle.meaning.specs.Update.{with_touches}
use Rattle.meaning.specs.Step.{stays, fires}
use Rattle.meaning.specs.Limit.{agents_of, moves_of, moves_left, changes_left}
use Rattle.demands.specs.Reading.{agent_in}
use Rattle.demands.proofs.ReadingLaws.{agent_given}
use Rattle.ceiling.specs.Rank.{moves, steps_at, steps_left, steps, rank}

-- ---- the steps of all agents

-- a sum of five at most for each number that passes
sum_five : (P : ℕ → Bool) (f : ℕ → ℕ) (n : ℕ) → ((j : ℕ) → f j ≤ 5 * bit (P j)) → sum_below f n ≤ 5 * count_below P n
unfolding sum_below count_below
sum_five P f zero h = zero-le
sum_five P f (suc n) h = omega (arith, sum_five P f n h, h n)

-- an agent has five steps left at most
five : (stage : ℕ) (stays fires : Bool) → steps_at stage stays fires ≤ 5
unfolding steps_at
five zero _ _ = omega arith
five (suc zero) true _ = omega arith
five (suc zero) false _ = omega arith
five (suc (suc zero)) true _ = omega arith
five (suc (suc zero)) false _ = omega arith
five (suc (suc (suc zero))) _ true = omega arith
five (suc (suc (suc zero))) _ false = omega arith
five (suc (suc (suc (suc zero)))) _ _ = omega arith
five (suc (suc (suc (suc (suc zero))))) _ _ = omega arith
five (suc (suc (suc (suc (suc (suc n)))))) _ _ = omega arith

-- and one that is not given has none
pub steps_most : (c : State) → steps c ≤ 5 * agents_of c
unfolding steps steps_left steps_at agent_in
steps_most c = sum_five c.given _ 64 (λ x. go x (told (c.given x)))
  where
    go : (x : ℕ) → Told (c.given x) → steps_left c.land (agent_in c x) ≤ 5 * bit (c.given x)
    go x (yea e) = rw e (five (c.agent x).stage (stays c.land (c.agent x)) (fires c.land (c.agent x)))
    go x (nay e) = rw e zero-le

-- ---- the agents after a step

-- of something that is summed over the agents, once agent x is `new` and the others are `woke`, none of whom has more of it than before
module _ (c c' : State) (x : ℕ) (g : c.given x ≡ true) (woke : ℕ → Agent) (new : Agent) (reads : agent_in c' ≡ upd woke x new)
    (F : Agent → ℕ) (others : (y : ℕ) → F (woke y) ≤ F (agent_in c y)) where
  each_most : F new ≤ F (c.agent x) → (y : ℕ) → F (agent_in c' y) ≤ F (agent_in c y)
  each_most l = subst (λ f. (y : ℕ) → F (f y) ≤ F (agent_in c y)) (sym reads)
      (upd_all woke x new (λ y b. F b ≤ F (agent_in c y)) (rw (agent_given c x g) l) (λ y _. others y))

  -- the sum is no more
  pub sum_no_more : F new ≤ F (c.agent x) → sum_below (λ y. F (agent_in c' y)) 64 ≤ sum_below (λ y. F (agent_in c y)) 64
  sum_no_more l = sum_le _ _ 64 (each_most l)

  -- and less, where the agent has less
  pub sum_fewer : x < 64 → F new < F (c.agent x) → sum_below (λ y. F (agent_in c' y)) 64 < sum_below (λ y. F (agent_in c y)) 64
  sum_fewer s l = sum_less _ _ 64 x s (each_most (omega arith)) (rw (agent_given c x g) (subst (λ f. F (f x) < F (c.agent x)) (sym reads)
      (rw (upd_same woke x new) l)))

-- ---- from one cell to the next

-- what is enough to lower the rank: fewer moves, or no more of these and fewer steps
pub data Lower (c c' : State) : Type 0 where
  spends : moves c' < moves c → Lower c c'
  settles : moves c' ≤ moves c → steps c' < steps c → Lower c c'

-- a move outweighs m steps
outweighs : (m v w r s : ℕ) → v < w → r ≤ m → (m + 1) * v + r < (m + 1) * w + s
outweighs m v w r s l h = omega (arith, mul-suc (m + 1) v, mul-le-mul_left (m + 1) l)

-- where no agent comes or goes
pub lower_rank : {c c' : State} → c'.given ≡ c.given → Lower c c' → rank c' < rank c
unfolding rank
lower_rank {c} {c'} given = go
  where
    same : agents_of c' ≡ agents_of c
    same = ap (λ (f : ℕ → Bool). count_below f 64) given

    go : Lower c c' → (5 * agents_of c' + 1) * moves c' + steps c' < (5 * agents_of c + 1) * moves c + steps c
    go (spends l) = rw (← same) (outweighs (5 * agents_of c') _ _ _ _ l (steps_most c'))
    go (settles l s) = rw (← same) (omega (arith, mul-le-mul_left (5 * agents_of c' + 1) l))

-- touches play no part
pub rank_touches : (c : State) (touches : ℕ → ℕ) → rank (with_touches c touches) ≡ rank c
unfolding rank moves steps agent_in
rank_touches c touches = refl

-- ---- the ceiling

-- the moves before all agents are those of the agents that are given
pub moves_left_lem : (c : State) → moves c ≡ moves_left c
unfolding moves moves_left agent_in unused tab row_end
moves_left_lem c = sum_ext _ _ 64 (λ x _. go x (told (c.given x)))
  where
    go : (x : ℕ) → Told (c.given x) → moves_of (agent_in c x) ≡ cond (c.given x) (moves_of (c.agent x)) 0
    go x (yea g) = rw g
    go x (nay g) = rw g

-- the rank of a cell is at most the number of step calls that are told to change it still
pub rank_most : (c : State) → rank c ≤ changes_left c
unfolding rank changes_left
rank_most c = rw (moves_left_lem c) (omega (arith, steps_most c, folds (5 * agents_of c) (moves_left c)))
  where
    folds : (m b : ℕ) → (m + 1) * b + m ≡ m * (b + 1) + b
    folds m b = omega (arith, add-mul m 1 b, one-mul b, mul-add m b 1, mul-one m)

-- which is no more after any such step
lower_moves : {c c' : State} → Lower c c' → moves c' ≤ moves c
lower_moves (spends l) = le_of_lt l
lower_moves (settles l _) = l

pub left_lower : {c c' : State} → c'.given ≡ c.given → Lower c c' → changes_left c' ≤ changes_left c
unfolding changes_left
left_lower {c} {c'} given l = omega (
  arith,
  fewer,
  subst (λ (n : ℕ). 5 * n * (moves_left c' + 1) ≤ 5 * agents_of c * (moves_left c + 1)) (sym same)
      (mul-le-mul_left (5 * agents_of c) more),
)
  where
    same : agents_of c' ≡ agents_of c
    same = ap (λ (f : ℕ → Bool). count_below f 64) given

    fewer : moves_left c' ≤ moves_left c
    fewer = omega (arith, moves_left_lem c', moves_left_lem c, lower_moves l)

    more : moves_left c' + 1 ≤ moves_left c + 1
    more = omega (arith, fewer)

-- touches play no part in it either
pub left_touches : (c : State) (touches : ℕ → ℕ) → changes_left (with_touches c touches) ≡ changes_left c
unfolding changes_left moves_left
left_touches c touches = refl
