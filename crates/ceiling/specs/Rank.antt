-- The rank of a cell: a number that every step which changes the cell lowers. Definitions only.
-- Leaving, opening, putting and coming are moves; each uses up an action or ends a way, and neither comes back. Between two moves of the cell
-- nothing moves, and an agent has few steps that change the cell before it moves or sleeps.
use Rattle.std.specs.Prelude.{Bool, cond, ℕ, zero, suc, ◌+◌, ◌*◌}
use Rattle.table.specs.Base.{sum_below}
use Rattle.table.specs.Cell.{Land, State}
use Rattle.table.specs.declared.Agent.{Agent}
use Rattle.meaning.specs.Step.{stays, fires}
use Rattle.meaning.specs.Limit.{agents_of, moves_of}
use Rattle.demands.specs.Reading.{agent_in}

-- ---- moves

-- the moves before all agents, an agent that is not given read as one that is done
unfoldable pub moves : State → ℕ
moves c = sum_below (λ x. moves_of (agent_in c x)) 64

-- ---- steps between moves

-- the steps that change the cell before an agent moves or sleeps, while nothing moves: by its stage, whether its place is still linked to the
-- remembered one (if not it goes back from stage 2), and whether its action fires on the chosen place (if not it goes back from stage 3)
unfoldable pub steps_at : ℕ → Bool → Bool → ℕ
-- looking
steps_at zero stays fires = 3
-- found
steps_at (suc zero) stays fires = cond stays 2 5
-- holding
steps_at (suc (suc zero)) stays fires = cond stays 1 4
-- holdingBoth
steps_at (suc (suc (suc zero))) stays fires = cond fires 0 4
-- onWay
steps_at (suc (suc (suc (suc zero)))) stays fires = 2
-- onWayOwn
steps_at (suc (suc (suc (suc (suc zero))))) stays fires = 1
-- onWayBoth, asleep, done
steps_at (suc (suc (suc (suc (suc (suc n)))))) stays fires = 0

-- those of an agent
unfoldable pub steps_left : Land → Agent → ℕ
unfolding steps_at
steps_left l a = steps_at a.stage (stays l a) (fires l a)

-- those of all agents, five at most for each
unfoldable pub steps : State → ℕ
steps c = sum_below (λ x. steps_left c.land (agent_in c x)) 64

-- ---- the rank

-- one move weighs more than all steps between two moves
unfoldable pub rank : State → ℕ
unfolding moves steps
rank c = (5 * agents_of c + 1) * moves c + steps c
