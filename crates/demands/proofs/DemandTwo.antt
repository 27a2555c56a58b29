-- Demand 2: from every cell as a load leaves it, after every list of calls that leaves the cell settled, each move that the calculus permits an
-- agent is made by nine of that agent's own calls at most, and they end in a settled cell whose tree is exactly the one that the move makes.
-- Idea: the table reached has the invariant, and from a settled cell with the invariant the agent's next step is known at every stage.
use Rattle.std.specs.Prelude.{◌≡◌, List, ℕ}
use Rattle.std.proofs.Common.{arith}
use Rattle.table.specs.Cell.{State}
use Rattle.meaning.specs.File.{load, accepted}
use Rattle.meaning.specs.Run.{Call}
use Rattle.demands.specs.AfterCalls.{reached}
use Rattle.demands.proofs.DemandThree.{reached_sized, reached_inv}
use Rattle.demands.specs.Fresh.{Fresh}
use Rattle.demands.proofs.LoadingFile.{accepted_fresh}
use Rattle.demands.specs.TwoSteps.{MovesReached}
use Rattle.demands.proofs.TwoChain.{raise}
use Rattle.demands.proofs.Two.{reach}

-- demand 2, of a fresh cell c and a list of calls
pub fresh_two : (c : State) → Fresh c → (calls : List Call) → MovesReached (reached c calls)
fresh_two c f calls s a u v = raise (omega arith) (reach a (reached c calls) (reached_sized c f calls) (reached_inv c f calls) s v)

-- demand 2, of the cell c that a file s gives and a list of calls
pub demand_two : (s : List ℕ) (c : State) → load s ≡ accepted c → (calls : List Call) → MovesReached (reached c calls)
demand_two s c e = fresh_two c (accepted_fresh s c e)
