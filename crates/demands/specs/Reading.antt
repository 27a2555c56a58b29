-- What is read of a cell in the proofs: a number that is not in use reads as one under the floor, or as an agent that is done.
use Rattle.std.specs.Prelude.{cond, ℕ}
use Rattle.table.specs.Cell.{Land, State, no_name, fresh_agent}
use Rattle.table.specs.declared.Name.{Name}
use Rattle.table.specs.declared.Agent.{Agent}

-- where a place stands: its parent or destination
unfoldable pub parent_in : Land → ℕ → ℕ
parent_in l q = cond (l.used q) (l.place q).parent 0

-- its name, with its keys
unfoldable pub name_in : Land → ℕ → Name
name_in l q = cond (l.used q) (l.place q).name no_name

-- an agent, done if it is not given
unfoldable pub agent_in : State → ℕ → Agent
agent_in c x = cond (c.given x) (c.agent x) fresh_agent
