-- What is found of a cell: for each place what is listed in it.
use Rattle.std.specs.Prelude.{◌≡◌, Bool, true, ◌&&◌, cond, List, ℕ, ◌<◌, eqb, ltb, length, get_or, set}
use Rattle.sets.specs.Set.{member, set_of, inserted, empty_set}
use Rattle.sets.specs.declared.Set.{Set}
use Rattle.table.specs.Base.{tab}
use Rattle.table.specs.Cell.{no_place, no_agent, has_unused}
use Rattle.table.specs.declared.Agent.{Agent}
use Rattle.table.specs.declared.Place.{Place}
use Rattle.table.specs.declared.Cell.{Cell}
use Rattle.meaning.specs.Listing.{agent_text}

-- where each place stands; 64 for the floor, which stands in none
unfoldable pub parents_of : List Place → List ℕ
parents_of ps = tab (λ q. cond (eqb q 0) 64 (get_or ps q no_place).parent) 64 0

-- x is an agent with unused actions
abbrev pub is_listed : Set → List Agent → ℕ → Bool
is_listed given crew x = member given x && has_unused (get_or crew x no_agent)

-- where each agent is listed: its home, or 64 where it has no unused action
unfoldable pub homes_of : Set → List Agent → List ℕ
homes_of given crew = tab (λ x. cond (is_listed given crew x) (get_or crew x no_agent).home 64) 64 0

-- for each number below 64, the set of the members whose key it is
unfoldable pub grouped_of : Set → List ℕ → List Set
grouped_of s keys = tab (λ p. set_of (λ x. member s x && eqb (get_or keys x 0) p)) 64 0

-- sets with x put into that of p; a p that is not below 64 has none
unfoldable pub filed : List Set → ℕ → ℕ → List Set
filed sets p x = cond (ltb p 64) (set sets p (inserted (get_or sets p empty_set) x)) sets

-- the text of the agent at x
abbrev pub agent_on : Cell → ℕ → List ℕ
agent_on c x = agent_text (get_or c.agents x no_agent)

-- every agent that is listed somewhere has a text
abbrev pub HaveTexts : Cell → List Set → Type 0
HaveTexts c agents = (p x : ℕ) → p < 64 → x < 64 → member (get_or agents p empty_set) x ≡ true → 0 < length (agent_on c x)
