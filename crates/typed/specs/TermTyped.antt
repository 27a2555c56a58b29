-- The term that a tree of the listing's language says (document 02, W8): read off the tree as it is typed, with no cell between.
use Rattle.std.specs.Prelude.{List, [], ◌∷◌}
use Rattle.table.specs.declared.Action.{Action}
use Rattle.calculus.specs.Terms.{Term, amb, nil, ◌∣◌}
use Rattle.calculus.specs.TermOf.{row}
use Rattle.language.specs.Grammar.{TypedAction, TypedAgent, Contents, nothing, agent, place, action_of, name_of}

-- the actions as an agent's row holds them
unfoldable pub actions_of : List TypedAction → List Action
unfolding action_of
actions_of [] = []
actions_of (a ∷ rest) = action_of a ∷ actions_of rest

-- an agent: its actions one after the other, ending in 0
unfoldable pub agent_term : TypedAgent → Term
unfolding actions_of row
agent_term r = row (actions_of (r.first ∷ r.further))

-- parts side by side: each agent its row, each place the ambient of its name and keys around what its brackets hold
unfoldable pub term_typed : Contents → Term
unfolding agent_term name_of
term_typed nothing = nil
term_typed (agent r beside) = agent_term r ∣ term_typed beside
term_typed (place h inside beside) = amb (name_of h) (term_typed inside) ∣ term_typed beside
