-- What a tree of the listing's language builds: its parts as they appear, outer before inner.
use Rattle.std.specs.Prelude.{List, [], ◌∷◌, Bool, true, false}
use Rattle.language.specs.Grammar.{TypedAction, TypedAgent, Contents, nothing, agent, place, name_of}
use Rattle.language.specs.Machine.{Builder}

module _ {B : Type 0} (o : Builder B) where
  -- actions in their order
  unfoldable pub actions_built : List TypedAction → B → B
  actions_built [] x = x
  actions_built (a ∷ rest) x = actions_built rest (o.new_action a.kind a.number.value x)

  -- an agent, and then its actions
  unfoldable pub agent_built : TypedAgent → B → B
  unfolding actions_built
  agent_built r x = actions_built (r.first ∷ r.further) (o.new_agent x)

  -- contents: a place, what it holds, its end, and what stands beside it
  unfoldable pub built : Contents → B → B
  unfolding agent_built name_of
  built nothing x = x
  built (agent r beside) x = built beside (agent_built r x)
  built (place h inside beside) x = built beside (o.end_place (built inside (o.new_place (name_of h) x)))

-- contents that have a part
unfoldable pub is_some : Contents → Bool
is_some nothing = false
is_some (agent r beside) = true
is_some (place h inside beside) = true
