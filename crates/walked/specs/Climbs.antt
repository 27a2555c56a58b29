-- The walk over the places as a program goes about it, after the agents, one turn at a time.
use Rattle.std.specs.Prelude.{ℕ, ◌≡◌, Bool, true, false, cond, List}
use Rattle.sets.specs.Set.{member, inserted_if, removed}
use Rattle.sets.specs.Set.{empty_set}
use Rattle.sets.specs.Walk.{lowest_in}
use Rattle.sets.specs.declared.Set.{Set}
use Rattle.table.specs.declared.Place.{Place}
use Rattle.soundness.specs.Lead.{Ways, floor_alone}
use Rattle.soundness.specs.Pass.{floor_sound, child_fits}
use Rattle.walked.specs.Glances.{Walk}

-- what the places before said: which one is next, or 64; the places in use; those left, the next one among them; the places whose locks agents
-- hold, and those that they move; the places that are known to lead to the floor; and whether all so far fit
pub record Climb : Type 0 where
  pub at : ℕ
  pub used : Set
  pub rest : Set
  pub claimed : Set
  pub going : Set
  pub known : Set
  pub fit : Bool

-- the next place is the lowest of those left
abbrev pub climbing_at : Set → Set → Set → Set → Set → Climb
climbing_at used rest claimed going known = record { at = lowest_in rest; used = used; rest = rest; claimed = claimed; going = going; known = known; fit = true }

-- a place does not fit, or an agent
abbrev pub halted_here : Climb
halted_here = record { at = 64; used = empty_set; rest = empty_set; claimed = empty_set; going = empty_set; known = empty_set; fit = false }

-- the floor's turn, after the agents
unfoldable pub floored_of : Walk → Set → Place → ℕ → Climb
floored_of w used x lock =
    cond w.fit (cond (floor_sound x lock used w.claimed w.going) (climbing_at used (removed used 0) w.claimed w.going floor_alone) halted_here) halted_here

-- the turn of any other place: it is known to lead to the floor where its parent is
unfoldable pub placed_of : Climb → Place → ℕ → Climb
placed_of l x lock =
    cond (child_fits x lock (member l.used x.parent) (member l.claimed l.at) (member l.going l.at))
    (climbing_at l.used (removed l.rest (lowest_in l.rest)) l.claimed l.going (inserted_if l.known l.at (member l.known x.parent)))
    halted_here

-- once all fit, up is where each stands, and those known lead to the floor
abbrev pub Led : Climb → List ℕ → Type 0
Led l up = l.fit ≡ true → Ways up l.known
