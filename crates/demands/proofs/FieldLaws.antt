-- A place, an agent or a cell that has the same fields as another is the same.
use Rattle.std.specs.Prelude.{◌≡◌, Bool, List, ℕ}
use Rattle.std.proofs.Common.{ap, ap₂, ◌∙◌}
use Rattle.table.specs.Cell.{State}
use Rattle.table.specs.declared.Name.{Name}
use Rattle.table.specs.declared.Place.{Place}
use Rattle.table.specs.declared.Action.{Action}
use Rattle.table.specs.declared.Agent.{Agent}

-- a place with the same name, keys, parent and way is the same
pub place_same : {p q : Place} → p.name ≡ q.name → p.parent ≡ q.parent → p.way ≡ q.way → p ≡ q
place_same {p} {q} n r w =
    ap₂ (λ (m : Name) (s : ℕ). the_place m s p.way) n r ∙ ap (λ (s : ℕ). the_place q.name q.parent s) w
  where
    the_place : Name → ℕ → ℕ → Place
    the_place m s v = record { name = m; parent = s; way = v }

-- an agent, field by field
agent_of : ℕ → ℕ → ℕ → ℕ → ℕ → ℕ → List Action → Agent
agent_of home stage remembered chosen next count actions = record {
  home = home;
  stage = stage;
  remembered = remembered;
  chosen = chosen;
  next = next;
  count = count;
  actions = actions;
}

-- one with the same fields is the same
pub agent_same : {a b : Agent} → a.home ≡ b.home → a.stage ≡ b.stage → a.remembered ≡ b.remembered → a.chosen ≡ b.chosen → a.next ≡ b.next
    → a.count ≡ b.count → a.actions ≡ b.actions → a ≡ b
unfolding agent_of
agent_same {a} {b} h s r q n k row =
    ap₂ (λ (u v : ℕ). agent_of u v a.remembered a.chosen a.next a.count a.actions) h s
    ∙ ap₂ (λ (u v : ℕ). agent_of b.home b.stage u v a.next a.count a.actions) r q
    ∙ ap₂ (λ (u v : ℕ). agent_of b.home b.stage b.remembered b.chosen u v a.actions) n k
    ∙ ap (λ (u : List Action). agent_of b.home b.stage b.remembered b.chosen b.next b.count u) row

-- a cell, field by field
state_of : (ℕ → Place) → (ℕ → Bool) → List ℕ → (ℕ → ℕ) → (ℕ → Agent) → (ℕ → Bool) → (ℕ → ℕ) → State
state_of place used order lock agent given touches = record {
  land = record { place = place; used = used; order = order };
  lock = lock;
  agent = agent;
  given = given;
  touches = touches;
}

-- one with the same fields is the same
pub state_same : {d e : State} → d.land.place ≡ e.land.place → d.land.used ≡ e.land.used → d.land.order ≡ e.land.order → d.lock ≡ e.lock
    → d.agent ≡ e.agent → d.given ≡ e.given → d.touches ≡ e.touches → d ≡ e
unfolding state_of
state_same {d} {e} p u o l a g t =
    ap₂ (λ (v : ℕ → Place) (w : ℕ → Bool). state_of v w d.land.order d.lock d.agent d.given d.touches) p u
    ∙ ap₂ (λ (v : List ℕ) (w : ℕ → ℕ). state_of e.land.place e.land.used v w d.agent d.given d.touches) o l
    ∙ ap₂ (λ (v : ℕ → Agent) (w : ℕ → Bool). state_of e.land.place e.land.used e.land.order e.lock v w d.touches) a g
    ∙ ap (state_of e.land.place e.land.used e.land.order e.lock e.agent e.given) t
