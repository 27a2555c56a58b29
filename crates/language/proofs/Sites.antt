-- What the machine builds of a tree that fits is the cell of that tree.
use Rattle.std.specs.Prelude.{◌≡◌, refl, ◌≢◌, true, false, List, [], ◌∷◌, leb, length}
use Rattle.std.proofs.Math.Path.{ap}
use Rattle.std.proofs.Common.{◌∙◌, arith, leb-true}
use Prim.Native.Nat.{ℕ, ◌+◌, ◌-◌, ◌≤◌, ◌<◌}
use Rattle.std.proofs.lemmas.Bool.{lt-leb}
use Rattle.table.proofs.BaseLaws.{and_left, and_right, upd_same, upd_other}
use Rattle.table.specs.Cell.{State}
use Rattle.table.specs.declared.Name.{Name}
use Rattle.meaning.specs.File.{add_place, add_agent, add_action, with_action}
use Rattle.language.specs.Grammar.{TypedAction, TypedAgent, Contents, nothing, agent, place, name_of}
use Rattle.language.specs.Read.{Site, site_agent, site_action, site_place, site_end, site}
use Rattle.language.specs.Built.{actions_built, agent_built, built}
use Rattle.language.specs.Layout.{places_in, agents_in, rows_fit, Laid, lay_actions, lay_agent, lay_place, lay}

-- ---- the site of a layout

-- the site that has built l, reading the contents of p
abbrev pub site_of : Laid → ℕ → Site
site_of l p = record { cell = l.cell; places = l.places; agents = l.agents; here = p; over = false }

-- agents that are not there yet have no action
pub record Unbegun (l : Laid) : Type 0 where
  pub empty : (x : ℕ) → l.agents ≤ x → x < 64 → (l.cell.agent x).count ≡ 0

-- it fits beside what is laid already
pub record Fits (l : Laid) (c : Contents) : Type 0 where
  pub places : l.places + places_in c ≤ 63
  pub agents : l.agents + agents_in c ≤ 64
  pub rows : rows_fit c ≡ true

-- ---- an agent's actions

-- an action more
pub count_added : (c : State) (x k v : ℕ) → ((add_action c x k v).agent x).count ≡ (c.agent x).count + 1
unfolding add_action with_action
count_added c x k v = ap (λ a. a.count) (upd_same c.agent x _)

-- other agents stay
other_added : (c : State) (x y k v : ℕ) → y ≢ x → (add_action c x k v).agent y ≡ c.agent y
unfolding add_action
other_added c x y k v n = upd_other c.agent x y _ n

-- places stay
land_added : (c : State) (x k v : ℕ) → (add_action c x k v).land ≡ c.land
unfolding add_action
land_added c x k v = refl

-- other agents stay, whatever the actions
pub actions_other : (ds : List TypedAction) (c : State) (x y : ℕ) → y ≢ x → (lay_actions x ds c).agent y ≡ c.agent y
unfolding lay_actions
actions_other [] c x y n = refl
actions_other (a ∷ ds) c x y n = actions_other ds (add_action c x a.kind a.number.value) x y n
    ∙ other_added c x y a.kind a.number.value n

-- and places
pub actions_land : (ds : List TypedAction) (c : State) (x : ℕ) → (lay_actions x ds c).land ≡ c.land
unfolding lay_actions
actions_land [] c x = refl
actions_land (a ∷ ds) c x = actions_land ds (add_action c x a.kind a.number.value) x ∙ land_added c x a.kind a.number.value

-- the site whose latest agent is x
abbrev pub site_at : State → ℕ → ℕ → ℕ → Site
site_at c n x p = record { cell = c; places = n; agents = x + 1; here = p; over = false }

-- the latest agent is the one that was added last
pub last_agent : (x : ℕ) → x + 1 - 1 ≡ x
last_agent x = omega arith

-- an action that has room is added
pub action_laid : (c : State) (n x p k v : ℕ) → (c.agent x).count < 16 → site_action k v (site_at c n x p) ≡ site_at (add_action c x k v) n x p
unfolding site_action
action_laid c n x p k v l = rw (last_agent x, lt-leb 16 (c.agent x).count l)

-- as many as have room
pub actions_laid : (ds : List TypedAction) (c : State) (n x p : ℕ) → (c.agent x).count + length ds ≤ 16
    → actions_built site ds (site_at c n x p) ≡ site_at (lay_actions x ds c) n x p
unfolding actions_built lay_actions
actions_laid [] c n x p l = refl
actions_laid (a ∷ ds) c n x p l =
    ap (actions_built site ds) (action_laid c n x p a.kind a.number.value (omega arith))
    ∙ actions_laid ds (add_action c x a.kind a.number.value) n x p (let e = count_added c x a.kind a.number.value in omega arith)

-- ---- an agent

-- an agent that has room is added
pub agent_laid : (l : Laid) (p : ℕ) → l.agents < 64 → site_agent (site_of l p) ≡ site_at (add_agent l.cell l.agents p) l.places l.agents p
unfolding site_agent
agent_laid l p h = rw (lt-leb 64 l.agents h)

-- it has no more actions than before
pub new_count : (c : State) (x p : ℕ) → ((add_agent c x p).agent x).count ≡ (c.agent x).count
unfolding add_agent
new_count c x p = ap (λ a. a.count) (upd_same c.agent x _)

-- an agent with its actions
pub row_laid : (r : TypedAgent) (l : Laid) (p : ℕ) → Unbegun l → l.agents < 64 → length r.further ≤ 15
    → agent_built site r (site_of l p) ≡ site_of (lay_agent p r l) p
unfolding agent_built lay_agent
row_laid r l p u h m =
    ap (actions_built site (r.first ∷ r.further)) (agent_laid l p h)
    ∙ actions_laid (r.first ∷ r.further) (add_agent l.cell l.agents p) l.places l.agents p
    (let e = new_count l.cell l.agents p in let z = u.empty l.agents (omega arith) h in omega arith)

-- ---- what is laid later

-- after more is laid: counts, agents not there yet, and places that were there
pub record Later (p : ℕ) (c : Contents) (l : Laid) : Type 0 where
  pub same : built site c (site_of l p) ≡ site_of (lay p c l) p
  pub places : (lay p c l).places ≡ l.places + places_in c
  pub agents : (lay p c l).agents ≡ l.agents + agents_in c
  pub unbegun : Unbegun (lay p c l)
  pub kept : (q : ℕ) → q ≤ l.places → (lay p c l).cell.land.place q ≡ l.cell.land.place q

-- agents after it are not there yet
pub row_unbegun : (r : TypedAgent) (l : Laid) (p : ℕ) → Unbegun l → Unbegun (lay_agent p r l)
unfolding lay_agent
row_unbegun r l p u = record {
  empty = λ x m h. ap (λ a. a.count) (actions_other (r.first ∷ r.further) (add_agent l.cell l.agents p)
      l.agents x (λ e. omega arith) ∙ other x (λ e. omega arith)) ∙ u.empty x (omega arith) h;
}
  where
    other : (x : ℕ) → x ≢ l.agents → (add_agent l.cell l.agents p).agent x ≡ l.cell.agent x
    other x n = unfold add_agent in upd_other l.cell.agent l.agents x _ n

-- an agent leaves the places
row_kept : (r : TypedAgent) (l : Laid) (p : ℕ) → (lay_agent p r l).cell.land ≡ l.cell.land
unfolding lay_agent
row_kept r l p = actions_land (r.first ∷ r.further) (add_agent l.cell l.agents p) l.agents ∙ (unfold add_agent in refl)

-- a place that has room is added
pub place_laid : (l : Laid) (p : ℕ) (n : Name) → l.places < 63 → site_place n (site_of l p) ≡ site_of (lay_place p n l) (l.places + 1)
unfolding site_place lay_place
place_laid l p n h = rw (lt-leb 63 l.places h)

-- it changes no agent
pub place_unbegun : (l : Laid) (p : ℕ) (n : Name) → Unbegun l → Unbegun (lay_place p n l)
unfolding lay_place add_place
place_unbegun l p n u = record { empty = u.empty }

-- nor the places before it
place_kept : (l : Laid) (p : ℕ) (n : Name) (q : ℕ) → q ≤ l.places → (lay_place p n l).cell.land.place q ≡ l.cell.land.place q
unfolding lay_place add_place
place_kept l p n q h = upd_other l.cell.land.place (l.places + 1) q _ (λ e. omega arith)

-- and stands where it was read
pub place_parent : (l : Laid) (p : ℕ) (n : Name) → ((lay_place p n l).cell.land.place (l.places + 1)).parent ≡ p
unfolding lay_place add_place
place_parent l p n = ap (λ x. x.parent) (upd_same l.cell.land.place (l.places + 1) _)

-- what fits is laid as the tree says
pub laid : (c : Contents) (l : Laid) (p : ℕ) → Unbegun l → Fits l c → Later p c l
unfolding built lay places_in agents_in rows_fit
laid nothing l p u f = record { same = refl; places = omega arith; agents = omega arith; unbegun = u; kept = λ q h. refl }
laid (agent r c) l p u f = go (laid c (lay_agent p r l) p (row_unbegun r l p u)
    (record { places = placed; agents = agented; rows = and_right (leb (length r.further) 15) _ f.rows }))
  where
    placed : (lay_agent p r l).places + places_in c ≤ 63
    placed = unfold lay_agent in f.places

    agented : (lay_agent p r l).agents + agents_in c ≤ 64
    agented = unfold lay_agent in omega (arith, f.agents)

    go : Later p c (lay_agent p r l) → Later p (agent r c) l
    go t = record {
      same = ap (built site c) (row_laid r l p u (omega (arith, f.agents)) (leb-true (length r.further) 15 (and_left _ _ f.rows))) ∙ t.same;
      places = t.places ∙ (unfold lay_agent in refl);
      agents = t.agents ∙ (unfold lay_agent in omega arith);
      unbegun = t.unbegun;
      kept = λ q h. t.kept q (unfold lay_agent in h) ∙ ap (λ z. z.place q) (row_kept r l p);
    }
laid (place w c e) l p u f = go (laid c l1 n (place_unbegun l p (name_of w) u)
    (record {
      places = unfold lay_place in omega (arith, f.places);
      agents = unfold lay_place in omega (arith, f.agents);
      rows = and_left _ _ f.rows;
    }))
    (λ k h. laid e (lay n c l1) p k h)
  where
    n : ℕ
    n = l.places + 1

    l1 : Laid
    l1 = lay_place p (name_of w) l

    go : Later n c l1 → (Unbegun (lay n c l1) → Fits (lay n c l1) e → Later p e (lay n c l1)) → Later p (place w c e) l
    go t next = record {
      same = ap (λ x. built site e (site_end (built site c x))) (place_laid l p (name_of w) (omega (arith, f.places)))
          ∙ ap (λ x. built site e (site_end x)) t.same
          ∙ ap (built site e) back
          ∙ r.same;
      places = r.places ∙ (unfold lay_place in omega (arith, t.places));
      agents = r.agents ∙ (unfold lay_place in omega (arith, t.agents));
      unbegun = r.unbegun;
      kept = λ q h. r.kept q (omega (arith, before)) ∙ t.kept q (unfold lay_place in omega arith) ∙ place_kept l p (name_of w) q h;
    }
      where
        before : (lay n c l1).places ≡ l.places + 1 + places_in c
        before = t.places ∙ (unfold lay_place in refl)

        r : Later p e (lay n c l1)
        r = next t.unbegun (record {
          places = omega (arith, before, f.places);
          agents = unfold lay_place in omega (arith, t.agents, f.agents);
          rows = and_right (rows_fit c) _ f.rows;
        })

        back : site_end (site_of (lay n c l1) n) ≡ site_of (lay n c l1) p
        back = unfold site_end in ap (site_of (lay n c l1)) (ap (λ x. x.parent) (t.kept n (unfold lay_place in omega arith))
            ∙ place_parent l p (name_of w))
