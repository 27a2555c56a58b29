-- What the machine builds is over exactly if the tree does not fit: too many of anything stays too many, and what is not over had room.
use Rattle.std.specs.Prelude.{◌≡◌, refl, Bool, true, false, not, cond, List, [], ◌∷◌, leb, length}
use Rattle.std.proofs.Common.{sym, ◌∙◌, arith, leb-true, leb-false, le-leb}
use Rattle.std.proofs.Math.Path.{ap, ap₂}
use Rattle.std.proofs.Math.Bool.{◌&&◌}
use Prim.Native.Nat.{ℕ, ◌+◌, ◌-◌, ◌≤◌, ◌<◌}
use Rattle.table.proofs.BaseLaws.{Told, yea, nay, told, clash, and_left, and_right}
use Rattle.table.specs.Cell.{State}
use Rattle.table.specs.declared.Name.{Name}
use Rattle.meaning.specs.File.{add_place, add_agent, add_action, is_full}
use Rattle.meaning.proofs.FileLaws.{bare_agent}
use Rattle.language.specs.Grammar.{TypedAction, TypedAgent, Contents, nothing, agent, place, name_of}
use Rattle.language.specs.Read.{Site, overfull, site_agent, site_action, site_place, site_end, site, bare_site}
use Rattle.language.specs.Built.{actions_built, agent_built, built}
use Rattle.language.specs.Layout.{places_in, agents_in, rows_fit, fits, Laid, lay_agent, lay_place, lay, bare_laid, layout}
use Rattle.language.proofs.Sites.{site_of, site_at, Unbegun, Fits, Later, count_added, new_count, last_agent, action_laid, agent_laid, row_laid}
use Rattle.language.proofs.Sites.{row_unbegun}
use Rattle.language.proofs.Sites.{place_laid, place_unbegun, place_parent, laid}

-- ---- too many stays too many

-- an agent more
agent_over : (x : Site) → x.over ≡ true → (site_agent x).over ≡ true
unfolding site_agent
agent_over x e = go (leb 64 x.agents)
  where
    go : (b : Bool) → (cond b (overfull x) (record {
      cell = add_agent x.cell x.agents x.here;
      places = x.places;
      agents = x.agents + 1;
      here = x.here;
      over = x.over;
    })).over ≡ true
    go true = refl
    go false = e

-- an action more
action_over : (k v : ℕ) (x : Site) → x.over ≡ true → (site_action k v x).over ≡ true
unfolding site_action
action_over k v x e = go (is_full x.cell (x.agents - 1))
  where
    go : (b : Bool) → (cond b (overfull x) (record {
      cell = add_action x.cell (x.agents - 1) k v;
      places = x.places;
      agents = x.agents;
      here = x.here;
      over = x.over;
    })).over ≡ true
    go true = refl
    go false = e

-- a place more
place_over : (n : Name) (x : Site) → x.over ≡ true → (site_place n x).over ≡ true
unfolding site_place
place_over n x e = go (leb 63 x.places)
  where
    go : (t : Bool) → (cond t (overfull x) (record {
      cell = add_place x.cell (x.places + 1) x.here n;
      places = x.places + 1;
      agents = x.agents;
      here = x.places + 1;
      over = x.over;
    })).over ≡ true
    go true = refl
    go false = e

-- more actions
actions_over : (ds : List TypedAction) (x : Site) → x.over ≡ true → (actions_built site ds x).over ≡ true
unfolding actions_built
actions_over [] x e = e
actions_over (a ∷ ds) x e = actions_over ds (site_action a.kind a.number.value x) (action_over a.kind a.number.value x e)

-- more contents
built_over : (c : Contents) (x : Site) → x.over ≡ true → (built site c x).over ≡ true
unfolding built agent_built site_end
built_over nothing x e = e
built_over (agent r c) x e = built_over c _ (actions_over (r.first ∷ r.further) (site_agent x) (agent_over x e))
built_over (place w c k) x e = built_over k _ (built_over c (site_place (name_of w) x) (place_over (name_of w) x e))

-- what is not over was not over before
before : (x : Site) {b : Bool} → (x.over ≡ true → b ≡ true) → b ≡ false → x.over ≡ false
before x h e = go (told x.over)
  where
    go : Told x.over → x.over ≡ false
    go (yea t) = clash (h t) e
    go (nay t) = t

-- ---- what is not over fits

-- an agent
agent_room : (l : Laid) (p : ℕ) → (site_agent (site_of l p)).over ≡ false → l.agents < 64
unfolding site_agent
agent_room l p e = go (told (leb 64 l.agents))
  where
    go : Told (leb 64 l.agents) → l.agents < 64
    go (yea t) = clash refl (sym (ap (λ b. (cond b (overfull (site_of l p))
        (record { cell = add_agent l.cell l.agents p; places = l.places; agents = l.agents + 1; here = p; over = false })).over) t) ∙ e)
    go (nay t) = leb-false 64 l.agents t

-- a place
place_room : (l : Laid) (p : ℕ) (n : Name) → (site_place n (site_of l p)).over ≡ false → l.places < 63
unfolding site_place lay_place
place_room l p n e = go (told (leb 63 l.places))
  where
    go : Told (leb 63 l.places) → l.places < 63
    go (yea t) = clash refl (sym (ap (λ b. (cond b (overfull (site_of l p)) (site_of (lay_place p n l) (l.places + 1))).over) t) ∙ e)
    go (nay t) = leb-false 63 l.places t

-- an action
action_room : (c : State) (n x p k v : ℕ) → (site_action k v (site_at c n x p)).over ≡ false → (c.agent x).count < 16
unfolding site_action
action_room c n x p k v e = go (told (is_full c (x + 1 - 1)))
  where
    go : Told (is_full c (x + 1 - 1)) → (c.agent x).count < 16
    go (yea t) = clash refl (sym (ap (λ b. (cond b (overfull (site_at c n x p)) (site_at (add_action c (x + 1 - 1) k v) n x p)).over) t) ∙ e)
    go (nay t) = leb-false 16 (c.agent x).count (ap (is_full c) (sym (last_agent x)) ∙ t)

-- an agent's actions
actions_room : (ds : List TypedAction) (c : State) (n x p : ℕ) → (actions_built site ds (site_at c n x p)).over ≡ false → (c.agent x).count ≤ 16
    → (c.agent x).count + length ds ≤ 16
unfolding actions_built
actions_room [] c n x p e l = omega arith
actions_room (a ∷ ds) c n x p e l =
    let k = action_room c n x p a.kind a.number.value (before (site_action a.kind a.number.value (site_at c n x p))
    (actions_over ds _) e) in
    let q = count_added c x a.kind a.number.value in
    let r = actions_room ds (add_action c x a.kind a.number.value) n x p
    (sym (ap (λ z. (actions_built site ds z).over) (action_laid c n x p a.kind a.number.value k)) ∙ e) (omega arith) in
    omega arith

-- an agent with its actions
row_room : (r : TypedAgent) (l : Laid) (p : ℕ) → Unbegun l → (agent_built site r (site_of l p)).over ≡ false
    → (l.agents < 64) × (length r.further ≤ 15)
unfolding agent_built
row_room r l p u e =
    let a = agent_room l p (before (site_agent (site_of l p)) (actions_over (r.first ∷ r.further) _) e) in
    let c = new_count l.cell l.agents p in
    let z = u.empty l.agents (omega arith) a in
    let d = actions_room (r.first ∷ r.further) (add_agent l.cell l.agents p) l.places l.agents p
    (sym (ap (λ x. (actions_built site (r.first ∷ r.further) x).over) (agent_laid l p a)) ∙ e) (omega arith) in
    (a, omega arith)

-- contents
room : (c : Contents) (l : Laid) (p : ℕ) → Unbegun l → l.places ≤ 63 → l.agents ≤ 64 → (built site c (site_of l p)).over ≡ false → Fits l c
unfolding built lay places_in agents_in rows_fit site_end
room nothing l p u a b e = record { places = omega arith; agents = omega arith; rows = refl }
room (agent r c) l p u a b e =
    let k = row_room r l p u (before (agent_built site r (site_of l p)) (built_over c _) e) in
    let f = room c (lay_agent p r l) p (row_unbegun r l p u) (unfold lay_agent in a) (unfold lay_agent in omega (arith, k.0))
    (sym (ap (λ z. (built site c z).over) (row_laid r l p u k.0 k.1)) ∙ e) in
    record {
      places = unfold lay_agent in f.places;
      agents = unfold lay_agent in omega (arith, f.agents);
      rows = ap₂ ◌&&◌ (le-leb (length r.further) 15 k.1) f.rows;
    }
room (place w c k) l p u a b e = go (room c l1 n (place_unbegun l p (name_of w) u) (unfold lay_place in omega (arith, low)) (unfold lay_place in b)
    (sym (ap (λ z. (built site c z).over) (place_laid l p (name_of w) low)) ∙ inner)) (λ v x y z. room k (lay n c l1) p v x y z)
  where
    n : ℕ
    n = l.places + 1

    l1 : Laid
    l1 = lay_place p (name_of w) l

    -- up to the end of the place nothing was too many
    inner : (built site c (site_place (name_of w) (site_of l p))).over ≡ false
    inner = before (site_end (built site c (site_place (name_of w) (site_of l p)))) (built_over k _) e

    low : l.places < 63
    low = place_room l p (name_of w) (before (site_place (name_of w) (site_of l p)) (built_over c _) inner)

    go : Fits l1 c → (Unbegun (lay n c l1) → (lay n c l1).places ≤ 63 → (lay n c l1).agents ≤ 64 → (built site k (site_of (lay n c l1) p)).over ≡ false
        → Fits (lay n c l1) k)
        → Fits l (place w c k)
    go f next = record {
      places = unfold lay_place in omega (arith, g.places, t.places);
      agents = unfold lay_place in omega (arith, g.agents, t.agents);
      rows = ap₂ ◌&&◌ f.rows g.rows;
    }
      where
        t : Later n c l1
        t = laid c l1 n (place_unbegun l p (name_of w) u) f

        back : site_end (site_of (lay n c l1) n) ≡ site_of (lay n c l1) p
        back = unfold site_end in ap (site_of (lay n c l1)) (ap (λ x. x.parent) (t.kept n (unfold lay_place in omega arith))
            ∙ place_parent l p (name_of w))

        g : Fits (lay n c l1) k
        g = next t.unbegun (omega (arith, t.places, f.places)) (omega (arith, t.agents, f.agents))
            (sym (ap (λ z. (built site k z).over)
            (ap (λ x. site_end (built site c x)) (place_laid l p (name_of w) low) ∙ ap site_end t.same ∙ back)) ∙ e)

-- ---- from the bare floor

-- no agent is there yet
pub bare_unbegun : Unbegun bare_laid
unfolding bare_laid
bare_unbegun = record { empty = λ x m h. ap (λ a. a.count) (bare_agent x h) }

-- the test, as counts beside nothing
pub fits_from : (c : Contents) → fits c ≡ true → Fits bare_laid c
unfolding fits bare_laid
fits_from c t = record {
  places = omega (arith, leb-true (places_in c) 63 (and_left _ _ t));
  agents = omega (arith, leb-true (agents_in c) 64 (and_left _ _ (and_right (leb (places_in c) 63) _ t)));
  rows = and_right (leb (agents_in c) 64) _ (and_right (leb (places_in c) 63) _ t);
}

-- and back
from_fits : (c : Contents) → Fits bare_laid c → fits c ≡ true
unfolding fits bare_laid
from_fits c f = rw (le-leb (places_in c) 63 (omega (arith, f.places)), le-leb (agents_in c) 64 (omega (arith, f.agents))) f.rows

-- nothing is read before the first byte
bare_site_lem : bare_site ≡ site_of bare_laid 0
unfolding bare_site bare_laid
bare_site_lem = refl

-- too many of anything exactly if it does not fit
pub over_fits : (c : Contents) → (built site c bare_site).over ≡ not (fits c)
over_fits c = go (told (fits c)) (told (built site c bare_site).over)
  where
    go : Told (fits c) → Told (built site c bare_site).over → (built site c bare_site).over ≡ not (fits c)
    go (yea t) q = ap (λ x. (built site c x).over) bare_site_lem ∙ ap (λ x. x.over) (laid c bare_laid 0 bare_unbegun (fits_from c t)).same
        ∙ ap not (sym t)
    go (nay t) (yea q) = q ∙ ap not (sym t)
    go (nay t) (nay q) = clash (from_fits c (room c bare_laid 0 bare_unbegun (unfold bare_laid in omega arith) (unfold bare_laid in omega arith)
        (sym (ap (λ x. (built site c x).over) bare_site_lem) ∙ q))) t

-- what fits is laid as the tree says
pub site_laid : (c : Contents) → fits c ≡ true → (built site c bare_site).cell ≡ layout c
unfolding layout
site_laid c t = ap (λ x. (built site c x).cell) bare_site_lem ∙ ap (λ x. x.cell) (laid c bare_laid 0 bare_unbegun (fits_from c t)).same
