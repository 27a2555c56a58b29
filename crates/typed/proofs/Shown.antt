-- The cell of a tree that fits shows the tree.
-- Idea: what is laid later keeps what was laid before (`Holds`, backwards over `lay`), so each number reads in the last cell as it did when it
-- was laid.
use Rattle.std.specs.Prelude.{◌≡◌, true, ℕ, ◌+◌, ◌≤◌, ◌<◌, length}
use Rattle.std.proofs.Math.Path.{refl, ap}
use Rattle.std.proofs.Common.{sym, ◌∙◌, arith, eq-eqb, ne_eqb}
use mathlib.Core.List.{List, [], ◌∷◌, ◌++◌, append_assoc, append-nil}
use Rattle.std.proofs.Math.ListN.{length-set}
use Rattle.table.specs.Base.{tab}
use Rattle.table.proofs.BaseLaws.{upd_same, upd_other}
use Rattle.table.specs.Cell.{State, fresh_agent, row_end, unused}
use Rattle.table.specs.declared.Name.{Name}
use Rattle.table.specs.declared.Agent.{Agent}
use Rattle.meaning.specs.Update.{linked_place, with_home}
use Rattle.meaning.specs.File.{add_place, add_agent, with_action, add_action}
use Rattle.meaning.specs.Plain.{tree_of}
use Rattle.calculus.proofs.MoveCases.{Stands}
use Rattle.demands.proofs.Actions.{unused_more}
use Rattle.language.specs.Grammar.{TypedAction, TypedAgent, Contents, nothing, agent, place, action_of, name_of}
use Rattle.language.specs.Layout.{Laid, lay_actions, lay_agent, lay_place, lay}
use Rattle.language.proofs.Sites.{actions_other, actions_land}
use Rattle.typed.proofs.Numbered.{given_same, Ready, agent_room, row_room, ready_agent, ready_inside, ready_beside, numbered}
use Rattle.typed.specs.TermTyped.{actions_of}
use Rattle.typed.proofs.Shows.{Shows, shows_nothing, shows_agent, shows_place}

-- ---- an agent's actions

-- an agent with these actions more
acted : List TypedAction → Agent → Agent
acted [] a = a
acted (d ∷ ds) a = acted ds (with_action a d.kind d.number.value)

-- so is an agent in the cell with actions laid
actions_acted : (ds : List TypedAction) (c : State) (x : ℕ) → (lay_actions x ds c).agent x ≡ acted ds (c.agent x)
unfolding lay_actions acted
actions_acted [] c x = refl
actions_acted (a ∷ ds) c x = actions_acted ds (add_action c x a.kind a.number.value) x
    ∙ ap (acted ds) (unfold add_action in upd_same c.agent x _)

-- these actions more are the last ones
acted_unused : (ds : List TypedAction) (a : Agent) → a.next ≤ a.count → a.count + length ds ≤ 16 → length a.actions ≡ 16
    → unused (acted ds a) ≡ unused a ++ actions_of ds
unfolding acted actions_of action_of
acted_unused [] a l h w = sym (append-nil (unused a))
acted_unused (d ∷ ds) a l h w =
    acted_unused ds (with_action a d.kind d.number.value) (unfold with_action in omega arith) (unfold with_action in omega arith)
    (unfold with_action in length-set a.actions a.count (record { kind = d.kind; name = d.number.value }) ∙ w)
    ∙ ap (λ s. s ++ actions_of ds) (unused_more a d.kind d.number.value l (omega arith) w)
    ∙ append_assoc (unused a) _ (actions_of ds)

-- and it lives where it did
acted_home : (ds : List TypedAction) (a : Agent) → (acted ds a).home ≡ a.home
unfolding acted
acted_home [] a = refl
acted_home (d ∷ ds) a = acted_home ds (with_action a d.kind d.number.value) ∙ (unfold with_action in refl)

-- ---- later cells keep what was laid

-- d has what is laid in l
pub record Holds (d : State) (l : Laid) : Type 0 where
  pub place : (q : ℕ) → q ≤ l.places → d.land.place q ≡ l.cell.land.place q
  pub used : (q : ℕ) → q ≤ l.places → d.land.used q ≡ l.cell.land.used q
  pub agent : (x : ℕ) → x < l.agents → d.agent x ≡ l.cell.agent x
  pub given : (x : ℕ) → x < l.agents → d.given x ≡ l.cell.given x

module _ (d : State) where
  -- an agent that was laid
  keep_agent : (r : TypedAgent) (l : Laid) (p : ℕ) → Holds d (lay_agent p r l) → Holds d l
  unfolding lay_agent
  keep_agent r l p k = record {
    place = λ q h. k.place q h ∙ ap (λ z. z.place q) land;
    used = λ q h. k.used q h ∙ ap (λ z. z.used q) land;
    agent = λ x h. k.agent x (omega arith) ∙ actions_other (r.first ∷ r.further) new l.agents x (λ e. omega arith)
        ∙ (unfold add_agent in upd_other l.cell.agent l.agents x _ (λ e. omega arith));
    given = λ x h. k.given x (omega arith) ∙ ap (λ z. z x) (given_same (r.first ∷ r.further) new l.agents)
        ∙ (unfold add_agent in rw (ne_eqb x l.agents (λ e. omega arith)));
  }
    where
      new : State
      new = add_agent l.cell l.agents p

      land : (lay_actions l.agents (r.first ∷ r.further) new).land ≡ l.cell.land
      land = actions_land (r.first ∷ r.further) new l.agents ∙ (unfold add_agent in refl)

  -- a place
  keep_place : (l : Laid) (p : ℕ) (n : Name) → Holds d (lay_place p n l) → Holds d l
  unfolding lay_place add_place
  keep_place l p n k = record {
    place = λ q h. k.place q (omega arith) ∙ upd_other l.cell.land.place (l.places + 1) q _ (λ e. omega arith);
    used = λ q h. k.used q (omega arith) ∙ rw (ne_eqb q (l.places + 1) (λ e. omega arith));
    agent = k.agent;
    given = k.given;
  }

  -- contents
  keep_lay : (c : Contents) (l : Laid) (p : ℕ) → Holds d (lay p c l) → Holds d l
  unfolding lay
  keep_lay nothing l p k = k
  keep_lay (agent r c) l p k = keep_agent r l p (keep_lay c (lay_agent p r l) p k)
  keep_lay (place w c e) l p k =
      keep_place l p (name_of w) (keep_lay c (lay_place p (name_of w) l) (l.places + 1)
      (keep_lay e (lay (l.places + 1) c (lay_place p (name_of w) l)) p k))

  -- ---- what is laid shows

  -- an agent is given
  row_given : (r : TypedAgent) (l : Laid) (p : ℕ) → Holds d (lay_agent p r l) → d.given l.agents ≡ true
  unfolding lay_agent
  row_given r l p k = k.given l.agents (omega arith)
      ∙ ap (λ z. z l.agents) (given_same (r.first ∷ r.further) (add_agent l.cell l.agents p) l.agents)
      ∙ (unfold add_agent in rw (eq-eqb l.agents l.agents refl))

  -- with its actions
  row_agent : (r : TypedAgent) (l : Laid) (p : ℕ) → Holds d (lay_agent p r l)
      → d.agent l.agents ≡ acted (r.first ∷ r.further) (with_home (l.cell.agent l.agents) p)
  unfolding lay_agent
  row_agent r l p k = k.agent l.agents (omega arith)
      ∙ actions_acted (r.first ∷ r.further) (add_agent l.cell l.agents p) l.agents
      ∙ ap (acted (r.first ∷ r.further)) (unfold add_agent in upd_same l.cell.agent l.agents _)

  -- it lives where it is typed
  row_home : (r : TypedAgent) (l : Laid) (p : ℕ) → Holds d (lay_agent p r l) → (tree_of d).home l.agents ≡ p
  unfolding tree_of
  row_home r l p k = rw (row_given r l p k) (ap (λ a. a.home) (row_agent r l p k)
      ∙ acted_home (r.first ∷ r.further) (with_home (l.cell.agent l.agents) p))

  -- and has the actions that are typed
  row_unused : (r : TypedAgent) (l : Laid) (p : ℕ) → Holds d (lay_agent p r l) → l.cell.agent l.agents ≡ fresh_agent → length r.further ≤ 15
      → (tree_of d).unused l.agents ≡ actions_of (r.first ∷ r.further)
  unfolding tree_of
  row_unused r l p k f h = rw (row_given r l p k)
      (ap unused (row_agent r l p k ∙ ap (λ a. acted (r.first ∷ r.further) (with_home a p)) f)
      ∙ acted_unused (r.first ∷ r.further) (with_home fresh_agent p) (omega arith) (omega arith) refl
      ∙ (unfold unused in unfold row_end in unfold tab in refl))

  -- a place is in use
  place_used : (l : Laid) (p : ℕ) (n : Name) → Holds d (lay_place p n l) → d.land.used (l.places + 1) ≡ true
  unfolding lay_place add_place
  place_used l p n k = k.used (l.places + 1) (omega arith) ∙ rw (eq-eqb (l.places + 1) (l.places + 1) refl)

  -- as it was made
  place_made : (l : Laid) (p : ℕ) (n : Name) → Holds d (lay_place p n l) → d.land.place (l.places + 1) ≡ linked_place n p
  unfolding lay_place add_place
  place_made l p n k = k.place (l.places + 1) (omega arith) ∙ upd_same l.cell.land.place (l.places + 1) _

  -- it stands where it is typed
  place_stands : (l : Laid) (p : ℕ) (n : Name) → Holds d (lay_place p n l) → Stands (tree_of d) (l.places + 1) p
  unfolding tree_of
  place_stands l p n k = record {
    used = place_used l p n k;
    placed = λ e. omega arith;
    parent = rw (place_used l p n k) (ap (λ x. x.parent) (place_made l p n k));
  }

  -- with the name and keys that are typed
  place_name : (l : Laid) (p : ℕ) (n : Name) → Holds d (lay_place p n l) → (tree_of d).name (l.places + 1) ≡ n
  unfolding tree_of
  place_name l p n k = rw (place_used l p n k) (ap (λ x. x.name) (place_made l p n k))

  -- so every part shows
  pub shown : (c : Contents) (l : Laid) (p : ℕ) → Ready p c l → Holds d (lay p c l)
      → Shows (tree_of d) p c l.places l.agents (lay p c l).places (lay p c l).agents
  unfolding lay
  shown nothing l p y k = shows_nothing
  shown (agent r c) l p y k =
      let j = keep_lay c (lay_agent p r l) p k in
      shows_agent (row_home r l p j)
      (row_unused r l p j (y.numbered.fresh.no_agents l.agents (agent_room r c l p y) (y.numbered.ungiven l.agents (omega arith)))
      (row_room r c l p y))
      (unfold lay_agent in shown c (lay_agent p r l) p (ready_agent r c l p y) k)
  shown (place w c e) l p y k =
      let n = name_of w in
      let i = ready_inside w c e l p y in
      let g = keep_lay e (lay (l.places + 1) c (lay_place p n l)) p k in
      let j = keep_lay c (lay_place p n l) (l.places + 1) g in
      shows_place (place_stands l p n j) (place_name l p n j)
      (unfold lay_place in shown c (lay_place p n l) (l.places + 1) i g)
      (shown e (lay (l.places + 1) c (lay_place p n l)) p (ready_beside w c e l p y (numbered c (lay_place p n l) (l.places + 1) i)) k)
