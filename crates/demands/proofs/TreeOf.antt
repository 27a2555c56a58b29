-- How the tree of a cell reads after each kind of step: only leaving, opening and putting out change it, as the calculus says.
-- The tree is read off the places and the agents, and a step changes the homes and the unused actions of no other agent, but for opening.
use Rattle.std.specs.Prelude.{◌≡◌, ◌≢◌, true, cond, ℕ, eqb}
use Rattle.std.proofs.Math.Path.{refl, sym, ap, fun_ext}
use Rattle.std.proofs.Common.{◌∙◌, ⊎_elim, eq-eqb, ne_eqb}
use Rattle.table.specs.Base.{upd}
use Rattle.table.proofs.BaseLaws.{upd_same, upd_other, upd_all}
use Rattle.table.specs.Cell.{Land, State, plain_name, next_action, name_of, unused}
use Rattle.table.specs.declared.Agent.{Agent}
use Rattle.meaning.specs.Update.{at_stage, use_up, with_locks}
use Rattle.meaning.specs.Step.{dissolve_agent, put, put_land, leave, dissolve, arrive, send_to, link_up, dissolve_land, rest_stage, beyond}
use Rattle.meaning.specs.Calculus.{Tree, with_tree_used, with_tree_names, with_tree_parents, with_tree_homes, with_tree_unused, first_of, rest_of, put_into, open_up, put_out}
use Rattle.meaning.specs.Plain.{tree_from, tree_of}
use Rattle.demands.specs.Reading.{parent_in, name_in, agent_in}
use Rattle.demands.proofs.ReadingLaws.{parent_put, name_put, parent_sent, name_sent, parent_linked, name_linked, used_dissolved, name_dissolved}
use Rattle.demands.proofs.ReadingLaws.{parent_dissolved, agent_given, agent_turned, wake_agent, agent_woken, agent_dissolved}
use Rattle.demands.specs.Invariant.{Fit}
use Rattle.demands.specs.Ways.{goes_on}
use Rattle.demands.proofs.Actions.{first_unused, rest_unused}
use Rattle.demands.proofs.Frame.{rouses, roused_home, roused_unused}
use Rattle.demands.proofs.OpeningAgents.{dissolved, home_after, unused_same}
use Rattle.demands.proofs.SameTree.{tree_home, tree_unused}

-- the tree of places and agents as they are read
unfoldable pub read_tree : Land → (ℕ → Agent) → Tree
read_tree l agents = tree_from l (λ x. (agents x).home) (λ x. unused (agents x))

-- the tree of a cell is read off it
pub tree_read : (c : State) → tree_of c ≡ read_tree c.land (agent_in c)
unfolding tree_of read_tree parent_in name_in
tree_read c = λ j. with_tree_unused (with_tree_homes (tree_of c) (fun_ext (tree_home c) j)) (fun_ext (tree_unused c) j)

-- agents with the same homes and unused actions give the same tree
same_tree : (l : Land) (f h : ℕ → Agent) → ((y : ℕ) → (h y).home ≡ (f y).home) → ((y : ℕ) → unused (h y) ≡ unused (f y)) → read_tree l h ≡ read_tree l f
unfolding read_tree
same_tree l f h homes rows = λ j. with_tree_unused (with_tree_homes (read_tree l f) (fun_ext homes j)) (fun_ext rows j)

-- an agent of a place that is dissolved goes to p
dissolved_home : (p t : ℕ) (a : Agent) → (dissolve_agent p t a).home ≡ cond (eqb a.home t) p a.home
dissolved_home p t a = ⊎_elim (λ e. e.1 ∙ sym (rw (eq-eqb a.home t e.0))) (λ e. e.1 ∙ sym (rw (ne_eqb a.home t e.0)))
    (home_after (dissolved p t a))

-- ---- the step of agent x

module _ (c : State) (x : ℕ) (g : c.given x ≡ true) where
  abbrev own : Agent
  own = c.agent x

  same_own : agent_in c x ≡ own
  same_own = agent_given c x g

  -- one agent changes and keeps its home
  turned_home : (h : ℕ → Agent) (b : Agent) → b.home ≡ own.home → ((y : ℕ) → (h y).home ≡ (agent_in c y).home)
      → (y : ℕ) → (upd h x b y).home ≡ (agent_in c y).home
  turned_home h b e r = upd_all h x b (λ y v. v.home ≡ (agent_in c y).home) (e ∙ sym (ap (λ v. v.home) same_own)) (λ y _. r y)

  -- or keeps its actions
  turned_unused : (h : ℕ → Agent) (b : Agent) → unused b ≡ unused own → ((y : ℕ) → unused (h y) ≡ unused (agent_in c y))
      → (y : ℕ) → unused (upd h x b y) ≡ unused (agent_in c y)
  turned_unused h b e r = upd_all h x b (λ y v. unused v ≡ unused (agent_in c y)) (e ∙ sym (ap unused same_own)) (λ y _. r y)

  -- or uses one up
  spent_unused : (h : ℕ → Agent) (b : Agent) → unused b ≡ unused (use_up own) → ((y : ℕ) → unused (h y) ≡ unused (agent_in c y))
      → (y : ℕ) → unused (upd h x b y) ≡ upd (λ z. unused (agent_in c z)) x (rest_of (unused (agent_in c x))) y
  spent_unused h b e r = upd_all h x b (λ y v. unused v ≡ upd (λ z. unused (agent_in c z)) x (rest_of (unused (agent_in c x))) y)
      (e ∙ rest_unused own ∙ sym (ap (λ v. rest_of (unused v)) same_own) ∙ sym (upd_same (λ z. unused (agent_in c z)) x _))
      (λ y n. r y ∙ sym (upd_other (λ z. unused (agent_in c z)) x y _ n))

  -- an agent that goes on, whatever locks it takes or releases, leaves the tree
  pub tree_quiet : (locks : ℕ → ℕ) (stage remembered chosen : ℕ) → tree_of (with_locks (goes_on c x stage remembered chosen) locks) ≡ tree_of c
  unfolding agent_in unused
  tree_quiet locks stage remembered chosen = tree_read d ∙ ap (read_tree c.land) (agent_turned c x b g)
      ∙ same_tree c.land (agent_in c) _ (turned_home (agent_in c) b refl (λ y. refl)) (turned_unused (agent_in c) b refl (λ y. refl))
      ∙ sym (tree_read c)
    where
      d : State
      d = with_locks (goes_on c x stage remembered chosen) locks

      b : Agent
      b = at_stage own stage remembered chosen

  -- coming leaves it
  pub tree_came : (d : ℕ) → tree_of (arrive c x own d).cell ≡ tree_of c
  unfolding agent_in unused arrive
  tree_came d = tree_read (arrive c x own d).cell ∙ ap (read_tree (link_up l own.home)) (agent_woken c own.home d (beyond l d) x b g)
      ∙ linked_same
      ∙ same_tree l (agent_in c) _ (turned_home h b refl (λ y. roused_home (rouses own.home d (beyond l d) (agent_in c y))))
      (turned_unused h b refl (λ y. roused_unused (rouses own.home d (beyond l d) (agent_in c y))))
      ∙ sym (tree_read c)
    where
      l : Land
      l = c.land

      h : ℕ → Agent
      h y = wake_agent own.home d (beyond c.land d) (agent_in c y)

      b : Agent
      b = at_stage own (rest_stage own) 0 0

      linked_same : read_tree (link_up l own.home) (upd h x b) ≡ read_tree l (upd h x b)
      linked_same = unfold read_tree name_in parent_in in λ j.
          with_tree_parents (with_tree_names (read_tree l (upd h x b)) (name_linked l own.home j)) (parent_linked l own.home j)

  -- leaving puts the agent's place into its destination
  pub tree_left : (d : ℕ) → c.land.used own.home ≡ true → tree_of (leave c x own d).cell ≡ put_into (tree_of c) x d
  unfolding agent_in unused leave
  tree_left d u = tree_read (leave c x own d).cell
      ∙ ap (read_tree (send_to l own.home d)) (agent_woken c own.remembered own.home own.home x b g) ∙ moved
      ∙ ap (λ t. put_into t x d) (sym (tree_read c))
    where
      l : Land
      l = c.land

      h : ℕ → Agent
      h y = wake_agent own.remembered own.home own.home (agent_in c y)

      b : Agent
      b = at_stage (use_up own) 4 0 0

      to : parent_in (send_to l own.home d) ≡ upd (parent_in l) (agent_in c x).home d
      to = parent_sent l own.home d u ∙ ap (λ (z : Agent). upd (parent_in l) z.home d) (sym same_own)

      moved : read_tree (send_to l own.home d) (upd h x b) ≡ put_into (read_tree l (agent_in c)) x d
      moved = unfold read_tree name_in parent_in put_into in λ j. with_tree_unused
          (with_tree_homes (with_tree_parents (with_tree_names (read_tree l (agent_in c)) (name_sent l own.home d j)) (to j))
          (fun_ext (turned_home h b refl (λ y. roused_home (rouses own.remembered own.home own.home (agent_in c y)))) j))
          (fun_ext (spent_unused h b refl (λ y. roused_unused (rouses own.remembered own.home own.home (agent_in c y)))) j)

  -- putting out a new place q, into the agent's own place
  pub tree_put : (q : ℕ) → Fit (agent_in c x) → own.remembered ≡ own.home → tree_of (put c x own q).cell ≡ put_out (tree_of c) x q
  unfolding agent_in unused put
  tree_put q fit e = tree_read (put c x own q).cell ∙ ap (read_tree (put_land l q (name_of own) p)) (agent_woken c p p p x b g) ∙ moved
      ∙ ap (λ v. put_out v x q) (sym (tree_read c))
    where
      l : Land
      l = c.land

      p : ℕ
      p = own.remembered

      h : ℕ → Agent
      h y = wake_agent p p p (agent_in c y)

      b : Agent
      b = at_stage (use_up own) (rest_stage (use_up own)) 0 0

      to : parent_in (put_land l q (name_of own) p) ≡ upd (parent_in l) q (agent_in c x).home
      to = parent_put l q (name_of own) p ∙ ap (upd (parent_in l) q) (e ∙ sym (ap (λ v. v.home) same_own))

      named : name_in (put_land l q (name_of own) p) ≡ upd (name_in l) q (plain_name (first_of (unused (agent_in c x))).name)
      named = name_put l q (name_of own) p ∙ ap (λ (n : ℕ). upd (name_in l) q (plain_name n))
          (sym (ap (λ v. v.name) (first_unused (agent_in c x) fit ∙ ap next_action same_own)))

      moved : read_tree (put_land l q (name_of own) p) (upd h x b) ≡ put_out (read_tree l (agent_in c)) x q
      moved = unfold read_tree name_in parent_in put_out in λ j. with_tree_unused
          (with_tree_homes
          (with_tree_parents (with_tree_names (with_tree_used (read_tree l (agent_in c)) (upd l.used q true)) (named j)) (to j))
          (fun_ext (turned_home h b refl (λ y. roused_home (rouses p p p (agent_in c y)))) j))
          (fun_ext (spent_unused h b refl (λ y. roused_unused (rouses p p p (agent_in c y)))) j)

  -- opening t, into the agent's own place p
  pub tree_opened : (p t : ℕ) → p ≡ own.home → own.home ≢ t → t ≢ 0 → tree_of (dissolve c x own p t).cell ≡ open_up (tree_of c) x t
  unfolding agent_in unused dissolve
  tree_opened p t e n z = tree_read (dissolve c x own p t).cell ∙ ap (read_tree (dissolve_land l p t)) (agent_dissolved c p t x b g z) ∙ moved
      ∙ ap (λ v. open_up v x t) (sym (tree_read c))
    where
      l : Land
      l = c.land

      h : ℕ → Agent
      h y = dissolve_agent p t (agent_in c y)

      b : Agent
      b = at_stage (use_up own) (rest_stage (use_up own)) 0 0

      home : p ≡ (agent_in c x).home
      home = e ∙ sym (ap (λ v. v.home) same_own)

      to : parent_in (dissolve_land l p t) ≡ (λ q. cond (eqb q t) 0 (cond (eqb (parent_in l q) t) (agent_in c x).home (parent_in l q)))
      to = parent_dissolved l p t z ∙ ap (λ (r : ℕ). λ (q : ℕ). cond (eqb q t) 0 (cond (eqb (parent_in l q) t) r (parent_in l q))) home

      homes : (y : ℕ) → (upd h x b y).home ≡ cond (eqb (agent_in c y).home t) (agent_in c x).home (agent_in c y).home
      homes = upd_all h x b (λ y v. v.home ≡ cond (eqb (agent_in c y).home t) (agent_in c x).home (agent_in c y).home)
          (sym (ap (λ v. v.home) same_own) ∙ sym (rw (ne_eqb (agent_in c x).home t (λ r. n (sym (ap (λ v. v.home) same_own) ∙ r)))))
          (λ y _. dissolved_home p t (agent_in c y) ∙ ap (λ r. cond (eqb (agent_in c y).home t) r (agent_in c y).home) home)

      moved : read_tree (dissolve_land l p t) (upd h x b) ≡ open_up (read_tree l (agent_in c)) x t
      moved = unfold read_tree name_in parent_in open_up in λ j. with_tree_unused
          (with_tree_homes
          (with_tree_parents (with_tree_names (with_tree_used (read_tree l (agent_in c)) (used_dissolved l p t j)) (name_dissolved l p t j)) (to j))
          (fun_ext homes j))
          (fun_ext (spent_unused h b refl (λ y. unused_same (dissolved p t (agent_in c y)))) j)
