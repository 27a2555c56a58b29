-- What an event writes: the table of the cell so far becomes that of the cell after the event, and the marks follow.
use Rattle.std.specs.Prelude.{◌≡◌, Bool, ◌||◌, ℕ, ◌+◌, ◌-◌, ◌%◌, ◌<◌, leb, eqb}
use Rattle.std.proofs.Math.Path.{refl, sym, ap, ap₂}
use Rattle.std.proofs.Common.{◌∙◌, arith}
use Rattle.std.proofs.Math.Bool.{true, false, cond}
use Rattle.std.proofs.Math.ListN.{get_or}
use borrow.Author.Tests.{lt-leb, lt-ltb, le-ltb, leb-true, leb-false}
use Rattle.sets.specs.Set.{set_of, inserted_if}
use Rattle.table.specs.Base.{upd, tab}
use Rattle.table.proofs.BaseLaws.{Told, yea, nay, told, get_d_tab}
use Rattle.table.specs.Cell.{State, Land, no_place, no_agent, table_of}
use Rattle.table.proofs.CellLaws.{table_eq}
use Rattle.table.specs.declared.Agent.{Agent}
use Rattle.table.specs.declared.Place.{Place}
use Rattle.meaning.specs.Update.{linked_place, with_home}
use Rattle.meaning.specs.File.{add_place, add_agent, with_action, add_action, is_full}
use Rattle.language.specs.declared.Event.{Event}
use Rattle.language.specs.declared.Event.TheVariants.{Nothing, NewAgent, NewAction, NewPlace, EndPlace, LastAction}
use Rattle.language.specs.Grammar.{with_keys}
use Rattle.language.specs.Machine.{apply}
use Rattle.language.specs.Read.{Site, site, overfull, site_agent, site_action, site_place, site_end}
use Rattle.parser.specs.declared.Marks.{Marks}
use Rattle.parser.specs.Site.{agent_written, agent_after, place_after, marks_after, gives_agent, gives_place, over_marks, end_marks}
use Rattle.parser.proofs.RowSoFar.{counted_more}
use Rattle.parser.proofs.Events.{marks_of, Small, unrowed, one_put, one_in, mod_small, written, agent_read, parent_read, Makes}
use Rattle.parser.proofs.Events.{agent_is, agents_kept, places_kept, if_false, kept}

module _ (y : Site) (m : Small y) where
  -- the cell so far
  abbrev c : State
  c = y.cell

  -- the marks so far
  abbrev x : Marks
  x = marks_of y

  -- the latest agent has a number
  latest_lt : y.agents - 1 < 64
  latest_lt = omega (arith, m.agents)

  -- the parent that the code reads is that of the cell
  parent_is : parent_read y ≡ (c.land.place y.here).parent
  unfolding table_of
  parent_is = ap (λ z. z.parent) (ap (λ i. get_or (tab c.land.place 64 0) i no_place) (mod_small y.here m.here)
      ∙ get_d_tab c.land.place 64 y.here no_place m.here)

  -- the contents of a place end
  makes_end : Makes y EndPlace (site_end y)
  unfolding site_end agent_written agent_after place_after gives_place gives_agent marks_after
  makes_end = record {
    table = kept y EndPlace refl (λ p. refl) refl refl;
    marks = ap (λ p. record { places = y.places; agents = y.agents; here = p; over = y.over }) parent_is;
    small = record { places = m.places; agents = m.agents; here = m.counted.parents y.here m.here; counted = m.counted };
  }

  -- an agent more, among the agents
  agent_agents : y.agents < 64 → (written y NewAgent).agents ≡ tab (upd c.agent y.agents (with_home (c.agent y.agents) y.here)) 64 0
  unfolding table_of
  agent_agents l = one_put c.agent (agent_written x NewAgent % 64) y.agents no_agent _ _ (ap (λ i. i % 64) which ∙ mod_small y.agents l) l
      (homed (agent_read y NewAgent) ∙ ap (λ g. with_home g y.here) (agent_is y NewAgent y.agents which l))
    where
      homed : (g : Agent) → agent_after g x NewAgent ≡ with_home g y.here
      homed g = unfold agent_after in rw (lt-leb 64 y.agents l)

      which : agent_written x NewAgent ≡ y.agents
      which = unfold agent_written in refl

  -- among those given
  agent_given : y.agents < 64 → (written y NewAgent).given.bits ≡ (set_of (λ j. eqb j y.agents || c.given j)).bits
  unfolding table_of agent_written gives_agent
  agent_given l = ap (λ b. (inserted_if (set_of c.given) y.agents b).bits) (lt-ltb y.agents 64 l) ∙ one_in c.given y.agents

  -- in the table
  agent_table : y.agents < 64 → written y NewAgent ≡ unrowed (add_agent c y.agents y.here)
  unfolding table_of add_agent
  agent_table l = table_eq (places_kept y NewAgent (λ p. unfold place_after in refl)) refl (agent_agents l)
      (if_false y (table_of c).used (y.places + 1) {b = gives_place x NewAgent} (unfold gives_place in refl)) (agent_given l) refl refl

  -- an agent more, or one too many
  makes_agent : Makes y NewAgent (site_agent y)
  makes_agent = go (told (leb 64 y.agents))
    where
      go : Told (leb 64 y.agents) → Makes y NewAgent (site_agent y)
      go (yea t) = unfold site_agent in rw t (record {
        table = kept y NewAgent (unfold agent_after in rw t) (λ p. unfold place_after in refl) (unfold gives_place in refl)
            (unfold gives_agent in le-ltb y.agents 64 (leb-true 64 y.agents t));
        marks = unfold marks_after in rw t;
        small = record { places = m.places; agents = m.agents; here = m.here; counted = m.counted };
      })
      go (nay t) = unfold site_agent in rw t (record {
        table = agent_table (leb-false 64 y.agents t);
        marks = unfold marks_after in rw t;
        small = record {
          places = m.places;
          agents = (let l = leb-false 64 y.agents t in omega arith);
          here = m.here;
          counted = unfold add_agent in m.counted;
        };
      })

  -- a place more, among the places
  place_places : (n e q o : ℕ) → y.places < 63
      → (written y (NewPlace n e q o)).places ≡ tab (upd c.land.place (y.places + 1) (linked_place (with_keys n e q o) y.here)) 64 0
  unfolding table_of
  place_places n e q o l = one_put c.land.place ((y.places + 1) % 64) (y.places + 1) no_place _ _ (mod_small (y.places + 1) (omega arith))
      (omega arith) (unfold place_after in rw (lt-leb 63 y.places l))

  -- among those in use
  place_used : (n e q o : ℕ) → y.places < 63
      → (written y (NewPlace n e q o)).used.bits ≡ (set_of (λ j. eqb j (y.places + 1) || c.land.used j)).bits
  unfolding table_of gives_place
  place_used n e q o l = ap (λ b. (inserted_if (set_of c.land.used) (y.places + 1) b).bits) (lt-ltb y.places 63 l)
      ∙ one_in c.land.used (y.places + 1)

  -- in the table
  place_table : (n e q o : ℕ) → y.places < 63
      → written y (NewPlace n e q o) ≡ unrowed (add_place c (y.places + 1) y.here (with_keys n e q o))
  unfolding table_of add_place
  place_table n e q o l = table_eq (place_places n e q o l) refl (agents_kept y (NewPlace n e q o) (unfold agent_after in refl)) (place_used n e q o l)
      (if_false y (table_of c).given (agent_written x (NewPlace n e q o)) {b = gives_agent x (NewPlace n e q o)} (unfold gives_agent in refl)) refl refl

  -- a place more, or one too many
  makes_place : (n e q o : ℕ) → Makes y (NewPlace n e q o) (site_place (with_keys n e q o) y)
  makes_place n e q o = go (told (leb 63 y.places))
    where
      go : Told (leb 63 y.places) → Makes y (NewPlace n e q o) (site_place (with_keys n e q o) y)
      go (yea t) = unfold site_place in rw t (record {
        table = kept y (NewPlace n e q o) (unfold agent_after in refl) (λ p. unfold place_after in rw t)
            (unfold gives_place in le-ltb y.places 63 (leb-true 63 y.places t)) (unfold gives_agent in refl);
        marks = unfold marks_after in rw t;
        small = record { places = m.places; agents = m.agents; here = m.here; counted = m.counted };
      })
      go (nay t) =
          let l = leb-false 63 y.places t in
          unfold site_place in rw t (record {
            table = place_table n e q o l;
            marks = unfold marks_after in rw t;
            small = record {
              places = omega arith;
              agents = m.agents;
              here = omega arith;
              counted = unfold add_place in counted_more y.places c.land y.here (with_keys n e q o) m.counted l m.here;
            };
          })

  -- an action more, of an event that writes the latest agent
  module _ (e : Event) (k v : ℕ) (which : agent_written x e ≡ y.agents - 1)
      (after : (g : Agent) → agent_after g x e ≡ cond (leb 16 g.count) g (with_action g k v))
      (place : (p : Place) → place_after p x e ≡ p) (gives_no_place : gives_place x e ≡ false) (no_agent_lem : gives_agent x e ≡ false) where
    -- the site with the action
    abbrev acted : Site
    acted = record { cell = add_action c (y.agents - 1) k v; places = y.places; agents = y.agents; here = y.here; over = y.over }

    -- the count of the latest agent
    count_is : (agent_read y e).count ≡ (c.agent (y.agents - 1)).count
    count_is = ap (λ g. g.count) (agent_is y e (y.agents - 1) which latest_lt)

    -- in the table
    action_table : written y e ≡ unrowed (site_action k v y).cell
    unfolding table_of
    action_table = go (told (is_full c (y.agents - 1)))
      where
        go : Told (is_full c (y.agents - 1)) → written y e ≡ unrowed (site_action k v y).cell
        go (yea t) = unfold site_action in rw t (kept y e (after (agent_read y e)
            ∙ ap (λ b. cond b (agent_read y e) (with_action (agent_read y e) k v)) (ap (leb 16) count_is ∙ t)) place gives_no_place no_agent_lem)
        go (nay t) = unfold site_action in rw t (table_eq
            (places_kept y e place ∙ (unfold table_of in unfold add_action in refl)) (unfold table_of in unfold add_action in refl)
            (one_put c.agent (agent_written x e % 64) (y.agents - 1) no_agent _ _ (ap (λ i. i % 64) which ∙ mod_small (y.agents - 1) latest_lt) latest_lt
            (after (agent_read y e) ∙ ap (λ b. cond b (agent_read y e) (with_action (agent_read y e) k v)) (ap (leb 16) count_is ∙ t)
            ∙ ap (λ g. with_action g k v) (agent_is y e (y.agents - 1) which latest_lt))
            ∙ (unfold table_of in unfold add_action in refl))
            (if_false y (table_of c).used (y.places + 1) gives_no_place ∙ (unfold table_of in unfold add_action in refl))
            (if_false y (table_of c).given (agent_written x e) no_agent_lem ∙ (unfold table_of in unfold add_action in refl))
            (unfold table_of in unfold add_action in refl) refl)

    -- numbers stay in range
    action_small : Small (site_action k v y)
    unfolding site_action
    action_small = go (is_full c (y.agents - 1))
      where
        go : (b : Bool) → Small (cond b (overfull y) acted)
        go true = record { places = m.places; agents = m.agents; here = m.here; counted = m.counted }
        go false = record { places = m.places; agents = m.agents; here = m.here; counted = unfold add_action in m.counted }

    -- the marks after it
    action_marks : cond (leb 16 (agent_read y e).count) (over_marks x) x ≡ marks_of (site_action k v y)
    action_marks = ap (λ n. cond (leb 16 n) (over_marks x) x) count_is ∙ go (told (is_full c (y.agents - 1)))
      where
        go : Told (is_full c (y.agents - 1)) → cond (is_full c (y.agents - 1)) (over_marks x) x ≡ marks_of (site_action k v y)
        go (yea t) = unfold site_action in rw t
        go (nay t) = unfold site_action in rw t

    -- the places stay
    action_places : (site_action k v y).cell.land ≡ c.land
    unfolding site_action
    action_places = go (is_full c (y.agents - 1))
      where
        go : (b : Bool) → (cond b (overfull y) acted).cell.land ≡ c.land
        go true = refl
        go false = unfold add_action in refl

    -- the place whose contents are read stays
    action_here : (site_action k v y).here ≡ y.here
    action_here = sym (ap (λ z. z.here) action_marks) ∙ go (leb 16 (agent_read y e).count)
      where
        go : (b : Bool) → (cond b (over_marks x) x).here ≡ y.here
        go true = refl
        go false = refl

  -- an action more, or one too many
  makes_action : (k v : ℕ) → Makes y (NewAction k v) (site_action k v y)
  unfolding agent_written agent_after place_after gives_place gives_agent marks_after
  makes_action k v = record {
    table = action_table (NewAction k v) k v refl (λ g. refl) (λ p. refl) refl refl;
    marks = action_marks (NewAction k v) k v refl (λ g. refl) (λ p. refl) refl refl;
    small = action_small (NewAction k v) k v refl (λ g. refl) (λ p. refl) refl refl;
  }

  -- the parent is read before the action is written
  last_parent : (k v : ℕ) → ((site_action k v y).cell.land.place (site_action k v y).here).parent ≡ (parent_read y)
  unfolding agent_written agent_after place_after gives_place gives_agent
  last_parent k v = ap₂ (λ (l : Land) (h : ℕ). (l.place h).parent) (action_places (LastAction k v) k v refl (λ g. refl) (λ p. refl) refl refl)
      (action_here (LastAction k v) k v refl (λ g. refl) (λ p. refl) refl refl) ∙ sym parent_is

  -- the place ends, whether there was too much or not
  end_marks_lem : (b : Bool) (p : ℕ) → cond b (over_marks (end_marks x p)) (end_marks x p) ≡ end_marks (cond b (over_marks x) x) p
  end_marks_lem true p = refl
  end_marks_lem false p = refl

  -- an action more, and then the place ends
  makes_last : (k v : ℕ) → Makes y (LastAction k v) (site_end (site_action k v y))
  unfolding agent_written agent_after place_after gives_place gives_agent marks_after site_end
  makes_last k v =
      let w = action_small (LastAction k v) k v refl (λ g. refl) (λ p. refl) refl refl in
      record {
        table = action_table (LastAction k v) k v refl (λ g. refl) (λ p. refl) refl refl;
        marks = end_marks_lem (leb 16 (agent_read y (LastAction k v)).count) (parent_read y)
            ∙ ap₂ end_marks (action_marks (LastAction k v) k v refl (λ g. refl) (λ p. refl) refl refl) (sym (last_parent k v));
        small = record { places = w.places; agents = w.agents; here = w.counted.parents _ w.here; counted = w.counted };
      }

  -- nothing
  makes_nothing : Makes y Nothing y
  unfolding agent_written agent_after place_after gives_place gives_agent marks_after
  makes_nothing = record { table = kept y Nothing refl (λ p. refl) refl refl; marks = refl; small = m }

  -- every event
  pub makes : (e : Event) → Makes y e (apply site e y)
  unfolding apply
  makes Nothing = makes_nothing
  makes NewAgent = makes_agent
  makes (NewAction k v) = makes_action k v
  makes (NewPlace n e q o) = makes_place n e q o
  makes EndPlace = makes_end
  makes (LastAction k v) = makes_last k v
