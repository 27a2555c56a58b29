-- What an event writes to the table of the cell so far, and what it leaves there.
use Rattle.std.specs.Prelude.{◌≡◌, Bool, false, ◌||◌, ℕ, ◌+◌, ◌%◌, ◌≤◌, ◌<◌, eqb, set}
use Rattle.std.proofs.Math.Path.{refl, ap}
use Rattle.std.proofs.Common.{ap₂, ◌∙◌, arith}
use Rattle.std.proofs.Math.ListN.{get_or}
use Rattle.sets.specs.declared.Set.{Set}
use Rattle.sets.specs.Set.{set_of, inserted, inserted_if}
use Rattle.sets.proofs.SetLaws.{member_set, set_ext}
use Rattle.order.specs.Row.{counting_row}
use Rattle.table.specs.Base.{upd, tab}
use Rattle.table.proofs.BaseLaws.{upd_all, get_d_tab, set_tab, tab_ext}
use Rattle.table.specs.Cell.{State, no_place, no_agent, table_of, put_places, put_agents, put_used, put_given, put_order}
use Rattle.table.proofs.CellLaws.{table_eq}
use Rattle.table.specs.declared.Agent.{Agent}
use Rattle.table.specs.declared.Place.{Place}
use Rattle.table.specs.declared.Cell.{Cell}
use Rattle.language.specs.declared.Event.{Event}
use Rattle.language.specs.Read.{Site}
use Rattle.parser.specs.declared.Marks.{Marks}
use Rattle.parser.specs.Site.{agent_written, agent_after, place_after, marks_after, gives_agent, gives_place}
use Rattle.parser.proofs.RowSoFar.{Counted}

-- what the code keeps beside the table
abbrev pub marks_of : Site → Marks
marks_of y = record { places = y.places; agents = y.agents; here = y.here; over = y.over }

-- numbers in range
pub record Small (y : Site) : Type 0 where
  pub places : y.places ≤ 63
  pub agents : y.agents ≤ 64
  pub here : y.here < 64
  pub counted : Counted y.places y.cell.land

-- the table of a cell before its row is made
abbrev pub unrowed : State → Cell
unrowed c = put_order (table_of c) counting_row

-- an element written back changes nothing
self_set : {A : Type 0} (f : ℕ → A) (i : ℕ) (d : A) → i < 64 → set (tab f 64 0) i (get_or (tab f 64 0) i d) ≡ tab f 64 0
self_set f i d l = ap (set (tab f 64 0) i) (get_d_tab f 64 i d l) ∙ set_tab d f 64 i (f i) l
    ∙ tab_ext d 64 (upd f i (f i)) f (λ j _. upd_all f i (f i) (λ k v. v ≡ f k) refl (λ k _. refl) j)

-- one element written
pub one_put : {A : Type 0} (f : ℕ → A) (i n : ℕ) (d v w : A) → i ≡ n → n < 64 → v ≡ w → set (tab f 64 0) i v ≡ tab (upd f n w) 64 0
one_put f i n d v w e l q = ap₂ (λ (j : ℕ) z. set (tab f 64 0) j z) e q ∙ set_tab d f 64 n w l

-- one number more in a set
pub one_in : (f : ℕ → Bool) (n : ℕ) → (inserted (set_of f) n).bits ≡ (set_of (λ j. eqb j n || f j)).bits
one_in f n = ap (λ (v : Set). v.bits) (set_ext _ _ (λ j k. ap (◌||◌ (eqb j n)) (member_set f j k)))

-- the number of an element is its index
pub mod_small : (n : ℕ) → n < 64 → n % 64 ≡ n
mod_small n l = omega arith

-- every array of 64 has the index
mod_lt : (n : ℕ) → n % 64 < 64
mod_lt n = omega arith

-- the table b with what an event writes at the marks x: an agent and a place, of which each may be as it was
abbrev pub written_in : Cell → Marks → Event → Cell
written_in b x e = put_used (put_places (put_given (put_agents b
    (set b.agents (agent_written x e % 64) (agent_after (get_or b.agents (agent_written x e % 64) no_agent) x e)))
    (inserted_if b.given (agent_written x e) (gives_agent x e)))
    (set b.places ((x.places + 1) % 64) (place_after (get_or b.places ((x.places + 1) % 64) no_place) x e)))
    (inserted_if b.used (x.places + 1) (gives_place x e))

-- and the marks then
abbrev pub marks_in : Cell → Marks → Event → Marks
marks_in b x e = marks_after x e (get_or b.agents (agent_written x e % 64) no_agent).count (get_or b.places (x.here % 64) no_place).parent

module _ (y : Site) where
  -- the cell so far
  abbrev c : State
  c = y.cell

  -- the marks so far
  abbrev x : Marks
  x = marks_of y

  -- its table with what an event writes
  abbrev pub written : Event → Cell
  written e = written_in (unrowed c) x e

  -- the agent that the event writes, as the code reads it
  abbrev pub agent_read : Event → Agent
  agent_read e = get_or (table_of c).agents (agent_written x e % 64) no_agent

  -- the parent of the place whose contents are read, as the code reads it
  abbrev pub parent_read : ℕ
  parent_read = (get_or (table_of c).places (y.here % 64) no_place).parent

  -- the code has made z of it
  pub record Makes (e : Event) (z : Site) : Type 0 where
    pub table : written e ≡ unrowed z.cell
    pub marks : marks_in (unrowed c) x e ≡ marks_of z
    pub small : Small z

  -- the agent is that of the cell
  pub agent_is : (e : Event) (n : ℕ) → agent_written x e ≡ n → n < 64 → agent_read e ≡ c.agent n
  unfolding table_of
  agent_is e n q l = ap (λ i. get_or (tab c.agent 64 0) i no_agent) (ap (λ i. i % 64) q ∙ mod_small n l) ∙ get_d_tab c.agent 64 n no_agent l

  -- an event leaves the agents
  pub agents_kept : (e : Event) → agent_after (agent_read e) x e ≡ agent_read e → (written e).agents ≡ tab c.agent 64 0
  unfolding table_of
  agents_kept e q = ap (set (tab c.agent 64 0) (agent_written x e % 64)) q ∙ self_set c.agent (agent_written x e % 64) no_agent (mod_lt (agent_written x e))

  -- an event leaves the places
  pub places_kept : (e : Event) → ((p : Place) → place_after p x e ≡ p) → (written e).places ≡ tab c.land.place 64 0
  unfolding table_of
  places_kept e q = ap (set (tab c.land.place 64 0) ((y.places + 1) % 64)) (q _)
      ∙ self_set c.land.place ((y.places + 1) % 64) no_place (mod_lt (y.places + 1))

  -- a set without a new member
  pub if_false : (t : Set) (n : ℕ) {b : Bool} → b ≡ false → (inserted_if t n b).bits ≡ t.bits
  if_false t n e = ap (λ z. (inserted_if t n z).bits) e

  -- an event that leaves all
  pub kept : (e : Event) → agent_after (agent_read e) x e ≡ agent_read e → ((p : Place) → place_after p x e ≡ p) → gives_place x e ≡ false
      → gives_agent x e ≡ false → written e ≡ unrowed c
  kept e q r g h = table_eq (places_kept e r ∙ (unfold table_of in refl)) refl (agents_kept e q ∙ (unfold table_of in refl))
      (if_false (table_of c).used (y.places + 1) g) (if_false (table_of c).given (agent_written x e) h) refl refl
