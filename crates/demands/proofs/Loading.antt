-- The bare floor is fresh, and every record that is not refused keeps a cell fresh.
-- Idea: a new place stands in one given earlier, whose way to the floor does not meet it.
use Rattle.std.specs.Prelude.{◌≡◌, ◌≢◌, ◌⊎◌, Bool, false, ◌||◌, cond, get_or, set}
use Rattle.std.proofs.Math.Path.{refl, ap, fun_ext}
use Rattle.std.proofs.Common.{sym, ◌∙◌, subst, inl, inr, arith, length-set, get_or-set_same, get_or-set_other}
use Rattle.std.proofs.Math.Bool.{true}
use Prim.Native.Nat.{ℕ, ◌+◌, ◌^◌, ◌≤◌, ◌<◌}
use Rattle.std.proofs.Math.Dec.{eqb}
use borrow.Author.Tests.{eqb-true, eq-eqb, ne_eqb, lt-ltb, leb-false}
use Rattle.sets.specs.Word.{has}
use Rattle.order.specs.Row.{row_fits}
use Rattle.order.proofs.RowLaws.{fits_later, counting_fits}
use Rattle.table.specs.Base.{upd}
use Rattle.table.proofs.BaseLaws.{clash, eq?, upd_same, upd_at, upd_other, upd_all}
use Rattle.table.specs.Cell.{Land, State, no_place, no_action, fresh_agent, linked, cell_of, bare_table, last_kind}
use Rattle.table.specs.declared.Name.{Name}
use Rattle.table.specs.declared.Place.{Place}
use Rattle.table.specs.declared.Action.{Action}
use Rattle.table.specs.declared.Agent.{Agent}
use Rattle.meaning.specs.Update.{linked_place, with_home, with_agent, with_given}
use Rattle.meaning.specs.File.{add_place, add_agent, with_action, add_action, give_touches, is_full}
use Rattle.meaning.proofs.FileLaws.{bare_bounded, bare_used, bare_given, bare_lock, bare_agent, bare_place, bare_touches, bare_order}
use Rattle.calculus.proofs.Up.{move_up}
use Rattle.calculus.specs.Up.{Up, base, up, Off, off0, offs}
use Rattle.demands.specs.Reading.{parent_in, name_in}
use Rattle.demands.proofs.ReadingLaws.{read_used, read_parent, read_name, read_linked, upd_self, written}
use Rattle.demands.specs.Invariant.{Places, Fit}
use Rattle.demands.proofs.Actions.{kind_some, unused_none}
use Rattle.demands.proofs.SoundTestActions.{InRange, fit_at, fit_from, fit_empty}
use Rattle.demands.specs.Fresh.{looks, without, New, Fresh}

-- ---- one number more in a set

or_upd : (g : ℕ → Bool) (n : ℕ) → (λ j. eqb j n || g j) ≡ upd g n true
unfolding upd
or_upd g n = fun_ext λ j. go (eqb j n) (g j)
  where
    go : (b d : Bool) → (b || d) ≡ cond b true d
    go true d = refl
    go false d = refl

-- ---- the bare floor

-- an agent without actions is new, wherever it lives
new_agent : (home : ℕ) → New (with_home fresh_agent home)
new_agent home = record {
  fit = fit_empty (with_home fresh_agent home) refl refl;
  starts = without refl (unused_none (with_home fresh_agent home) refl);
  next = refl;
  row = refl;
  remembered = refl;
  chosen = refl;
}

only_floor : (q : ℕ) → (cell_of bare_table).land.used q ≡ true → q ≡ 0
only_floor q e = eqb-true q 0 (sym (bare_used q) ∙ e)

pub bare_parent : (q : ℕ) → parent_in (cell_of bare_table).land q ≡ 0
bare_parent q = go (eq? q 0)
  where
    go : (q ≡ 0) ⊎ (q ≢ 0) → parent_in (cell_of bare_table).land q ≡ 0
    go (inl e) = ap (parent_in (cell_of bare_table).land) e ∙ unfold parent_in in unfold cell_of in unfold bare_table in unfold has in refl
    go (inr n) = unfold parent_in in rw (bare_used q, ne_eqb q 0 n)

pub bare_fresh : Fresh (cell_of bare_table)
bare_fresh = record {
  places = record {
    floor_used = bare_used 0;
    floor_parent = bare_parent 0;
    floor_link = unfold linked in unfold cell_of in unfold bare_table in unfold has in refl;
    floor_name = unfold name_in in unfold cell_of in unfold bare_table in unfold has in refl;
    tree = λ q. up q (rw (bare_parent q) base);
    parent_used = λ q. ap (cell_of bare_table).land.used (bare_parent q) ∙ bare_used 0;
    small = λ q e. let z = only_floor q e in omega arith;
    order = ap row_fits bare_order ∙ counting_fits;
    named = λ q e n. absurd (n (only_floor q e));
  };
  whole = λ q e n. absurd (n (only_floor q e));
  free = bare_lock;
  homes = λ x g. clash g (bare_given x);
  agents = λ x g. clash g (bare_given x);
  no_agents = λ x l _. bare_agent x l;
  no_places = λ q e. bare_place q (λ z. clash (ap (cell_of bare_table).land.used z ∙ bare_used 0) e);
  touches = λ q. rw (bare_touches q) (omega arith);
  bounds = bare_bounded;
}

-- ---- a place record

module _ (c : State) (f : Fresh c) (n p : ℕ) (m : Name) (n0 : n ≢ 0) (n64 : n < 64) (new : c.land.used n ≡ false) (old : c.land.used p ≡ true)
    (m1 : 1 ≤ m.name) where
  abbrev was : Land
  was = c.land

  abbrev grown : Land
  grown = (add_place c n p m).land

  -- what is read of places: one value changed
  added : {A : Type 0} (read : ℕ → Bool → Place → A)
      → (λ q. read q (grown.used q) (grown.place q)) ≡ upd (λ q. read q (was.used q) (was.place q)) n (read n true (linked_place m p))
  unfolding add_place
  added read = written read was _ n (linked_place m p) (λ q d. rw (ne_eqb q n d))
      ∙ ap (λ (u : Bool). upd (λ q. read q (was.used q) (was.place q)) n (read n u (linked_place m p))) (rw (eq-eqb n n refl))

  pub used_added : grown.used ≡ upd was.used n true
  used_added = added read_used

  pub parent_added : parent_in grown ≡ upd (parent_in was) n p
  unfolding parent_in
  parent_added = added read_parent

  pub name_added : name_in grown ≡ upd (name_in was) n m
  unfolding name_in
  name_added = added read_name

  linked_added : linked grown ≡ upd (linked was) n true
  unfolding linked
  linked_added = added read_linked

  -- a place given earlier is another one
  other : (q : ℕ) → was.used q ≡ true → q ≢ n
  other q u e = clash u (ap was.used e ∙ new)

  still_used : (q : ℕ) → was.used q ≡ true → grown.used q ≡ true
  still_used q u = rw used_added (upd_other was.used n q true (other q u) ∙ u)

  used_before : (q : ℕ) → q ≢ n → grown.used q ≡ true → was.used q ≡ true
  used_before q d u = sym (ap (λ (g : ℕ → Bool). g q) used_added ∙ upd_other was.used n q true d) ∙ u

  way_off : {q : ℕ} → was.used q ≡ true → Up (parent_in was) q → Off (parent_in was) n q
  way_off u base = off0
  way_off u (up q v) = offs q (other q u) (way_off (f.places.parent_used q) v)

  still_ordered : row_fits grown.order ≡ true
  unfolding add_place
  still_ordered = fits_later (λ q. eqb q n) was.order f.places.order

  add_places : Places grown
  add_places = record {
    floor_used = still_used 0 f.places.floor_used;
    floor_parent = rw parent_added (upd_other (parent_in was) n 0 p (λ e. n0 (sym e)) ∙ f.places.floor_parent);
    floor_link = rw linked_added (upd_other (linked was) n 0 true (λ e. n0 (sym e)) ∙ f.places.floor_link);
    floor_name = rw name_added (upd_other (name_in was) n 0 m (λ e. n0 (sym e)) ∙ f.places.floor_name);
    tree = λ q. rw parent_added (move_up (parent_in was) f.places.floor_parent n p n0 (way_off old (f.places.tree p)) (f.places.tree q));
    parent_used = λ q. rw parent_added
        (upd_all (parent_in was) n p (λ _ v. grown.used v ≡ true) (still_used p old) (λ r _. still_used _ (f.places.parent_used r)) q);
    small = λ q u. small q u (eq? q n);
    order = still_ordered;
    named = λ q u z. rw name_added (named q u z (eq? q n));
  }
    where
      small : (q : ℕ) → grown.used q ≡ true → (q ≡ n) ⊎ (q ≢ n) → q < 64
      small q u (inl e) = omega arith
      small q u (inr d) = f.places.small q (used_before q d u)

      named : (q : ℕ) → grown.used q ≡ true → q ≢ 0 → (q ≡ n) ⊎ (q ≢ n) → 1 ≤ (upd (name_in was) n m q).name
      named q u z (inl e) = rw (upd_at (name_in was) n q m e) m1
      named q u z (inr d) = rw (upd_other (name_in was) n q m d) (f.places.named q (used_before q d u) z)

  pub add_place_lem : Fresh (add_place c n p m)
  add_place_lem = record {
    places = add_places;
    whole = λ q u z. rw linked_added (link q u z (eq? q n));
    free = unfold add_place in f.free;
    homes = unfold add_place in λ x g. still_used _ (f.homes x g);
    agents = unfold add_place in f.agents;
    no_agents = unfold add_place in f.no_agents;
    no_places = λ q e. empty q e (eq? q n);
    touches = unfold add_place in f.touches;
    bounds = record {
      place = unfold add_place in λ q l. upd_other was.place n q (linked_place m p) (λ z. absurd (omega arith)) ∙ f.bounds.place q l;
      used = λ q l. rw used_added (upd_other was.used n q true (λ z. absurd (omega arith)) ∙ f.bounds.used q l);
      lock = unfold add_place in f.bounds.lock;
      agent = unfold add_place in f.bounds.agent;
      given = unfold add_place in f.bounds.given;
      touches = unfold add_place in f.bounds.touches;
    };
  }
    where
      link : (q : ℕ) → grown.used q ≡ true → q ≢ 0 → (q ≡ n) ⊎ (q ≢ n) → upd (linked was) n true q ≡ true
      link q u z (inl e) = upd_at (linked was) n q true e
      link q u z (inr d) = upd_other (linked was) n q true d ∙ f.whole q (used_before q d u) z

      empty : (q : ℕ) → grown.used q ≡ false → (q ≡ n) ⊎ (q ≢ n) → grown.place q ≡ no_place
      empty q e (inl z) = clash (rw used_added (upd_at was.used n q true z)) e
      empty q e (inr d) = unfold add_place in upd_other was.place n q (linked_place m p) d
          ∙ f.no_places q (sym (ap (λ (g : ℕ → Bool). g q) used_added ∙ upd_other was.used n q true d) ∙ e)

-- ---- an agent or an action record

-- agent n becomes a, which is new, and is given
with_agent_lem : (c : State) → Fresh c → (n : ℕ) (a : Agent) (given : ℕ → Bool) → n < 64 → given ≡ upd c.given n true
    → c.land.used a.home ≡ true → New a → Fresh (with_given (with_agent c n a) given)
with_agent_lem c f n a given l g home new = record {
  places = f.places;
  whole = f.whole;
  free = f.free;
  homes = upd_all c.agent n a (λ x b. given x ≡ true → c.land.used b.home ≡ true) (λ _. home) (λ x d e. f.homes x (same x d ∙ e));
  agents = upd_all c.agent n a (λ x b. given x ≡ true → New b) (λ _. new) (λ x d e. f.agents x (same x d ∙ e));
  no_agents = upd_all c.agent n a (λ x b. x < 64 → given x ≡ false → b ≡ fresh_agent)
      (λ _ e. clash (ap (λ (h : ℕ → Bool). h n) g ∙ upd_same c.given n true) e) (λ x d k e. f.no_agents x k (same x d ∙ e));
  no_places = f.no_places;
  touches = f.touches;
  bounds = record {
    place = f.bounds.place;
    used = f.bounds.used;
    lock = f.bounds.lock;
    agent = λ x k. upd_other c.agent n x a (λ z. absurd (omega arith)) ∙ f.bounds.agent x k;
    given = λ x k. sym (same x (λ z. absurd (omega arith))) ∙ f.bounds.given x k;
    touches = f.bounds.touches;
  };
}
  where
    same : (x : ℕ) → x ≢ n → c.given x ≡ given x
    same x d = sym (ap (λ (h : ℕ → Bool). h x) g ∙ upd_other c.given n x true d)

pub add_agent_lem : (c : State) → Fresh c → (n home : ℕ) → n < 64 → c.given n ≡ false → c.land.used home ≡ true → Fresh (add_agent c n home)
unfolding add_agent
add_agent_lem c f n home l new known =
    with_agent_lem c f n (with_home (c.agent n) home) (λ j. eqb j n || c.given j) l (or_upd c.given n) known
    (rw (f.no_agents n l new) (new_agent home))

-- a row with an action more
new_action : (a : Agent) (kind name : ℕ) → New a → a.count < 16 → 1 ≤ kind → kind ≤ last_kind → 1 ≤ name → New (with_action a kind name)
unfolding with_action
new_action a kind name w room low high named = record {
  fit = fits;
  starts = looks refl (kind_some (with_action a kind name) fits (lt-ltb a.next (a.count + 1) (omega (arith, w.next))));
  next = w.next;
  row = length-set a.actions a.count x ∙ w.row;
  remembered = w.remembered;
  chosen = w.chosen;
}
  where
    x : Action
    x = record { kind = kind; name = name }

    at : (j : ℕ) → j < a.count + 1 → (j ≡ a.count) ⊎ (j ≢ a.count) → InRange (get_or (set a.actions a.count x) j no_action)
    at j l (inl e) = rw (e, get_or-set_same a.actions a.count x no_action (subst (λ (k : ℕ). a.count < k) (sym w.row) room))
        (record { low = low; high = high; named = named })
    at j l (inr d) = rw (get_or-set_other a.actions a.count j x no_action d) (fit_at a w.fit j (omega (arith, w.next)) (omega arith))

    fits : Fit (with_action a kind name)
    fits = fit_from (with_action a kind name) (omega (arith, w.next)) (omega arith) (λ j l m. at j m (eq? j a.count))

pub add_action_lem : (c : State) → Fresh c → (n kind name : ℕ) → n < 64 → c.given n ≡ true → is_full c n ≡ false → 1 ≤ kind → kind ≤ last_kind → 1 ≤ name
    → Fresh (add_action c n kind name)
unfolding add_action
add_action_lem c f n kind name l known room low high named =
    with_agent_lem c f n (with_action (c.agent n) kind name) c.given l (sym (upd_self c.given n true (sym known)))
    (unfold with_action in f.homes n known)
    (new_action (c.agent n) kind name (f.agents n known) (leb-false 16 (c.agent n).count room) low high named)

-- ---- a touch record

pub give_touches_lem : (c : State) → Fresh c → (q n : ℕ) → c.land.used q ≡ true → n < 2 ^ 32 → Fresh (give_touches c q n)
unfolding give_touches
give_touches_lem c f q n u l = record {
  places = f.places;
  whole = f.whole;
  free = f.free;
  homes = f.homes;
  agents = f.agents;
  no_agents = f.no_agents;
  no_places = f.no_places;
  touches = upd_all c.touches q n (λ _ v. v < 2 ^ 32) l (λ r _. f.touches r);
  bounds = record {
    place = f.bounds.place;
    used = f.bounds.used;
    lock = f.bounds.lock;
    agent = f.bounds.agent;
    given = f.bounds.given;
    touches = λ r k. upd_other c.touches q r n (λ z. clash (ap c.land.used z ∙ u) (f.bounds.used r k)) ∙ f.bounds.touches r k;
  };
}
