-- The cell of a tree that fits is fresh, as a loaded one is: its places and agents are numbered as they appear, each place stands in one that
-- was there before it, and the row of places is the order of appearance (document 02, W8).
use Rattle.std.specs.Prelude.{◌≡◌, refl, ◌≢◌, ◌⊎◌, true, false, ◌||◌, List, [], ◌∷◌, ◌++◌, ℕ, zero, suc, ◌+◌, ◌≤◌, ◌<◌, leb, eqb, length}
use Rattle.std.proofs.Common.{sym, ◌∙◌, inl, inr, arith, add-one, eq-eqb, ne_eqb, leb-true}
use Rattle.std.proofs.Math.Path.{ap, subst}
use Rattle.std.proofs.lemmas.Bool.{lt-leb}
use Rattle.order.specs.Row.{counting}
use Rattle.table.proofs.BaseLaws.{and_left, and_right, eq?}
use Rattle.table.specs.Cell.{State}
use Rattle.table.specs.declared.Name.{Name}
use Rattle.meaning.specs.File.{add_place, add_agent, add_action}
use Rattle.meaning.proofs.FileLaws.{bare_used, bare_given}
use Rattle.demands.specs.Fresh.{Fresh}
use Rattle.demands.proofs.Loading.{add_place_lem, add_agent_lem, add_action_lem, bare_fresh}
use Rattle.demands.proofs.LoadingOrder.{Loading, loading_bare, loading_place}
use Rattle.language.specs.Grammar.{TypedAction, TypedAgent, TypedName, Contents, nothing, agent, place, keyed_by, name_of, Keys, left_off, written}
use Rattle.language.specs.Layout.{places_in, agents_in, rows_fit, fits, Laid, lay_actions, lay_agent, lay_place, lay, bare_laid}
use Rattle.language.proofs.Sites.{Unbegun, Fits, Later, laid, count_added, actions_land, new_count, row_unbegun, place_unbegun}
use Rattle.language.proofs.SitesOver.{bare_unbegun, fits_from}

-- the cell so far: fresh, its places numbered from 1 in the order of their row, its agents from 0
pub record Numbered (l : Laid) : Type 0 where
  pub fresh : Fresh l.cell
  pub used : (q : ℕ) → q ≤ l.places → l.cell.land.used q ≡ true
  pub unused : (q : ℕ) → l.places < q → l.cell.land.used q ≡ false
  pub ungiven : (x : ℕ) → l.agents ≤ x → l.cell.given x ≡ false
  pub row : Loading l.cell.land (counting l.places 1)

-- ---- an agent with its actions

-- actions give no agent
pub given_same : (ds : List TypedAction) (c : State) (x : ℕ) → (lay_actions x ds c).given ≡ c.given
unfolding lay_actions
given_same [] c x = refl
given_same (a ∷ ds) c x = given_same ds (add_action c x a.kind a.number.value) x ∙ (unfold add_action in refl)

-- actions of an agent that is given, sixteen at most
actions_fresh : (ds : List TypedAction) (c : State) (x : ℕ) → Fresh c → x < 64 → c.given x ≡ true → (c.agent x).count + length ds ≤ 16
    → Fresh (lay_actions x ds c)
unfolding lay_actions
actions_fresh [] c x f l g h = f
actions_fresh (a ∷ ds) c x f l g h =
    actions_fresh ds (add_action c x a.kind a.number.value) x
    (add_action_lem c f x a.kind a.number.value l g (lt-leb 16 (c.agent x).count (omega arith)) a.from_one a.to_last a.number.low) l
    (unfold add_action in g) (let e = count_added c x a.kind a.number.value in omega arith)

-- an agent more
agent_numbered : (r : TypedAgent) (l : Laid) (p : ℕ) → Unbegun l → Numbered l → p ≤ l.places → l.agents < 64 → length r.further ≤ 15
    → Numbered (lay_agent p r l)
unfolding lay_agent
agent_numbered r l p u n h a m = record {
  fresh = actions_fresh all new l.agents
      (add_agent_lem l.cell n.fresh l.agents p a (n.ungiven l.agents (omega arith)) (n.used p h)) a
      (unfold add_agent in rw (eq-eqb l.agents l.agents refl))
      (let e = new_count l.cell l.agents p in let z = u.empty l.agents (omega arith) a in omega arith);
  used = λ q w. ap (λ z. z.used q) (actions_land all new l.agents) ∙ (unfold add_agent in n.used q w);
  unused = λ q w. ap (λ z. z.used q) (actions_land all new l.agents) ∙ (unfold add_agent in n.unused q w);
  ungiven = λ x w. ap (λ z. z x) (given_same all new l.agents) ∙ later x w;
  row = rw (actions_land all new l.agents) (unfold add_agent in n.row);
}
  where
    all : List TypedAction
    all = r.first ∷ r.further

    new : State
    new = add_agent l.cell l.agents p

    later : (x : ℕ) → l.agents + 1 ≤ x → (add_agent l.cell l.agents p).given x ≡ false
    later x w = unfold add_agent in rw (ne_eqb x l.agents (λ e. omega arith)) (n.ungiven x (omega arith))

-- ---- a place

-- one number more
counting_suc : (n k : ℕ) → counting (suc n) k ≡ counting n k ++ ((n + k) ∷ [])
unfolding counting
counting_suc zero k = ap (λ z. z ∷ []) (let e : k ≡ 0 + k = omega arith in e)
counting_suc (suc n) k = ap (λ z. k ∷ z) (counting_suc n (suc k) ∙ ap (λ z. counting n (suc k) ++ (z ∷ []))
    (let e : n + suc k ≡ suc n + k = omega arith in e))

-- a place more
place_numbered : (l : Laid) (p : ℕ) (m : Name) → Numbered l → p ≤ l.places → l.places < 63 → 1 ≤ m.name → Numbered (lay_place p m l)
unfolding lay_place
place_numbered l p m n h a one = record {
  fresh = add_place_lem l.cell n.fresh (l.places + 1) p m (λ e. omega arith) (omega arith) new (n.used p h) one;
  used = λ q w. unfold add_place in go q w (eq? q (l.places + 1));
  unused = λ q w. unfold add_place in rw (ne_eqb q (l.places + 1) (λ e. omega arith)) (n.unused q (omega arith));
  ungiven = unfold add_place in n.ungiven;
  row = subst (Loading (add_place l.cell (l.places + 1) p m).land) more
      (loading_place l.cell (counting l.places 1) (l.places + 1) p m (omega arith) new n.row);
}
  where
    new : l.cell.land.used (l.places + 1) ≡ false
    new = n.unused (l.places + 1) (omega arith)

    more : counting l.places 1 ++ ((l.places + 1) ∷ []) ≡ counting (l.places + 1) 1
    more = sym (ap (λ z. counting z 1) (add-one l.places) ∙ counting_suc l.places 1)

    go : (q : ℕ) → q ≤ l.places + 1 → (q ≡ l.places + 1) ⊎ (q ≢ l.places + 1) → (eqb q (l.places + 1) || l.cell.land.used q) ≡ true
    go q w (inl e) = rw (eq-eqb q (l.places + 1) e)
    go q w (inr d) = rw (ne_eqb q (l.places + 1) d) (n.used q (omega arith))

-- a typed name is not 0
pub typed_name : (h : TypedName) → (name_of h).name ≡ h.name.value
unfolding name_of keyed_by
typed_name h = go h.keys
  where
    go : (w : Keys) → (keyed_by h.name.value w).name ≡ h.name.value
    go left_off = refl
    go (written e x o) = refl

-- ---- contents about to be laid in place p

-- the cell so far is numbered, place p is there, and the contents fit beside what is laid
pub record Ready (p : ℕ) (c : Contents) (l : Laid) : Type 0 where
  pub unbegun : Unbegun l
  pub numbered : Numbered l
  pub known : p ≤ l.places
  pub fits : Fits l c

-- an agent has room
pub agent_room : (r : TypedAgent) (c : Contents) (l : Laid) (p : ℕ) → Ready p (agent r c) l → l.agents < 64
unfolding agents_in
agent_room r c l p y = omega (arith, y.fits.agents)

-- and its row too
pub row_room : (r : TypedAgent) (c : Contents) (l : Laid) (p : ℕ) → Ready p (agent r c) l → length r.further ≤ 15
unfolding rows_fit
row_room r c l p y = leb-true (length r.further) 15 (and_left _ _ y.fits.rows)

-- the contents beside an agent
pub ready_agent : (r : TypedAgent) (c : Contents) (l : Laid) (p : ℕ) → Ready p (agent r c) l → Ready p c (lay_agent p r l)
unfolding places_in agents_in rows_fit
ready_agent r c l p y = record {
  unbegun = row_unbegun r l p y.unbegun;
  numbered = agent_numbered r l p y.unbegun y.numbered y.known (agent_room r c l p y) (row_room r c l p y);
  known = unfold lay_agent in y.known;
  fits = record {
    places = unfold lay_agent in y.fits.places;
    agents = unfold lay_agent in omega (arith, y.fits.agents);
    rows = and_right (leb (length r.further) 15) _ y.fits.rows;
  };
}

-- the contents of a place
pub ready_inside : (w : TypedName) (c e : Contents) (l : Laid) (p : ℕ) → Ready p (place w c e) l → Ready (l.places + 1) c (lay_place p (name_of w) l)
unfolding places_in agents_in rows_fit
ready_inside w c e l p y = record {
  unbegun = place_unbegun l p (name_of w) y.unbegun;
  numbered = place_numbered l p (name_of w) y.numbered y.known (omega (arith, y.fits.places)) (omega (arith, typed_name w, w.name.low));
  known = unfold lay_place in omega arith;
  fits = record {
    places = unfold lay_place in omega (arith, y.fits.places);
    agents = unfold lay_place in omega (arith, y.fits.agents);
    rows = and_left _ _ y.fits.rows;
  };
}

-- the contents beside a place
pub ready_beside : (w : TypedName) (c e : Contents) (l : Laid) (p : ℕ) → Ready p (place w c e) l
    → Numbered (lay (l.places + 1) c (lay_place p (name_of w) l)) → Ready p e (lay (l.places + 1) c (lay_place p (name_of w) l))
unfolding places_in agents_in rows_fit
ready_beside w c e l p y n = record {
  unbegun = t.unbegun;
  numbered = n;
  known = omega (arith, places, y.known);
  fits = record {
    places = omega (arith, places, y.fits.places);
    agents = omega (arith, agents, y.fits.agents);
    rows = and_right (rows_fit c) _ y.fits.rows;
  };
}
  where
    l1 : Laid
    l1 = lay_place p (name_of w) l

    i : Ready (l.places + 1) c l1
    i = ready_inside w c e l p y

    t : Later (l.places + 1) c l1
    t = laid c l1 (l.places + 1) i.unbegun i.fits

    places : (lay (l.places + 1) c l1).places ≡ l.places + 1 + places_in c
    places = t.places ∙ (unfold lay_place in refl)

    agents : (lay (l.places + 1) c l1).agents ≡ l.agents + agents_in c
    agents = t.agents ∙ (unfold lay_place in refl)

-- everything that fits is laid so
pub numbered : (c : Contents) (l : Laid) (p : ℕ) → Ready p c l → Numbered (lay p c l)
unfolding lay
numbered nothing l p y = y.numbered
numbered (agent r c) l p y = numbered c (lay_agent p r l) p (ready_agent r c l p y)
numbered (place w c e) l p y =
    numbered e (lay (l.places + 1) c (lay_place p (name_of w) l)) p
    (ready_beside w c e l p y (numbered c (lay_place p (name_of w) l) (l.places + 1) (ready_inside w c e l p y)))

-- ---- from the bare floor

bare_numbered : Numbered bare_laid
unfolding bare_laid counting
bare_numbered = record {
  fresh = bare_fresh;
  used = λ q w. let z : q ≡ 0 = omega arith in bare_used q ∙ eq-eqb q 0 z;
  unused = λ q w. bare_used q ∙ ne_eqb q 0 (λ e. omega arith);
  ungiven = λ x w. bare_given x;
  row = loading_bare;
}

-- a tree that fits can be laid on it
pub bare_ready : (c : Contents) → fits c ≡ true → Ready 0 c bare_laid
bare_ready c t = record { unbegun = bare_unbegun; numbered = bare_numbered; known = omega arith; fits = fits_from c t }
