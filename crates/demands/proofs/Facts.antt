-- What the tests of a step say of the places, in both directions. Assumes nothing.
-- Idea: each test is a conjunction; told apart into its parts it is one of the propositions of the invariant, and back.
use Rattle.std.specs.Prelude.{◌≡◌, refl, ◌≢◌, ℕ, ◌≤◌, ◌<◌, Bool, false, not, ◌&&◌, cond, ltb, eqb}
use Rattle.std.proofs.Common.{sym, ◌∙◌, arith}
use Rattle.std.proofs.Math.Path.{ap}
use Rattle.std.proofs.Math.Bool.{true, or-true}
use borrow.Author.Tests.{eqb-true, eq-eqb, ne_eqb, ltb-true, ltb-false, not-true}
use Rattle.table.proofs.BaseLaws.{Told, yea, nay, told, clash, and_left, and_right, all_at, all_yes, any_at, any_found}
use Rattle.table.specs.Cell.{Land, State, none, linked, linked_to, travels, kind_of, name_of, enter_kind, exit_kind, open_kind, looks_home, key_of}
use Rattle.table.proofs.KindLaws.{Kind, is_enter, is_exit, is_open, is_release, kind_around}
use Rattle.table.specs.Sound.{second_place}
use Rattle.table.specs.declared.Agent.{Agent}
use Rattle.meaning.specs.Step.{on_way_to, awaited, named, enters_at, exits_from, opens_at, qualifies, target_of, fires, stays}
use Rattle.meaning.specs.Run.{settled}
use Rattle.calculus.proofs.MoveCases.{differ}
use Rattle.demands.specs.Reading.{parent_in, name_in}
use Rattle.demands.specs.Invariant.{Under}
use Rattle.demands.specs.Whole.{Whole}

-- a test that is never true is false
pub not_yes : (b : Bool) → (b ≡ true → ⊥) → b ≡ false
not_yes true f = absurd (f refl)
not_yes false f = refl

-- a number in a set that has none at and past 64 is below 64
pub below_64 : (f : ℕ → Bool) → ((j : ℕ) → 64 ≤ j → f j ≡ false) → (j : ℕ) → f j ≡ true → j < 64
below_64 f past j e = go (told (ltb j 64))
  where
    go : Told (ltb j 64) → j < 64
    go (yea l) = ltb-true j 64 l
    go (nay l) = clash e (past j (ltb-false j 64 l))

-- ---- names, parents and links of places in use

module _ (l : Land) (q : ℕ) where
  -- a place in use reads as it is
  pub parent_read : l.used q ≡ true → parent_in l q ≡ (l.place q).parent
  unfolding parent_in
  parent_read u = rw u

  pub name_read : l.used q ≡ true → name_in l q ≡ (l.place q).name
  unfolding name_in
  name_read u = rw u

  -- a linked place is in use
  pub link_used : linked l q ≡ true → l.used q ≡ true
  unfolding linked
  link_used e = and_left (l.used q) _ e

  -- q is linked to p: the test and the proposition
  pub under_fits : (p : ℕ) → linked_to l q p ≡ true → Under l q p
  unfolding linked_to linked
  under_fits p e =
      let u : l.used q ≡ true = and_left (l.used q) _ e in
      let r = and_right (l.used q) _ e in
      record {
        link = rw (u, and_left (eqb (l.place q).way 0) _ r);
        parent = parent_read u ∙ eqb-true _ p (and_right (eqb (l.place q).way 0) _ r);
      }

  pub under_of : (p : ℕ) → Under l q p → linked_to l q p ≡ true
  unfolding linked_to linked
  under_of p u =
      let k : l.used q ≡ true = and_left (l.used q) _ u.link in
      rw (k, and_right (l.used q) _ u.link, eq-eqb (l.place q).parent p (sym (parent_read k) ∙ u.parent))

-- ---- what is on its way

module _ (l : Land) (q : ℕ) where
  -- q travels: the test, and what it says
  pub travels_fits : travels l q ≡ true → (l.used q ≡ true) × (q ≢ 0) × (linked l q ≡ false)
  unfolding travels linked
  travels_fits e =
      let u : l.used q ≡ true = and_left (l.used q) _ e in
      let r = and_right (l.used q) _ e in
      (u, differ q 0 (and_left (not (eqb q 0)) _ r), rw (u, not-true (eqb (l.place q).way 0) (and_right (not (eqb q 0)) _ r)))

  pub travels_of : l.used q ≡ true → q ≢ 0 → linked l q ≡ false → travels l q ≡ true
  unfolding travels linked
  travels_of u n e = rw (u, ne_eqb q 0 n, rw u at e)

-- r is on its way to q
pub record Comes (l : Land) (q r : ℕ) : Type 0 where
  pub used : l.used r ≡ true
  pub placed : r ≢ 0
  pub loose : linked l r ≡ false
  pub parent : parent_in l r ≡ q

-- the test and the proposition
pub comes_fits : (l : Land) (q r : ℕ) → on_way_to l q r ≡ true → Comes l q r
unfolding on_way_to
comes_fits l q r e =
    let t = travels_fits l r (and_left (travels l r) _ e) in
    record { used = t.0; placed = t.1; loose = t.2; parent = parent_read l r t.0 ∙ eqb-true _ q (and_right (travels l r) _ e) }

pub comes_of : (l : Land) (q r : ℕ) → Comes l q r → on_way_to l q r ≡ true
unfolding on_way_to
comes_of l q r m =
    rw (travels_of l r m.used m.placed m.loose, eq-eqb (l.place r).parent q (sym (parent_read l r m.used) ∙ m.parent))

-- something is on its way to q exactly if some r is
pub awaited_yes : (l : Land) (q r : ℕ) → r < 64 → Comes l q r → awaited l q ≡ true
unfolding awaited
awaited_yes l q r s m = any_at (on_way_to l q) 64 r s (comes_of l q r m)

pub awaited_some : (l : Land) (q : ℕ) → awaited l q ≡ true → (r : ℕ) × Comes l q r
unfolding awaited
awaited_some l q e = let s = any_found (on_way_to l q) 64 e in (s.0, comes_fits l q s.0 s.1.1)

-- ---- a settled cell

-- so nothing travels
pub whole_still : (c : State) → Whole c → (q : ℕ) → travels c.land q ≡ false
whole_still c whole q = not_yes _ (λ t. let v = travels_fits c.land q t in clash (whole q v.0 v.1) v.2)

-- a cell is settled where every lock of a place in use is free and every place is linked
pub settled_of : (c : State) → ((q : ℕ) → q < 64 → c.land.used q ≡ true → c.lock q ≡ none) → Whole c → settled c ≡ true
unfolding settled
settled_of c free whole = all_yes _ 64 (λ q l. go q l (told (c.land.used q)))
  where
    go : (q : ℕ) → q < 64 → Told (c.land.used q) → cond (c.land.used q) (eqb (c.lock q) none && not (travels c.land q)) true ≡ true
    go q l (yea u) = rw (whole_still c whole q, eq-eqb (c.lock q) none (free q l u), u)
    go q l (nay e) = rw e

-- a place in use of a settled cell is free and does not travel
pub settled_at : (c : State) → settled c ≡ true → (q : ℕ) → q < 64 → c.land.used q ≡ true → (c.lock q ≡ none) × (travels c.land q ≡ false)
unfolding settled
settled_at c e q l u =
    let f : eqb (c.lock q) none && not (travels c.land q) ≡ true = rw u at (all_at _ 64 q l e) in
    (eqb-true (c.lock q) none (and_left (eqb (c.lock q) none) _ f), not-true _ (and_right (eqb (c.lock q) none) (not (travels c.land q)) f))

-- ---- what qualifies, by the kind of the action

-- q is linked to p, and n is its key for actions of this kind
pub record Child (kind : ℕ) (l : Land) (p n q : ℕ) : Type 0 where
  pub under : Under l q p
  pub name : key_of kind (name_in l q) ≡ n

module _ (l : Land) (kind n home p q : ℕ) where
  -- the test of a child with one more condition, as enter and open have it
  child : (k : ℕ) (b : Bool) → linked_to l q p && (named k l q n && b) ≡ true → Child k l p n q × (b ≡ true)
  child k b e =
      let t = and_left (linked_to l q p) _ e in
      let r = and_right (linked_to l q p) _ e in
      let u = under_fits l q p t in (
        record { under = u; name = ap (key_of k) (name_read l q (link_used l q u.link)) ∙ eqb-true _ n (and_left (named k l q n) b r) },
        and_right (named k l q n) b r,
      )

  child_of : (k : ℕ) (b : Bool) → Child k l p n q → b ≡ true → linked_to l q p && (named k l q n && b) ≡ true
  child_of k b c e =
      let name = ap (key_of k) (sym (name_read l q (link_used l q c.under.link))) ∙ c.name in
      rw (under_of l q p c.under, eq-eqb (key_of k (l.place q).name) n name, e)

  -- what each kind asks, told apart
  pub enters_fits : kind ≡ enter_kind → qualifies l kind n home p q ≡ true → Child enter_kind l p n q × (q ≢ home)
  unfolding qualifies enters_at
  enters_fits k e = let r = child enter_kind (not (eqb q home)) (rw k at e) in (r.0, differ q home r.1)

  pub exits_fits : kind ≡ exit_kind → qualifies l kind n home p q ≡ true → (q ≡ p) × (linked l p ≡ true) × (key_of exit_kind (name_in l p) ≡ n)
  unfolding qualifies exits_from
  exits_fits k e =
      let f : (eqb q p && (linked l p && named exit_kind l p n)) ≡ true = rw k at e in
      let r = and_right (eqb q p) _ f in
      let u = and_left (linked l p) _ r in
      (eqb-true q p (and_left (eqb q p) _ f), u, ap (key_of exit_kind) (name_read l p (link_used l p u)) ∙ eqb-true _ n (and_right (linked l p) _ r))

  pub opens_fits : kind ≡ open_kind → qualifies l kind n home p q ≡ true → Child open_kind l p n q × (awaited l q ≡ false)
  unfolding qualifies opens_at
  opens_fits k e = let r = child open_kind (not (awaited l q)) (rw k at e) in (r.0, not-true (awaited l q) r.1)

  -- and put together
  pub enters_of : kind ≡ enter_kind → Child enter_kind l p n q → q ≢ home → qualifies l kind n home p q ≡ true
  unfolding qualifies enters_at
  enters_of k c d = rw k (child_of enter_kind (not (eqb q home)) c (rw (ne_eqb q home d)))

  pub exits_of : kind ≡ exit_kind → q ≡ p → linked l p ≡ true → key_of exit_kind (name_in l p) ≡ n → qualifies l kind n home p q ≡ true
  unfolding qualifies exits_from
  exits_of k s u e = rw (
    k,
    eq-eqb q p s,
    u,
    eq-eqb (key_of exit_kind (l.place p).name) n (ap (key_of exit_kind) (sym (name_read l p (link_used l p u))) ∙ e),
  )

  pub opens_of : kind ≡ open_kind → Child open_kind l p n q → awaited l q ≡ false → qualifies l kind n home p q ≡ true
  unfolding qualifies opens_at
  opens_of k c d = rw k (child_of open_kind (not (awaited l q)) c (rw d))

  -- what qualifies is linked
  pub fits_linked : Kind kind → qualifies l kind n home p q ≡ true → linked l q ≡ true
  unfolding qualifies opens_at
  fits_linked (is_enter k) e = (enters_fits k e).0.under.link
  fits_linked (is_exit k) e = let f = exits_fits k e in ap (linked l) f.0 ∙ f.1
  fits_linked (is_open k) e = (opens_fits k e).0.under.link
  fits_linked (is_release k) e = (child open_kind (not (awaited l q)) (rw k at e)).0.under.link

-- ---- an agent's target, its second place, and whether it stays

-- an agent that fires at stage 3 qualifies on its target
pub fires_target : (l : Land) (a : Agent) → fires l a ≡ qualifies l (kind_of a) (name_of a) a.home a.remembered (target_of a)
unfolding fires
fires_target l a = refl

-- the target is the chosen place for enter and open
pub target_chosen : (a : Agent) → kind_of a ≢ exit_kind → target_of a ≡ a.chosen
target_chosen a n = rw (ne_eqb (kind_of a) exit_kind n)

-- enter and exit stay exactly if their place is linked to the remembered one
pub stays_under : (l : Land) (a : Agent) → kind_of a ≤ exit_kind → stays l a ≡ true → Under l a.home a.remembered
unfolding stays
stays_under l a k e = under_fits l a.home a.remembered (rw (kind_around (kind_of a) k) at e)

pub stays_of : (l : Land) (a : Agent) → Under l a.home a.remembered → stays l a ≡ true
unfolding stays
stays_of l a u = rw (under_of l a.home a.remembered u) (or-true (looks_home (kind_of a)))

-- an agent that looks at its own place stays
pub stays_home : (l : Land) (a : Agent) → looks_home (kind_of a) ≡ true → stays l a ≡ true
unfolding stays
stays_home l a k = rw k

-- the second place is its own for enter and exit, the chosen one for open
pub second_move : (kind home chosen : ℕ) → kind ≤ exit_kind → second_place kind home chosen ≡ home
second_move kind home chosen k = rw (ne_eqb kind open_kind (λ z. omega arith))

pub second_open : (kind home chosen : ℕ) → kind ≡ open_kind → second_place kind home chosen ≡ chosen
second_open kind home chosen k = rw k
