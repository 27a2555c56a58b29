-- What soundness asks of the places: the tests and the proposition say the same.
-- Idea: on places in use the parent that the test reads is the one of the proposition and is in use again, so both ways up are the
-- same; 63 steps are enough by counting.
use Rattle.std.specs.Prelude.{◌≡◌, ◌≢◌, ◌⊎◌, true, false, not, ◌&&◌, leb, eqb}
use Rattle.std.proofs.Math.Path.{refl, ap, subst}
use Rattle.std.proofs.Common.{sym, ◌∙◌, inl, inr}
use Prim.Native.Nat.{ℕ, zero, suc, ◌≤◌, ◌<◌}
use borrow.Author.Tests.{eqb-true, eq-eqb, ne_eqb, le-leb, leb-true, not-true}
use Rattle.order.specs.Row.{row_fits}
use Rattle.table.specs.Base.{iter}
use Rattle.table.proofs.BaseLaws.{Told, yea, nay, told, eq?, and_left, and_right}
use Rattle.table.specs.Cell.{Land, no_name, linked}
use Rattle.table.specs.Sound.{nameless, stands}
use Rattle.table.specs.declared.Name.{Name}
use Rattle.calculus.proofs.Up.{iter_out, sixty_three, up_of}
use Rattle.calculus.specs.Up.{Up, base, up}
use Rattle.demands.specs.Reading.{parent_in}
use Rattle.demands.specs.Invariant.{Places}
use Rattle.demands.proofs.Facts.{parent_read, name_read}

-- a name that passes the floor's test is none
nameless_is : (x : Name) → nameless x ≡ true → x ≡ no_name
nameless_is x e =
    let r = and_right (eqb x.name 0) _ e in
    let s = and_right (eqb x.entering 0) _ r in
    λ i. record {
      name = eqb-true x.name 0 (and_left (eqb x.name 0) _ e) i;
      entering = eqb-true x.entering 0 (and_left (eqb x.entering 0) _ r) i;
      exiting = eqb-true x.exiting 0 (and_left (eqb x.exiting 0) _ s) i;
      opening = eqb-true x.opening 0 (and_right (eqb x.exiting 0) _ s) i;
    }

module _ (l : Land) where
  abbrev parent : ℕ → ℕ
  parent q = (l.place q).parent

  -- the parent of a place in use is in use
  abbrev Closed : Type 0
  Closed = (q : ℕ) → l.used q ≡ true → l.used (parent q) ≡ true

  same_way : Closed → (n q : ℕ) → l.used q ≡ true → iter parent n q ≡ iter (parent_in l) n q
  unfolding iter
  same_way closed zero q u = refl
  same_way closed (suc n) q u = same_way closed n (parent q) (closed q u) ∙ ap (iter (parent_in l) n) (sym (parent_read l q u))

  way_read : l.used 0 ≡ true → linked l 0 ≡ false → eqb (l.place 0).way 0 ≡ false
  unfolding linked
  way_read u e = rw u at e

  -- ---- from the proposition to the tests

  module _ (p : Places l) where
    closed_true : Closed
    closed_true q u = subst (λ (r : ℕ). l.used r ≡ true) (parent_read l q u) (p.parent_used q)

    -- every place in use leads to the floor
    pub leads_true : (q : ℕ) → l.used q ≡ true → iter parent 64 q ≡ 0
    leads_true q u = same_way closed_true 64 q u ∙ iter_out (parent_in l) 63 q
        ∙ ap (parent_in l) (sixty_three (parent_in l) p.floor_parent (λ r _. p.small _ (p.parent_used r)) (p.small q u) (p.tree q))
        ∙ p.floor_parent

    -- and stands as the test asks
    pub stands_true : (q : ℕ) → l.used q ≡ true → stands q (l.place q) (l.used (parent q)) ≡ true
    stands_true q u = go (eq? q 0)
      where
        floor : stands 0 (l.place 0) (l.used (parent 0)) ≡ true
        floor = rw (
          ap nameless (sym (name_read l 0 p.floor_used) ∙ p.floor_name),
          eq-eqb (parent 0) 0 (sym (parent_read l 0 p.floor_used) ∙ p.floor_parent),
          way_read p.floor_used p.floor_link,
        )

        go : (q ≡ 0) ⊎ (q ≢ 0) → stands q (l.place q) (l.used (parent q)) ≡ true
        go (inl e) = ap (λ (r : ℕ). stands r (l.place r) (l.used (parent r))) e ∙ floor
        go (inr n) = rw (
          ne_eqb q 0 n,
          le-leb 1 (l.place q).name.name (subst (λ (k : Name). 1 ≤ k.name) (name_read l q u) (p.named q u n)),
          closed_true q u,
        )

  -- ---- and back

  module _ (floor : l.used 0 ≡ true) (small : (q : ℕ) → l.used q ≡ true → q < 64)
      (s : (q : ℕ) → l.used q ≡ true → stands q (l.place q) (l.used (parent q)) ≡ true)
      (leads : (q : ℕ) → l.used q ≡ true → iter parent 64 q ≡ 0) (row : row_fits l.order ≡ true) where
    floor_is : (nameless (l.place 0).name && (eqb (parent 0) 0 && not (eqb (l.place 0).way 0))) ≡ true
    floor_is = s 0 floor

    floor_rest : (eqb (parent 0) 0 && not (eqb (l.place 0).way 0)) ≡ true
    floor_rest = and_right (nameless (l.place 0).name) _ floor_is

    floor_parent : parent 0 ≡ 0
    floor_parent = eqb-true _ _ (and_left (eqb (parent 0) 0) _ floor_rest)

    -- a place other than the floor
    placed : (q : ℕ) → l.used q ≡ true → q ≢ 0 → (leb 1 (l.place q).name.name && l.used (parent q)) ≡ true
    placed q u n = rw (ne_eqb q 0 n) at (s q u)

    closed : Closed
    closed q u = go (eq? q 0)
      where
        go : (q ≡ 0) ⊎ (q ≢ 0) → l.used (parent q) ≡ true
        go (inl e) = ap (λ (r : ℕ). l.used (parent r)) e ∙ ap l.used floor_parent ∙ floor
        go (inr n) = and_right (leb 1 (l.place q).name.name) _ (placed q u n)

    parent_zero : parent_in l 0 ≡ 0
    parent_zero = parent_read l 0 floor ∙ floor_parent

    not_used : (q : ℕ) → l.used q ≡ false → parent_in l q ≡ 0
    unfolding parent_in
    not_used q e = rw e

    -- places that pass the tests are one tree
    pub places_hold : Places l
    places_hold = record {
      floor_used = floor;
      floor_parent = parent_zero;
      floor_link = unfold linked in rw (floor, not-true (eqb (l.place 0).way 0) (and_right (eqb (parent 0) 0) _ floor_rest));
      floor_name = name_read l 0 floor ∙ nameless_is (l.place 0).name (and_left (nameless (l.place 0).name) _ floor_is);
      tree = λ q. tree q (told (l.used q));
      parent_used = λ q. above q (told (l.used q));
      small = small;
      order = row;
      named = λ q u n. subst (λ (k : Name). 1 ≤ k.name) (sym (name_read l q u))
          (leb-true _ _ (and_left (leb 1 (l.place q).name.name) _ (placed q u n)));
    }
      where
        tree : (q : ℕ) → Told (l.used q) → Up (parent_in l) q
        tree q (yea u) = up_of (parent_in l) parent_zero 64 (sym (same_way closed 64 q u) ∙ leads q u)
        tree q (nay e) = up q (rw (not_used q e) base)

        above : (q : ℕ) → Told (l.used q) → l.used (parent_in l q) ≡ true
        above q (yea u) = ap l.used (parent_read l q u) ∙ closed q u
        above q (nay e) = ap l.used (not_used q e) ∙ floor
