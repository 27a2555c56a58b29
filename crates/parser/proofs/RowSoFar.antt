-- The row of places while a text is read: places are numbered as they appear, so those that came stand last in the order of their numbers, and
-- the row is made once, in the end. Idea: each number that comes is above all that came before it.
use Rattle.std.specs.Prelude.{◌≡◌, ◌≢◌, ◌⊎◌, Bool, true, false, not, ◌&&◌, ◌||◌, eqb, ltb}
use Rattle.std.proofs.Math.Path.{refl, ap}
use Rattle.std.proofs.Common.{sym, ap₂, ◌∙◌, inl, inr, eqb-true, ne_eqb, ltb-true, ltb-false}
use mathlib.Core.List.{List, [], ◌∷◌, ◌++◌, append-nil}
use Prim.Native.Nat.{ℕ, zero, suc, ◌+◌, ◌≤◌, ◌<◌}
use native.Mathlib.Omega.{arith}
use Rattle.sets.specs.Set.{member, removed}
use Rattle.sets.proofs.SetLaws.{member_set}
use Rattle.order.specs.Row.{keep, later, latest, occurs, counting, counting_row, loaded_row}
use Rattle.order.proofs.RowLaws.{occurs_keep, fits_small, counting_fits}
use Rattle.order.proofs.RowLawsLater.{keep_ext, keep_all, keep_none, counted_once, loaded_more}
use Rattle.order.proofs.RowLawsLoaded.{small_occurs}
use Rattle.table.specs.Base.{upd}
use Rattle.table.proofs.BaseLaws.{Told, yea, nay, told, clash, eq?, and_right, upd_all}
use Rattle.table.specs.Cell.{State, Land, cell_of, table_of, bare_table, put_order}
use Rattle.table.specs.declared.Name.{Name}
use Rattle.meaning.specs.Update.{linked_place, with_places, with_used, with_order}
use Rattle.meaning.proofs.FileLaws.{bare_place, bare_used}

-- ---- rows

-- what becomes the latest depends on the numbers below 64 alone
later_ext : (f g : ℕ → Bool) → ((q : ℕ) → q < 64 → f q ≡ g q) → later f counting_row ≡ later g counting_row
unfolding later
later_ext f g h = ap₂ (λ (x y : List ℕ). x ++ y) (keep_ext _ _ counting_row (λ q o. ap not (h q (low q o))))
    (keep_ext f g counting_row (λ q o. h q (low q o)))
  where
    low : (q : ℕ) → occurs q counting_row ≡ true → q < 64
    low q o = small_occurs q counting_row (fits_small counting_row counting_fits) o

-- those that pass come as they are counted
later_loaded : (f : ℕ → Bool) → later f counting_row ≡ loaded_row (keep f counting_row)
unfolding later loaded_row
later_loaded f = ap (λ (x : List ℕ). x ++ keep f counting_row)
    (keep_ext _ _ counting_row (λ q o. ap not (sym (occurs_keep f q counting_row ∙ also (f q) (occurs q counting_row) o))))
  where
    also : (x y : Bool) → y ≡ true → (x && y) ≡ x
    also true y e = e
    also false y e = refl

-- nothing below k is counted from k on
counting_from : (n k q : ℕ) → occurs q (counting n k) ≡ true → k ≤ q
unfolding counting occurs
counting_from zero k q o = clash o refl
counting_from (suc n) k q o = go (told (eqb q k)) (counting_from n (suc k) q)
  where
    go : Told (eqb q k) → (occurs q (counting n (suc k)) ≡ true → suc k ≤ q) → k ≤ q
    go (yea e) h = let x = eqb-true q k e in omega arith
    go (nay e) h = let x = h (rw e at o) in omega arith

module _ (f : ℕ → Bool) (m : ℕ) (below : (q : ℕ) → f q ≡ true → q < m) where
  -- from m on none passes
  above : (q : ℕ) → m ≤ q → f q ≡ false
  above q l = go (told (f q))
    where
      go : Told (f q) → f q ≡ false
      go (yea e) = let x = below q e in absurd (omega arith)
      go (nay e) = e

  -- m stands behind all that pass
  keep_more : (n k : ℕ) → keep (λ q. f q || eqb q m) (counting n k) ≡ keep f (counting n k) ++ keep (λ q. eqb q m) (counting n k)
  unfolding counting keep
  keep_more zero k = refl
  keep_more (suc n) k = go (told (f k)) (told (eqb k m)) (keep_more n (suc k))
    where
      none : k ≡ m → keep f (counting n (suc k)) ≡ []
      none e = keep_none f (counting n (suc k)) (λ q o. above q (let x = counting_from n (suc k) q o in omega arith))

      go : Told (f k) → Told (eqb k m) → keep (λ q. f q || eqb q m) (counting n (suc k)) ≡ keep f (counting n (suc k)) ++ keep (λ q. eqb q m)
          (counting n (suc k))
          → keep (λ q. f q || eqb q m) (counting (suc n) k) ≡ keep f (counting (suc n) k) ++ keep (λ q. eqb q m) (counting (suc n) k)
      go (yea a) t h = let x = below k a in rw (a, ne_eqb k m (λ z. omega arith)) (ap (λ (r : List ℕ). k ∷ r) h)
      go (nay a) (yea b) h = let z = none (eqb-true k m b) in rw (a, b)
          (ap (λ (r : List ℕ). k ∷ r) (h ∙ ap (λ (r : List ℕ). r ++ keep (λ q. eqb q m) (counting n (suc k))) z)
          ∙ sym (ap (λ (r : List ℕ). r ++ (k ∷ keep (λ q. eqb q m) (counting n (suc k)))) z))
      go (nay a) (nay b) h = rw (a, b) h

  -- of all numbers
  joined : m < 64 → keep (λ q. f q || eqb q m) counting_row ≡ keep f counting_row ++ (m ∷ [])
  unfolding counting_row
  joined l = keep_more 64 0 ∙ ap (λ (r : List ℕ). keep f (counting 64 0) ++ r) (counted_once 64 0 m (omega arith) (omega arith))

  -- one number more, above all that came
  row_more : m < 64 → latest m (later f counting_row) ≡ later (λ q. f q || eqb q m) counting_row
  row_more l = ap (latest m) (later_loaded f) ∙ loaded_more (keep f counting_row) m l fresh
      ∙ ap loaded_row (sym (joined l)) ∙ sym (later_loaded (λ q. f q || eqb q m))
    where
      fresh : occurs m (keep f counting_row) ≡ false
      fresh = occurs_keep f m counting_row ∙ ap (λ (b : Bool). b && occurs m counting_row) (above m (omega arith))

-- none yet
row_none : (f : ℕ → Bool) → ((q : ℕ) → f q ≡ false) → counting_row ≡ later f counting_row
unfolding later
row_none f h = sym (ap₂ (λ (x y : List ℕ). x ++ y) (keep_all (λ q. not (f q)) counting_row (λ q o. ap not (h q)))
    (keep_none f counting_row (λ q o. h q))
    ∙ append-nil counting_row)

-- ---- the land so far

-- the places that came: all in use but the floor
abbrev came_in : Land → ℕ → Bool
came_in l q = not (eqb q 0) && l.used q

-- n places came, numbered from 1: no number above n is in use, and the row has them last; parents are numbers of places
pub record Counted (n : ℕ) (l : Land) : Type 0 where
  pub fresh : (q : ℕ) → n < q → l.used q ≡ false
  pub row : l.order ≡ later (came_in l) counting_row
  pub parents : (q : ℕ) → q < 64 → (l.place q).parent < 64

-- on the bare floor none came
pub counted_none : Counted 0 (cell_of bare_table).land
counted_none = record {
  fresh = λ q l. bare_used q ∙ ne_eqb q 0 (λ e. omega arith);
  row = first ∙ row_none (came_in (cell_of bare_table).land) none;
  parents = λ q l. low q (eq? q 0);
}
  where
    first : (cell_of bare_table).land.order ≡ counting_row
    first = unfold cell_of in unfold bare_table in refl

    none : (q : ℕ) → came_in (cell_of bare_table).land q ≡ false
    none q = ap (λ (b : Bool). not (eqb q 0) && b) (bare_used q) ∙ go (eqb q 0)
      where
        go : (b : Bool) → (not b && b) ≡ false
        go true = refl
        go false = refl

    low : (q : ℕ) → (q ≡ 0) ⊎ (q ≢ 0) → ((cell_of bare_table).land.place q).parent < 64
    low q (inl e) = rw e (unfold cell_of in unfold bare_table in omega arith)
    low q (inr n) = let z : ((cell_of bare_table).land.place q).parent ≡ 0 = ap (λ p. p.parent) (bare_place q n) in omega arith

-- the land with one place more
abbrev grown : ℕ → Land → ℕ → Name → Land
grown n l p w = with_order (with_used (with_places l (upd l.place n (linked_place w p))) (λ j. eqb j n || l.used j)) (latest n l.order)

-- one place more, with the next number
pub counted_more : (n : ℕ) (l : Land) (p : ℕ) (w : Name) → Counted n l → n < 63 → p < 64 → Counted (n + 1) (grown (n + 1) l p w)
counted_more n l p w c low small = record {
  fresh = λ q k. rw (ne_eqb q (n + 1) (λ e. omega arith)) (c.fresh q (omega arith));
  row = ap (latest (n + 1)) c.row ∙ row_more (came_in l) (n + 1) below (omega arith) ∙ later_ext _ _ (λ q k. also q (told (eqb q (n + 1))));
  parents = λ j h. upd_all l.place (n + 1) (linked_place w p) (λ k v. k < 64 → v.parent < 64) (λ _. small) (λ k _ z. c.parents k z) j h;
}
  where
    below : (q : ℕ) → came_in l q ≡ true → q < n + 1
    below q e = go (told (ltb n q))
      where
        go : Told (ltb n q) → q < n + 1
        go (yea t) = clash (and_right (not (eqb q 0)) _ e) (c.fresh q (ltb-true n q t))
        go (nay t) = let x = ltb-false n q t in omega arith

    also : (q : ℕ) → Told (eqb q (n + 1)) → (came_in l q || eqb q (n + 1)) ≡ (not (eqb q 0) && (eqb q (n + 1) || l.used q))
    also q (yea e) = rw (e, ne_eqb q 0 (λ z. let y = eqb-true q (n + 1) e in omega arith)) (last (l.used q))
      where
        last : (b : Bool) → (b || true) ≡ true
        last true = refl
        last false = refl
    also q (nay e) = rw e (plain (came_in l q))
      where
        plain : (b : Bool) → (b || false) ≡ b
        plain true = refl
        plain false = refl

-- the row made in the end, of the places in use but the floor
pub rowed : (n : ℕ) (c : State) → Counted n c.land → put_order (table_of c) (later (member (removed (table_of c).used 0)) counting_row) ≡ table_of c
unfolding table_of
rowed n c k = ap (put_order (table_of c)) (later_ext _ _ (λ q l. member_set _ q l
    ∙ ap (λ (b : Bool). not (eqb q 0) && b) (member_set c.land.used q l)) ∙ sym k.row)
