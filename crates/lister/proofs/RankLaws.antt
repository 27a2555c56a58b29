-- Rows of part numbers in byte order: where a part goes, found by halving, and the row once it is put in. Assumes nothing.
-- Idea: the row's texts are the sorted texts, so those that a part does not come before are the first ones.
use Rattle.std.specs.Prelude.{◌≡◌, Bool, true, false, List, [], ◌∷◌, ◌++◌, map, ℕ, zero, suc, ◌+◌, ◌-◌, ◌≤◌, ◌<◌, length, get_or, take, drop}
use Rattle.std.proofs.Math.Path.{refl}
use Rattle.std.proofs.Common.{sym, ap, ap₂, ◌∙◌, subst, arith, add-one, drop_of_length-le, length-take-le, get_or-take, take_all}
use Rattle.std.proofs.lemmas.List.{length-map}
use Rattle.meaning.specs.Sorted.{leq, insert, sorted}
use Rattle.meaning.proofs.SortedLaws.{Text}
use Rattle.meaning.proofs.InsertLaws.{insert_at, Ordered, ordered_sorted, ordered_past}
use Rattle.meaning.proofs.Every.{every_at, every_so}
use Rattle.meaning.specs.Every.{every_none, Every}
use Rattle.lister.specs.Cuts.{part_at, laid, counted, in_row, put_in, Row, Rank, Ordering}
use Rattle.lister.proofs.PutLaws.{put_take, put_length, map_put, every_put}

-- ---- the texts of a row

-- the text of the number at a position
at_map : (f : ℕ → Text) (l : List ℕ) (j : ℕ) → j < length l → get_or (map f l) j [] ≡ f (get_or l j 0)
at_map f [] j h = absurd (omega arith)
at_map f (x ∷ l) zero h = refl
at_map f (x ∷ l) (suc j) h = at_map f l j (omega arith)

-- what was asked of a number that was read from a row
pub asked : (text : ℕ → Text) (i : ℕ) {w k : ℕ} {r t : Bool} → w ≡ k → r ≡ leq (text w) (text i) → r ≡ t → leq (text k) (text i) ≡ t
asked text i e p q = ap (λ (k : ℕ). leq (text k) (text i)) (sym e) ∙ sym p ∙ q

-- where the search stands: those below low are the text or come before it, the one at high does not
pub record Between (text : ℕ → Text) (row : List ℕ) (i low high : ℕ) : Type 0 where
  pub parts : low ≤ high
  pub last : high < i
  pub under : (j : ℕ) → j < low → leq (text (get_or row j 0)) (text i) ≡ true
  pub over : leq (text (get_or row high 0)) (text i) ≡ false

module _ {marks b row : List ℕ} {i : ℕ} (o : Row marks b i row) (few : i ≤ 64) where
  -- the text of a part
  abbrev text : ℕ → Text
  text = part_at marks b

  full : i ≤ length row
  full = omega (arith, o.full)

  -- as many as the row has
  long : length (in_row text i row) ≡ i
  long = length-map (take i row) text ∙ length-take-le i row full

  -- the text at a position
  text_at : (j : ℕ) → j < i → get_or (in_row text i row) j [] ≡ text (get_or row j 0)
  text_at j l = at_map text (take i row) j (omega (arith, length-take-le i row full)) ∙ ap text (get_or-take i row j 0 l)

  -- compared with a text
  leq_at : (j : ℕ) → j < i → leq (get_or (in_row text i row) j []) (text i) ≡ leq (text (get_or row j 0)) (text i)
  leq_at j l = ap (λ (x : Text). leq x (text i)) (text_at j l)

  -- a text that goes past one goes past all before it
  past : (j m : ℕ) → j ≤ m → m < i → leq (text (get_or row m 0)) (text i) ≡ true → leq (text (get_or row j 0)) (text i) ≡ true
  past j m a l e =
      let r : Ordered (in_row text i row) = subst Ordered (sym o.order) (ordered_sorted (laid text i)) in
      sym (leq_at j (omega arith)) ∙ ordered_past r (text i) j m a (omega (arith, long)) (leq_at m l ∙ e)

  -- the place of a text
  rank_at : (r : ℕ) → r ≤ i → ((j : ℕ) → j < r → leq (text (get_or row j 0)) (text i) ≡ true) → (r < i → leq (text (get_or row r 0)) (text i) ≡ false)
      → Rank text row i r
  rank_at r l u v = record {
    low = l;
    put = insert_at (text i) (in_row text i row) r (omega (arith, long)) (λ j k. leq_at j (omega arith) ∙ u j k)
        (λ k. let z : r < i = omega (arith, long) in leq_at r z ∙ v z);
  }

  -- of the first
  pub rank_none : i ≡ 0 → Rank text row i 0
  rank_none e = rank_at 0 (omega arith) (λ j k. absurd (omega arith)) (λ k. absurd (omega arith))

  -- of one that goes past the last
  pub rank_last : (i ≡ 0 → ⊥) → leq (text (get_or row (i - 1) 0)) (text i) ≡ true → Rank text row i i
  rank_last n e = rank_at i (omega arith) (λ j k. past j (i - 1) (omega arith) (omega arith) e) (λ k. absurd (omega arith))

  -- of one that goes before the first
  pub rank_first : leq (text (get_or row 0 0)) (text i) ≡ false → Rank text row i 0
  rank_first e = rank_at 0 (omega arith) (λ j k. absurd (omega arith)) (λ k. e)

  -- the search begins
  pub search_all : (i ≡ 0 → ⊥) → leq (text (get_or row (i - 1) 0)) (text i) ≡ false → Between text row i 0 (i - 1)
  search_all n e = record { parts = omega arith; last = omega arith; under = λ j k. absurd (omega arith); over = e }

  module _ {low high : ℕ} (w : Between text row i low high) where
    -- the text goes past the one in the middle
    pub search_up : (m : ℕ) → m < high → leq (text (get_or row m 0)) (text i) ≡ true → Between text row i (m + 1) high
    search_up m l e = record {
      parts = omega arith;
      last = w.last;
      under = λ j k. past j m (omega arith) (omega (arith, w.last)) e;
      over = w.over;
    }

    -- or does not
    pub search_down : (m : ℕ) → low ≤ m → m < high → leq (text (get_or row m 0)) (text i) ≡ false → Between text row i low m
    search_down m a l e = record { parts = a; last = omega (arith, w.last); under = w.under; over = e }

    -- nothing is between
    pub search_end : high ≤ low → Rank text row i low
    search_end l =
        let e : high ≡ low = omega (arith, w.parts) in
        rank_at low (omega (arith, w.last)) w.under (λ k. ap (λ (z : ℕ). leq (text (get_or row z 0)) (text i)) (sym e) ∙ w.over)

-- ---- the row

-- one text more
sorted_more : (text : ℕ → Text) (i : ℕ) → insert (text i) (sorted (laid text i)) ≡ sorted (laid text (i + 1))
unfolding laid sorted
sorted_more text i = sym (ap (λ (k : ℕ). sorted (laid text k)) (add-one i))

-- at the end
counted_more : (text : ℕ → Text) (i : ℕ) → counted text i ++ (text i ∷ []) ≡ counted text (i + 1)
unfolding counted
counted_more text i = sym (ap (counted text) (add-one i))

module _ {marks b : List ℕ} where
  -- no part yet
  pub order_start : {row : List ℕ} → length row ≡ 64 → Ordering marks b 0 row 0
  unfolding laid counted sorted
  order_start l = record { sorts = record { full = l; low = every_none; order = refl }; few = omega arith; kept = λ e. refl }

  module _ {row : List ℕ} {i : ℕ} (o : Row marks b i row) where
    -- every number of it is that of one of its parts
    pub row_low : (j : ℕ) → j < i → i ≤ 64 → get_or row j 0 < i
    row_low j l k =
        let n : length (take i row) ≡ i = length-take-le i row (omega (arith, o.full)) in
        let h = every_at 0 o.low j (omega arith) in
        let e : get_or (take i row) j 0 ≡ get_or row j 0 = get_or-take i row j 0 l in
        omega arith

    module _ {at : ℕ} (h : i < 64) (r : Rank (part_at marks b) row i at) where
      -- what the first of it are once a part is put in
      placed : take (i + 1) (put_in at i i row) ≡ take at (take i row) ++ (i ∷ drop at (take i row))
      placed = ap (λ (k : ℕ). take k (put_in at i i row)) (add-one i) ∙ put_take at i i row r.low (omega (arith, o.full))

      inserted : insert (part_at marks b i) (in_row (part_at marks b) i row) ≡ sorted (laid (part_at marks b) (i + 1))
      inserted = ap (insert (part_at marks b i)) o.order ∙ sorted_more (part_at marks b) i

      -- one part more
      pub row_more : Row marks b (i + 1) (put_in at i i row)
      row_more = record {
        full = put_length at i i row ∙ o.full;
        low = subst (Every (λ k. k < i + 1)) (sym placed) (every_put at i (omega arith) (every_so (λ k l. omega arith) o.low));
        order = ap (map (part_at marks b)) placed ∙ map_put (part_at marks b) at i (take i row) ∙ sym r.put ∙ inserted;
      }

      -- how far parts were moved
      pub order_more : {moved : ℕ} → Ordering marks b i row moved → Ordering marks b (i + 1) (put_in at i i row) (moved + (i - at))
      order_more {moved} w = record { sorts = row_more; few = omega (arith, w.few); kept = λ e. sym inserted ∙ r.put ∙ last (omega arith) ∙ next (w.kept (omega arith)) }
        where
          long : length (in_row (part_at marks b) i row) ≡ i
          long = length-map (take i row) (part_at marks b) ∙ length-take-le i row (omega (arith, o.full))

          last : i ≤ at → take at (in_row (part_at marks b) i row) ++ (part_at marks b i ∷ drop at (in_row (part_at marks b) i row)) ≡ in_row (part_at marks b) i row ++ (part_at marks b i ∷ [])
          last l = ap₂ (λ (x y : List Text). x ++ (part_at marks b i ∷ y)) (take_all at _ (omega (arith, long))) (drop_of_length-le (in_row (part_at marks b) i row) {i = at} (omega (arith, long)))

          next : sorted (laid (part_at marks b) i) ≡ counted (part_at marks b) i → in_row (part_at marks b) i row ++ (part_at marks b i ∷ []) ≡ counted (part_at marks b) (i + 1)
          next k = ap (λ (x : List Text). x ++ (part_at marks b i ∷ [])) (o.order ∙ k) ∙ counted_more (part_at marks b) i
