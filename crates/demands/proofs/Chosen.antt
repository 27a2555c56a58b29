-- The choice of stage 2: the wish, or the place that qualifies and stands first in the row, or none. By whether the wish qualifies, and then
-- whether any place does. And that the order of a sound table is strict.
use Rattle.std.specs.Prelude.{◌≡◌, ◌≢◌, Bool, true, false, List, ℕ, ◌<◌, ltb}
use Rattle.std.proofs.Common.{subst, arith, ltb-true, ltb-false, lt-ltb}
use Rattle.sets.specs.Word.{upto}
use Rattle.order.specs.Row.{first_in, occurs, position_of}
use Rattle.order.proofs.RowLaws.{fits_occurs, strict}
use Rattle.order.proofs.RowLawsFirst.{first_fits, first_most, first_before, first_none}
use Rattle.table.proofs.BaseLaws.{Told, yea, nay, told, clash, and_left, and_right}
use Rattle.table.specs.Bounds.{Sized}
use Rattle.table.specs.Cell.{Land, linked_to, cell_of}
use Rattle.table.proofs.CellLaws.{in_use}
use Rattle.table.specs.Sound.{sound}
use Rattle.table.proofs.SoundParts.{sound_order}
use Rattle.table.specs.declared.Cell.{Cell}
use Rattle.meaning.specs.Step.{qualifies, chosen_of, choose}
use Rattle.demands.proofs.Facts.{not_yes}

-- ---- the claim

-- "Enter and open choose the wished place if it qualifies. .. Other wishes are passed over." "Where no fitting wish is given, enter and open
-- choose the qualifying place that has been under this parent longest" (document 02, W5): the one that stands before every other in the row.
-- fits says which places qualify; 64 is none
pub data Chosen (row : List ℕ) (fits : ℕ → Bool) (wish : ℕ) : ℕ → Type 0 where
  the_wish : wish < 64 → fits wish ≡ true → Chosen row fits wish wish
  the_first : (q : ℕ) → (wish < 64 → fits wish ≡ false) → q < 64 → fits q ≡ true
      → ((r : ℕ) → r < 64 → fits r ≡ true → r ≢ q → position_of q row < position_of r row) → Chosen row fits wish q
  nothing_fits : (wish < 64 → fits wish ≡ false) → ((r : ℕ) → r < 64 → occurs r row ≡ true → fits r ≡ false) → Chosen row fits wish 64

-- ---- the law

module _ (row : List ℕ) (f : ℕ → Bool) (wish : ℕ) where
  -- those below 64 that qualify
  inside : (r : ℕ) → r < 64 → f r ≡ true → upto 64 f r ≡ true
  inside r l t = rw (lt-ltb r 64 l) t

  small : (r : ℕ) → upto 64 f r ≡ true → r < 64
  small r e = ltb-true r 64 (and_left (ltb r 64) (f r) e)

  outside : (r : ℕ) → r < 64 → upto 64 f r ≡ false → f r ≡ false
  outside r l e = not_yes (f r) (λ t. clash (inside r l t) e)

  -- where the wish does not qualify the first of the row is chosen, if there is one
  unwished : upto 64 f wish ≡ false → Chosen row f wish (first_in (upto 64 f) row)
  unwished e = go (told (ltb (first_in (upto 64 f) row) 64))
    where
      go : Told (ltb (first_in (upto 64 f) row) 64) → Chosen row f wish (first_in (upto 64 f) row)
      go (yea l) = let low = ltb-true (first_in (upto 64 f) row) 64 l in
          the_first _ (λ k. outside wish k e) low
          (and_right (ltb (first_in (upto 64 f) row) 64) _ (first_fits (upto 64 f) row low))
          (λ r k t n. first_before (upto 64 f) row low r (inside r k t) n)
      go (nay l) = let high = ltb-false (first_in (upto 64 f) row) 64 l in
          subst (Chosen row f wish) (omega (arith, high, first_most (upto 64 f) row small))
          (nothing_fits (λ k. outside wish k e) (λ r k o. outside r k (first_none (upto 64 f) row small high r o)))

  chosen_of_lem : Chosen row f wish (chosen_of row (upto 64 f) wish)
  unfolding chosen_of
  chosen_of_lem = go (told (upto 64 f wish))
    where
      go : Told (upto 64 f wish) → Chosen row f wish (chosen_of row (upto 64 f) wish)
      go (yea e) = rw (e, chosen_of) (the_wish (small wish e) (and_right (ltb wish 64) (f wish) e))
      go (nay e) = rw (e, chosen_of) (unwished e)

-- in every land: what is chosen is the wish, the first in the row that qualifies, or none
pub choice_first : (l : Land) (kind n home p wish : ℕ) → Chosen l.order (qualifies l kind n home p) wish (choose l kind n home p wish)
unfolding choose
choice_first l kind n home p wish = chosen_of_lem l.order (qualifies l kind n home p) wish

-- "In a sound table this order is strict under each parent": two places linked to one parent do not stand at the same position
pub order_strict : (t : Cell) → Sized t → sound (cell_of t) ≡ true → (p q r : ℕ) → linked_to (cell_of t).land q p ≡ true → linked_to (cell_of t).land r p ≡ true
    → q ≢ r → position_of q t.order ≢ position_of r t.order
unfolding cell_of linked_to
order_strict t z s p q r a b n e = n (strict q r t.order (stands q a) (stands r b) e)
  where
    stands : (j : ℕ) → linked_to (cell_of t).land j p ≡ true → occurs j t.order ≡ true
    stands j k = fits_occurs t.order (sound_order (cell_of t) s) j (in_use t z j (and_left ((cell_of t).land.used j) _ k))
