-- How long a text of joined parts is. Assumes nothing.
-- Idea: count the gap that the next part would need to the text so far; then every part costs its own length and one gap.
use Rattle.std.specs.Prelude.{◌≡◌, Bool, cond, eqb, ltb}
use Rattle.std.proofs.Math.Path.{refl, ap}
use Rattle.std.proofs.Math.Bool.{true, false}
use mathlib.Core.List.{List, [], ◌∷◌, ◌++◌}
use Prim.Native.Nat.{ℕ, zero, suc, ◌+◌, ◌/◌, ◌%◌, ◌^◌, ◌≤◌, ◌<◌, zero-le}
use Rattle.std.proofs.Math.Nat.{le_refl}
use Rattle.std.proofs.Common.{pow-suc}
use native.Mathlib.Omega.{arith}
use Rattle.std.proofs.Math.ListN.{length, length-append}
use borrow.Author.Tests.{eqb-true, ltb-false}
use Rattle.table.specs.Base.{fold_up, sum_below}
use Rattle.table.proofs.BaseLaws.{Told, yea, nay, told}
use Rattle.meaning.specs.Text.{digits, gap, joined, joined_all}
use Rattle.meaning.specs.Sorted.{leq, insert, sorted}
use Rattle.meaning.specs.Listing.{texts_of}
use Rattle.lengths.proofs.Sums.{pick}

-- ---- decimals

-- one digit, or one more than a tenth of the number has
digits_either : (k n m : ℕ) → 1 ≤ m → (10 ≤ n → suc (length (digits k (n / 10))) ≤ m) → length (digits (suc k) n) ≤ m
unfolding digits
digits_either k n m l h = go (told (ltb n 10))
  where
    go : Told (ltb n 10) → length (digits (suc k) n) ≤ m
    go (yea e) = rw e l
    go (nay e) = rw (e, length-append (digits k (n / 10)) ((48 + n % 10) ∷ [])) (omega (arith, h (ltb-false n 10 e)))

-- a number below 10 ^ (d + 1) has at most d + 1 digits
pub digits_short : (k d n : ℕ) → n < 10 ^ suc d → length (digits k n) ≤ suc d
digits_short zero d n l = unfold digits in zero-le
digits_short (suc k) zero n l = digits_either k n 1 (le_refl 1) (λ h. absurd (omega (arith, h, l)))
digits_short (suc k) (suc d) n l = digits_either k n (suc (suc d)) (omega arith) (λ h. omega (arith, digits_short k d (n / 10) (omega (arith, pow-suc 10 (suc d)))))

-- a number written with at most k digits has at most k
pub digits_most : (k n : ℕ) → length (digits k n) ≤ k
digits_most zero n = unfold digits in zero-le
digits_most (suc k) n = digits_either k n (suc k) (omega arith) (λ h. omega (arith, digits_most k (n / 10)))

-- ---- joined parts

-- the length of a text with the gap that the next part would need
unfoldable pub room : List ℕ → List ℕ → ℕ
room by s = length s + length (gap by s)

module _ (by : List ℕ) where
  gap_short : (s : List ℕ) → length (gap by s) ≤ length by
  unfolding gap
  gap_short s = go (eqb (length s) 0)
    where
      go : (b : Bool) → length (cond b [] by) ≤ length by
      go true = zero-le
      go false = le_refl (length by)

  pub room_none : room by [] ≡ 0
  unfolding room gap
  room_none = refl

  pub length_room : (s : List ℕ) → length s ≤ room by s
  unfolding room
  length_room s = omega arith

  -- the last gap is not written
  pub room_length : (s : List ℕ) (n : ℕ) → room by s ≤ n + length by → length s ≤ n
  unfolding room gap
  room_length s n l = go (told (eqb (length s) 0)) l
    where
      go : Told (eqb (length s) 0) → length s + length (cond (eqb (length s) 0) [] by) ≤ n + length by → length s ≤ n
      go (yea e) h = omega (arith, eqb-true (length s) 0 e)
      go (nay e) h = omega (arith, ap (λ (b : Bool). length (cond b [] by)) e, h)

  -- one part more, if it is there
  pub room_turn : (b : Bool) (s part : List ℕ) (k : ℕ) → length part + length by ≤ k → room by (cond b (joined by s part) s) ≤ room by s + pick b k
  room_turn false s part k l = omega arith
  room_turn true s part k l = unfold room in
      omega (arith, gap_short ((s ++ gap by s) ++ part), length-append (s ++ gap by s) part, length-append s (gap by s))

  pub room_fold : (f : ℕ → List ℕ → List ℕ) (g : ℕ → ℕ) → ((i : ℕ) (s : List ℕ) → room by (f i s) ≤ room by s + g i)
      → (n : ℕ) (s : List ℕ) → room by (fold_up f n s) ≤ room by s + sum_below g n
  unfolding fold_up sum_below
  room_fold f g h zero s = omega arith
  room_fold f g h (suc n) s = omega (arith, room_fold f g h n s, h n (fold_up f n s))

-- ---- parts in order

-- the lengths of the parts, each with a gap
unfoldable pub weight : ℕ → List (List ℕ) → ℕ
weight g [] = 0
weight g (x ∷ parts) = length x + g + weight g parts

insert_weight : (g : ℕ) (x : List ℕ) (parts : List (List ℕ)) → weight g (insert x parts) ≡ length x + g + weight g parts
unfolding weight insert
insert_weight g x [] = refl
insert_weight g x (y ∷ parts) = go (told (leq y x)) (insert_weight g x parts)
  where
    go : Told (leq y x) → weight g (insert x parts) ≡ length x + g + weight g parts
        → weight g (insert x (y ∷ parts)) ≡ length x + g + weight g (y ∷ parts)
    go (yea t) e = rw t (omega (arith, e))
    go (nay t) e = rw t

-- put in order they are as long
pub sorted_weight : (g : ℕ) (parts : List (List ℕ)) → weight g (sorted parts) ≡ weight g parts
unfolding weight sorted
sorted_weight g [] = refl
sorted_weight g (x ∷ parts) = omega (arith, insert_weight g x (sorted parts), sorted_weight g parts)

pub append_weight : (g : ℕ) (parts more : List (List ℕ)) → weight g (parts ++ more) ≡ weight g parts + weight g more
unfolding weight
append_weight g [] more = omega arith
append_weight g (x ∷ parts) more = omega (arith, append_weight g parts more)

-- the texts of those that are meant, where none is longer than f tells
pub texts_weight : (g : ℕ) (meant : ℕ → Bool) (text : ℕ → List ℕ) (f : ℕ → ℕ) → ((i : ℕ) → length (text i) + g ≤ f i)
    → (n : ℕ) → weight g (texts_of meant text n) ≤ sum_below (λ i. pick (meant i) (f i)) n
unfolding weight texts_of sum_below
texts_weight g meant text f h zero = omega arith
texts_weight g meant text f h (suc n) = go (told (meant n)) (texts_weight g meant text f h n)
  where
    go : Told (meant n) → weight g (texts_of meant text n) ≤ sum_below (λ i. pick (meant i) (f i)) n
        → weight g (texts_of meant text (suc n)) ≤ sum_below (λ i. pick (meant i) (f i)) (suc n)
    go (yea t) e = rw t (omega (arith, e, h n))
    go (nay t) e = rw t (omega (arith, e))

-- all parts joined after a text
pub room_all : (by s : List ℕ) (parts : List (List ℕ)) → room by (joined_all by s parts) ≤ room by s + weight (length by) parts
unfolding weight joined_all
room_all by s [] = omega arith
room_all by s (x ∷ parts) = omega (arith, room_all by (joined by s x) parts, room_turn by true s x (length x + length by) (omega arith))
