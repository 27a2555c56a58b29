-- The loops over a row, turn by turn: what a test keeps, written to the front of an array, and then the rest behind it. Assumes nothing.
-- Idea: a number is stored in every turn, and counts only if it passes; the next one is stored over it where it does not.
use Rattle.std.specs.Prelude.{◌≡◌, refl, Bool, true, false, not, ℕ, zero, suc, ◌+◌, ◌-◌, ◌≤◌, ◌<◌, eqb, length, get_or, take, set, replicate}
use borrow.Rule.Slice.PartMut.{put_mid, post_of}
use Rattle.std.proofs.Math.Path.{sym, ap₂}
use Rattle.std.proofs.Common.{ap, ◌∙◌, subst, zero-le, add-zero, arith, take_all, take-suc, take-suc-set, length-take-le, drop, length-drop, drop_of_length-le, eqb-true}
use mathlib.Core.List.{List, [], ◌∷◌, ◌++◌, append-nil}
use Rattle.std.proofs.Math.ListN.{length-set}
use Rattle.std.proofs.Math.Seq.{take-append-add}
use Rattle.std.proofs.lemmas.List.{take-set-le}
use Rattle.sets.specs.Word.{bit}
use Rattle.sets.proofs.ToldLaws.{Told, yea, nay, told}
use Rattle.order.specs.Row.{keep, later, latest, counting, counting_row}
use Rattle.order.specs.Parted.{IsParted}
use Rattle.order.specs.declared.Parted.{Parted}
use Rattle.order.proofs.RowLaws.{keep_append, keep_both}

-- ---- what a test keeps, written to the front

-- one number more
keep_more : (f : ℕ → Bool) (row : List ℕ) (j : ℕ) → j < length row → keep f (take (j + 1) row) ≡ keep f (take j row) ++ keep f (get_or row j 0 ∷ [])
keep_more f row j l = let n : j + 1 ≡ suc j = omega arith in
    ap (λ (k : ℕ). keep f (take k row)) n ∙ ap (keep f) (take-suc row j 0 l) ∙ keep_append f (take j row) (get_or row j 0 ∷ [])

-- the first n of an array are those of the first j of the order that pass
pub record Front (f : ℕ → Bool) (order row : List ℕ) (n j : ℕ) : Type 0 where
  pub full : length row ≡ 64
  pub few : n ≤ j
  pub written : take n row ≡ keep f (take j order)

pub front_start : (f : ℕ → Bool) (order row : List ℕ) → length row ≡ 64 → Front f order row 0 0
unfolding keep
front_start f order row l = record { full = l; few = zero-le; written = refl }

module _ {f : ℕ → Bool} {order row : List ℕ} {n j : ℕ} (size : length order ≡ 64) (a : Front f order row n j) (l : j < 64) where
  front_more : keep f (take (j + 1) order) ≡ take n row ++ keep f (get_or order j 0 ∷ [])
  front_more = keep_more f order j (omega (arith, size)) ∙ ap (λ (r : List ℕ). r ++ keep f (get_or order j 0 ∷ [])) (sym a.written)

  -- a turn: the number is stored, and counts if it passes
  pub front_turn : Front f order (set row n (get_or order j 0)) (n + bit (f (get_or order j 0))) (j + 1)
  unfolding keep
  front_turn = record {
    full = length-set row n (get_or order j 0) ∙ a.full;
    few = few (told (f (get_or order j 0)));
    written = go (told (f (get_or order j 0)));
  }
    where
      few : Told (f (get_or order j 0)) → n + bit (f (get_or order j 0)) ≤ j + 1
      few (yea e) = rw e (let k = a.few in omega arith)
      few (nay e) = rw e (let k = a.few in omega arith)

      go : Told (f (get_or order j 0)) → take (n + bit (f (get_or order j 0))) (set row n (get_or order j 0)) ≡ keep f (take (j + 1) order)
      go (yea e) =
          let m : n + bit (f (get_or order j 0)) ≡ suc n = ap (λ (b : Bool). n + bit b) e ∙ omega arith in
          ap (λ (k : ℕ). take k (set row n (get_or order j 0))) m
          ∙ take-suc-set row n (get_or order j 0) (let k = a.few in let z = a.full in omega arith)
          ∙ sym (front_more ∙ ap (λ (r : List ℕ). take n row ++ r) (rw e))
      go (nay e) =
          let m : n + bit (f (get_or order j 0)) ≡ n = ap (λ (b : Bool). n + bit b) e ∙ add-zero n in
          ap (λ (k : ℕ). take k (set row n (get_or order j 0))) m
          ∙ take-set-le n row n (get_or order j 0) (omega arith)
          ∙ sym (front_more ∙ ap (λ (r : List ℕ). take n row ++ r) (rw e) ∙ append-nil (take n row))

-- at the end it is what the test keeps of the order
pub front_end : {f : ℕ → Bool} {order row : List ℕ} {n j : ℕ} → length order ≡ 64 → Front f order row n j → 64 ≤ j → take n row ≡ keep f order
front_end {f} {order} {row} {n} {j} size a l = a.written ∙ ap (keep f) (take_all j order (omega (arith, size)))

-- what a loop over the order parts: the others and those that pass, both in their order
pub record Parts (f : ℕ → Bool) (order others members : List ℕ) (n m j : ℕ) : Type 0 where
  pub rest : Front (λ q. not (f q)) order others n j
  pub those : Front f order members m j

pub parts_start : (f : ℕ → Bool) (order : List ℕ) → length order ≡ 64 → Parts f order order order 0 0 0
parts_start f order l = record { rest = front_start _ order order l; those = front_start f order order l }

less_bit : (n : ℕ) (b : Bool) → n + (1 - bit b) ≡ n + bit (not b)
less_bit n true = refl
less_bit n false = refl

pub parts_turn : (f : ℕ → Bool) {order others members : List ℕ} {n m j : ℕ} → length order ≡ 64 → Parts f order others members n m j → j < 64
    → (one : ℕ) → one ≡ bit (f (get_or order j 0))
    → Parts f order (set others n (get_or order j 0)) (set members m (get_or order j 0)) (n + (1 - one)) (m + one) (j + 1)
parts_turn f {order} {others} {members} {n} {m} {j} size a l one e = record {
  rest = subst (λ (x : ℕ). Front (λ q. not (f q)) order (set others n (get_or order j 0)) x (j + 1))
      (sym (ap (λ (x : ℕ). n + (1 - x)) e ∙ less_bit n (f (get_or order j 0)))) (front_turn size a.rest l);
  those = subst (λ (x : ℕ). Front f order (set members m (get_or order j 0)) (m + x) (j + 1)) (sym e) (front_turn size a.those l);
}

-- in the end they are all of the order
pub parts_end : {f : ℕ → Bool} {order others members : List ℕ} {n m j : ℕ} → length order ≡ 64 → Parts f order others members n m j → n + m ≡ j → j ≡ 64
    → IsParted f order (record { others = others; count = n; members = members })
parts_end {f} {order} {others} {members} {n} {m} {j} size a all l = record {
  full = a.rest.full;
  few = omega arith;
  rest = front_end size a.rest (omega arith);
  those = let e : 64 - n ≡ m = omega arith in ap (λ (x : ℕ). take x members) e ∙ front_end size a.those (omega arith);
}

-- ---- the row that is made of the parts

module _ {f : ℕ → Bool} {order : List ℕ} {p : Parted} (size : length order ≡ 64) (a : IsParted f order p) where
  -- behind the others is room for as many as pass
  rest_many : length (take p.count p.others) ≡ p.count
  rest_many = length-take-le p.count p.others (let x = a.few in let y = a.full in omega arith)

  room : 64 ≡ length (take p.count p.others) + length (keep f order)
  room = omega (arith, keep_both f order, size, ap length a.rest)

  -- any row that begins with those that pass, put behind the others
  pub parts_then : (lasts : List ℕ) → take (length (keep f order)) lasts ≡ keep f order → take 64 (take p.count p.others ++ lasts) ≡ later f order
  unfolding later
  parts_then lasts e =
      ap (λ (n : ℕ). take n (take p.count p.others ++ lasts)) room ∙ take-append-add (take p.count p.others) lasts (length (keep f order))
      ∙ ap₂ (λ (x y : List ℕ). x ++ y) a.rest e

  pub parts_later : take 64 (take p.count p.others ++ p.members) ≡ later f order
  parts_later = parts_then p.members (ap (λ (n : ℕ). take n p.members) many ∙ a.those)
    where
      many : length (keep f order) ≡ 64 - p.count
      many = omega (arith, room, rest_many)

pub parts_filled : {f : ℕ → Bool} {order : List ℕ} {p : Parted} (lasts : List ℕ) → IsParted f order p
    → take 64 (take p.count p.others ++ lasts) ≡ take 64 (keep (λ q. not (f q)) order ++ lasts)
parts_filled lasts a = ap (λ (r : List ℕ). take 64 (r ++ lasts)) a.rest

-- a row, of which the first n numbers stay and the others are written from ys on, as many as there is room for
pub then_row : (n : ℕ) (row lasts ys : List ℕ) → length row ≡ 64 → n ≤ 64 → ys ≡ take (64 - n) lasts → put_mid n (64 - n) row ys ≡ take 64 (take n row ++ lasts)
then_row n row lasts ys size l e =
    ap (λ (r : List ℕ). take n row ++ (ys ++ r)) gone ∙ ap (λ (r : List ℕ). take n row ++ r) (append-nil ys ∙ e)
    ∙ sym (ap (λ (x : ℕ). take x (take n row ++ lasts)) many ∙ take-append-add (take n row) lasts (64 - n))
  where
    gone : post_of n (64 - n) row ≡ []
    gone = drop_of_length-le (drop n row) (omega (arith, length-drop n row, size))

    many : 64 ≡ length (take n row) + (64 - n)
    many = omega (arith, length-take-le n row (omega (arith, size)))

-- ---- where one number becomes the latest, those that pass are that number, as often as it stands in the row

keep_one : (m : ℕ) (row : List ℕ) → keep (λ q. eqb q m) row ≡ replicate (length (keep (λ q. eqb q m) row)) m
unfolding keep
keep_one m [] = refl
keep_one m (q ∷ row) = go (told (eqb q m)) (keep_one m row)
  where
    go : Told (eqb q m) → keep (λ r. eqb r m) row ≡ replicate (length (keep (λ r. eqb r m) row)) m
        → keep (λ r. eqb r m) (q ∷ row) ≡ replicate (length (keep (λ r. eqb r m) (q ∷ row))) m
    go (yea e) h = rw (e, keep) (ap₂ (λ (x : ℕ) (r : List ℕ). x ∷ r) (eqb-true q m e) h)
    go (nay e) h = rw (e, keep) h

take_same : (k n m : ℕ) → k ≤ n → take k (replicate n m) ≡ replicate k m
take_same zero n m l = refl
take_same (suc k) zero m l = absurd (omega arith)
take_same (suc k) (suc n) m l = ap (λ (r : List ℕ). m ∷ r) (take_same k n m (omega arith))

-- the others, and q wherever there is room
pub parts_latest : (q : ℕ) {order : List ℕ} {p : Parted} → length order ≡ 64 → IsParted (λ r. eqb r q) order p → take 64 (take p.count p.others ++ replicate 64 q) ≡ latest q order
parts_latest q {order} {p} size a =
    parts_then size a (replicate 64 q) (take_same (length (keep (λ r. eqb r q) order)) 64 q (omega (arith, keep_both (λ r. eqb r q) order, size)) ∙ sym (keep_one q order))

-- ---- the loop that counts

counting_more : (n k : ℕ) → counting (suc n) k ≡ counting n k ++ ((k + n) ∷ [])
unfolding counting
counting_more zero k = ap (λ (m : ℕ). m ∷ []) (sym (add-zero k))
counting_more (suc n) k = ap (λ (r : List ℕ). k ∷ r) (counting_more n (suc k) ∙ ap (λ (m : ℕ). counting n (suc k) ++ (m ∷ [])) (omega arith))

-- the first q numbers of a row are those below q
pub record Counted (row : List ℕ) (q : ℕ) : Type 0 where
  pub full : length row ≡ 64
  pub end : q ≤ 64
  pub written : take q row ≡ counting q 0

pub counted_start : Counted (replicate 64 0) 0
unfolding counting
counted_start = record { full = refl; end = zero-le; written = refl }

pub counted_turn : {row : List ℕ} {q : ℕ} → Counted row q → q < 64 → Counted (set row q q) (q + 1)
counted_turn {row} {q} a l = record {
  full = length-set row q q ∙ a.full;
  end = omega arith;
  written =
      let m : q + 1 ≡ suc q = omega arith in
      let z : 0 + q ≡ q = omega arith in
      ap (λ (x : ℕ). take x (set row q q)) m ∙ take-suc-set row q q (let z = a.full in omega arith) ∙ ap (λ (r : List ℕ). r ++ (q ∷ [])) a.written
      ∙ sym (ap (λ (x : ℕ). counting x 0) m ∙ counting_more q 0 ∙ ap (λ (x : ℕ). counting q 0 ++ (x ∷ [])) z);
}

pub counted_end : {row : List ℕ} {q : ℕ} → Counted row q → 64 ≤ q → row ≡ counting_row
unfolding counting_row
counted_end {row} {q} a l =
    let e : q ≡ 64 = omega (arith, a.end) in
    sym (take_all q row (omega (arith, a.full))) ∙ a.written ∙ ap (λ (x : ℕ). counting x 0) e
