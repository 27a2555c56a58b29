-- The loops over a row that put a second row behind the first one, number by number, in two passes. Assumes nothing.
-- Idea: a number is stored in every turn, and counts only if it passes; the next one is stored over it where it does not.
use Rattle.std.specs.Prelude.{◌≡◌, refl, Bool, not, ℕ, suc, ◌+◌, ◌-◌, ◌≤◌, ◌<◌, eqb, length, get_or, take, set, replicate, true, false, zero}
use Rattle.std.proofs.Math.Path.{sym, ap₂}
use Rattle.std.proofs.Common.{eqb-true, ap, ◌∙◌, subst, zero-le, add-zero, arith, take_all, take-suc, take-suc-set, length-take-le}
use Rattle.std.proofs.Math.Seq.{take-append-add}
use mathlib.Core.List.{List, [], ◌∷◌, ◌++◌, append-nil, append_assoc}
use Rattle.std.proofs.Math.ListN.{length-set}
use Rattle.std.proofs.lemmas.List.{length-replicate, get_or-replicate}
use Rattle.sets.specs.Word.{bit}
use Rattle.sets.proofs.WordLaws.{bit_lt}
use Rattle.sets.proofs.ToldLaws.{Told, yea, nay, told}
use Rattle.order.specs.Row.{keep, later, latest}
use Rattle.order.proofs.RowLaws.{keep_both}
use Rattle.order.proofs.RowLawsLoops.{Front, front_start, front_turn, front_end}

less_bit : (n : ℕ) (b : Bool) → n + (1 - bit b) ≡ n + bit (not b)
less_bit n true = refl
less_bit n false = refl

keep_one : (m : ℕ) (row : List ℕ) → keep (λ q. eqb q m) row ≡ replicate (length (keep (λ q. eqb q m) row)) m
unfolding keep
keep_one m [] = refl
keep_one m (q ∷ row) = go (told (eqb q m)) (keep_one m row)
  where
    go : Told (eqb q m) → keep (λ r. eqb r m) row ≡ replicate (length (keep (λ r. eqb r m) row)) m
        → keep (λ r. eqb r m) (q ∷ row) ≡ replicate (length (keep (λ r. eqb r m) (q ∷ row))) m
    go (yea e) h = rw (e, keep) (ap₂ (λ (x : ℕ) (r : List ℕ). x ∷ r) (eqb-true q m e) h)
    go (nay e) h = rw (e, keep) h

take_same : (k n m : ℕ) → k ≤ n → take k (replicate n m) ≡ replicate k m
take_same zero n m l = refl
take_same (suc k) zero m l = absurd (omega arith)
take_same (suc k) (suc n) m l = ap (λ (r : List ℕ). m ∷ r) (take_same k n m (omega arith))

-- ---- the rest of the row

-- a row, of which n₀ numbers were written before, with i numbers of a second one behind them
pub record Rest (before lasts : List ℕ) (n₀ : ℕ) (row : List ℕ) (n i : ℕ) : Type 0 where
  pub full : length row ≡ 64
  pub few : n ≤ 64
  pub many : n ≡ n₀ + i
  pub written : take n row ≡ take n₀ before ++ take i lasts

pub rest_start : (row lasts : List ℕ) (n : ℕ) → length row ≡ 64 → n ≤ 64 → Rest row lasts n row n 0
rest_start row lasts n l k = record { full = l; few = k; many = sym (add-zero n); written = sym (append-nil (take n row)) }

pub rest_turn : {before lasts row : List ℕ} {n₀ n i : ℕ} → Rest before lasts n₀ row n i → n < 64 → length lasts ≡ 64 → (v : ℕ) → v ≡ get_or lasts i 0
    → Rest before lasts n₀ (set row n v) (n + 1) (i + 1)
rest_turn {before} {lasts} {row} {n₀} {n} {i} a l z v e = record {
  full = length-set row n v ∙ a.full;
  few = omega arith;
  many = omega (arith, a.many);
  written =
      let m : n + 1 ≡ suc n = omega arith in
      let p : i + 1 ≡ suc i = omega arith in
      ap (λ (x : ℕ). take x (set row n v)) m ∙ take-suc-set row n v (let z = a.full in omega arith)
      ∙ ap₂ (λ (r : List ℕ) (x : ℕ). r ++ (x ∷ [])) a.written e ∙ append_assoc (take n₀ before) (take i lasts) (get_or lasts i 0 ∷ [])
      ∙ ap (λ (r : List ℕ). take n₀ before ++ r) (sym (ap (λ (x : ℕ). take x lasts) p ∙ take-suc lasts i 0 (omega (arith, a.many, z))));
}

-- ---- the whole row: the others, and behind them those that pass

module _ (f : ℕ → Bool) (order : List ℕ) (size : length order ≡ 64) {row lasts : List ℕ} {n j : ℕ} (a : Front (λ q. not (f q)) order row n j)
    (l : 64 ≤ j) (k : j ≤ 64) {new : List ℕ} {n' i : ℕ} (b : Rest row lasts n new n' i) (m : 64 ≤ n') where
  others : take n row ≡ keep (λ q. not (f q)) order
  others = front_end size a l

  -- behind them is room for as many as pass
  pub rest_many : i ≡ length (keep f order)
  rest_many = omega (arith, b.many, b.few, keep_both f order, size, sym (length-take-le n row (let x = a.few in let y = a.full in omega arith)) ∙ ap length others)

  pub rest_end : take i lasts ≡ keep f order → new ≡ later f order
  unfolding later
  rest_end e = sym (take_all n' new (omega (arith, b.full))) ∙ b.written ∙ ap₂ (λ (x y : List ℕ). x ++ y) others e

-- what a loop over the order parts: the others and those that pass, both in their order
pub record Parted (f : ℕ → Bool) (order row members : List ℕ) (n m j : ℕ) : Type 0 where
  pub others : Front (λ q. not (f q)) order row n j
  pub those : Front f order members m j
  pub all : n + m ≡ j
  pub end : j ≤ 64

pub parted_start : (f : ℕ → Bool) (order : List ℕ) → length order ≡ 64 → Parted f order order order 0 0 0
parted_start f order l = record { others = front_start _ order order l; those = front_start f order order l; all = refl; end = zero-le }

-- the others count where a number does not pass
pub others_turn : (f : ℕ → Bool) {order row : List ℕ} {n j one : ℕ} → length order ≡ 64 → Front (λ q. not (f q)) order row n j → j < 64
    → one ≡ bit (f (get_or order j 0)) → Front (λ q. not (f q)) order (set row n (get_or order j 0)) (n + (1 - one)) (j + 1)
others_turn f {order} {row} {n} {j} {one} size a l e =
    subst (λ (x : ℕ). Front (λ q. not (f q)) order (set row n (get_or order j 0)) x (j + 1))
    (sym (ap (λ (x : ℕ). n + (1 - x)) e ∙ less_bit n (f (get_or order j 0)))) (front_turn size a l)

pub parted_turn : (f : ℕ → Bool) {order row members : List ℕ} {n m j one : ℕ} → length order ≡ 64 → Parted f order row members n m j → j < 64
    → one ≡ bit (f (get_or order j 0)) → Parted f order (set row n (get_or order j 0)) (set members m (get_or order j 0)) (n + (1 - one)) (m + one) (j + 1)
parted_turn f {order} {row} {members} {n} {m} {j} {one} size a l e = record {
  others = others_turn f size a.others l e;
  those = subst (λ (x : ℕ). Front f order (set members m (get_or order j 0)) (m + x) (j + 1)) (sym e) (front_turn size a.those l);
  all = omega (arith, a.all, e, bit_lt (f (get_or order j 0)));
  end = omega arith;
}

pub parted_end : (f : ℕ → Bool) (order : List ℕ) → length order ≡ 64 → {row members : List ℕ} {n m j : ℕ} → Parted f order row members n m j → 64 ≤ j
    → {new : List ℕ} {n' i : ℕ} → Rest row members n new n' i → 64 ≤ n' → new ≡ later f order
parted_end f order size {row} {members} {n} {m} {j} a l {new} {n'} {i} b k =
    let e : i ≡ m = omega (arith, b.many, b.few, a.all, a.end) in
    rest_end f order size a.others l a.end b k (ap (λ (x : ℕ). take x members) e ∙ front_end size a.those l)

-- ---- where one number becomes the latest

-- a loop that leaves out q
pub record Without (q : ℕ) (order row : List ℕ) (n j : ℕ) : Type 0 where
  pub others : Front (λ r. not (eqb r q)) order row n j
  pub end : j ≤ 64

pub without_start : (q : ℕ) (order : List ℕ) → length order ≡ 64 → Without q order order 0 0
without_start q order l = record { others = front_start _ order order l; end = zero-le }

pub without_turn : {q : ℕ} {order row : List ℕ} {n j one : ℕ} → length order ≡ 64 → Without q order row n j → j < 64
    → one ≡ bit (eqb (get_or order j 0) q) → Without q order (set row n (get_or order j 0)) (n + (1 - one)) (j + 1)
without_turn {q} size a l e = record { others = others_turn (λ r. eqb r q) size a.others l e; end = omega arith }

-- and one that puts q wherever there is room
pub record Filled (q : ℕ) (before : List ℕ) (n₀ : ℕ) (row : List ℕ) (n : ℕ) : Type 0 where
  pub i : ℕ
  pub rest : Rest before (replicate 64 q) n₀ row n i

pub filled_start : {q : ℕ} {order row : List ℕ} {n j : ℕ} → Without q order row n j → Filled q row n row n
filled_start {q} {row = row} {n = n} a =
    record { i = 0; rest = rest_start row (replicate 64 q) n a.others.full (omega (arith, a.others.few, a.end)) }

pub filled_turn : {q : ℕ} {before row : List ℕ} {n₀ n : ℕ} → Filled q before n₀ row n → n < 64 → Filled q before n₀ (set row n q) (n + 1)
filled_turn {q} a l = record {
  i = a.i + 1;
  rest = rest_turn a.rest l (length-replicate 64 q) q (sym (get_or-replicate 64 a.i q 0 (omega (arith, a.rest.many))));
}

pub filled_end : (q : ℕ) (order : List ℕ) → length order ≡ 64 → {row : List ℕ} {n j : ℕ} → Without q order row n j → 64 ≤ j
    → {new : List ℕ} {n' : ℕ} → Filled q row n new n' → 64 ≤ n' → new ≡ latest q order
filled_end q order size a l b m =
    rest_end (λ r. eqb r q) order size a.others l a.end b.rest m
    (take_same b.i 64 q (omega (arith, b.rest.many, b.rest.few))
    ∙ ap (λ (x : ℕ). replicate x q) (rest_many (λ r. eqb r q) order size a.others l a.end b.rest m) ∙ sym (keep_one q order))

-- ---- the loop that counts

-- ---- the row of the others, with as many of a second one as there is room for

-- a loop that leaves out those that pass
pub record Others (f : ℕ → Bool) (order row : List ℕ) (n j : ℕ) : Type 0 where
  pub front : Front (λ q. not (f q)) order row n j
  pub end : j ≤ 64

pub others_start : (f : ℕ → Bool) (order : List ℕ) → length order ≡ 64 → Others f order order 0 0
others_start f order l = record { front = front_start _ order order l; end = zero-le }

pub others_more : {f : ℕ → Bool} {order row : List ℕ} {n j one : ℕ} → length order ≡ 64 → Others f order row n j → j < 64 → one ≡ bit (f (get_or order j 0))
    → Others f order (set row n (get_or order j 0)) (n + (1 - one)) (j + 1)
others_more {f} size a l e = record { front = others_turn f size a.front l e; end = omega arith }

-- and one that puts others behind them
pub others_rest : {f : ℕ → Bool} {order row : List ℕ} {n j : ℕ} (lasts : List ℕ) → Others f order row n j → Rest row lasts n row n 0
others_rest {row = row} {n = n} lasts a = rest_start row lasts n a.front.full (omega (arith, a.front.few, a.end))

pub others_end : {f : ℕ → Bool} {order row lasts new : List ℕ} {n j m i : ℕ} → length order ≡ 64 → Others f order row n j → 64 ≤ j → Rest row lasts n new m i → 64 ≤ m
    → new ≡ take 64 (keep (λ q. not (f q)) order ++ lasts)
others_end {f} {order} {row} {lasts} {new} {n} {j} {m} {i} size a l b k =
    sym (take_all m new (omega (arith, b.full))) ∙ b.written
    ∙ sym (ap₂ (λ (x : ℕ) (r : List ℕ). take x (r ++ lasts)) many (sym kept) ∙ take-append-add (take n row) lasts i)
  where
    kept : take n row ≡ keep (λ q. not (f q)) order
    kept = front_end size a.front l

    many : 64 ≡ length (take n row) + i
    many = omega (arith, b.many, b.few, length-take-le n row (let x = a.front.few in let y = a.front.full in let z = a.end in omega arith))
