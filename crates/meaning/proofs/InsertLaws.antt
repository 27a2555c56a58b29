-- Where a text goes when it is inserted, and lists of texts in order: what a writer of texts in byte order uses. Assumes nothing.
-- Idea: a text goes past every text that is it or comes before it; in a list in order these are the first ones.
use Rattle.std.specs.Prelude.{◌≡◌, refl, true, false, List, [], ◌∷◌, ◌++◌, ℕ, zero, suc, ◌+◌, ◌≤◌, ◌<◌, length, get_or, take, drop}
use Rattle.std.proofs.Common.{ap, ◌∙◌, arith}
use Rattle.table.proofs.BaseLaws.{Told, yea, nay, told, clash}
use Rattle.meaning.specs.Sorted.{leq, insert, sorted}
use Rattle.meaning.proofs.SortedLaws.{Text, leq_total, leq_antisym, leq_trans, leq_self, insert_past, insert_here}
use Rattle.meaning.proofs.Every.{every_at, every_so}
use Rattle.meaning.specs.Every.{every_none, every_more, Every}

-- every text of a list is x or comes before it
abbrev pub Upto : Text → List Text → Type 0
Upto x l = Every (λ y. leq y x ≡ true) l

-- x comes before every text of a list
abbrev pub Before : Text → List Text → Type 0
Before x l = Every (λ y. leq y x ≡ false) l

-- x is every text of a list or comes before it
abbrev pub From : Text → List Text → Type 0
From x l = Every (λ y. leq x y ≡ true) l

-- ---- the same texts

-- what is so of a text and of every text of a list is so of every text once it is inserted
pub every_insert : {P : Text → Type 0} (x : Text) {l : List Text} → P x → Every P l → Every P (insert x l)
unfolding insert
every_insert x p every_none = every_more p every_none
every_insert {P} x p (every_more {x = y} {rest = l} q e) = go (told (leq y x)) (every_insert x p e)
  where
    go : Told (leq y x) → Every P (insert x l) → Every P (insert x (y ∷ l))
    go (yea t) rest = rw t (every_more q rest)
    go (nay t) _ = rw t (every_more p (every_more q e))

-- and what is so of every text is so of every text in order
pub every_sorted : {P : Text → Type 0} {l : List Text} → Every P l → Every P (sorted l)
unfolding sorted
every_sorted every_none = every_none
every_sorted (every_more {x} p e) = every_insert x p (every_sorted e)

-- an inserted text is one text more
pub insert_length : (x : Text) (l : List Text) → length (insert x l) ≡ length l + 1
unfolding insert
insert_length x [] = omega arith
insert_length x (y ∷ l) = go (told (leq y x)) (insert_length x l)
  where
    go : Told (leq y x) → length (insert x l) ≡ length l + 1 → length (insert x (y ∷ l)) ≡ length (y ∷ l) + 1
    go (yea t) rest = rw t (omega arith)
    go (nay t) _ = rw t (omega arith)

-- and in order there are as many texts
pub sorted_length : (l : List Text) → length (sorted l) ≡ length l
unfolding sorted
sorted_length [] = refl
sorted_length (x ∷ l) = insert_length x (sorted l) ∙ let e = sorted_length l in omega arith

-- ---- where a text goes

-- past all that are it or come before it
pub insert_beyond : (x : Text) {l : List Text} (m : List Text) → Upto x l → insert x (l ++ m) ≡ l ++ insert x m
insert_beyond x m every_none = refl
insert_beyond x m (every_more {x = y} {rest = l} t e) = insert_past x y (l ++ m) t ∙ ap (λ k. y ∷ k) (insert_beyond x m e)

-- at the front, if it is all of them or comes before them
pub insert_first : (x : Text) {l : List Text} → From x l → insert x l ≡ x ∷ l
unfolding insert
insert_first x every_none = refl
insert_first x (every_more {x = y} {rest = l} t e) = go (told (leq y x)) (insert_first x e)
  where
    go : Told (leq y x) → insert x l ≡ x ∷ l → insert x (y ∷ l) ≡ x ∷ (y ∷ l)
    go (yea u) rest = insert_past x y l u ∙ ap (λ k. y ∷ k) rest ∙ (λ j. leq_antisym y x u t j ∷ (leq_antisym x y t u j ∷ l))
    go (nay u) _ = insert_here x y l u

-- at a position: those before it are it or come before it, the one there does not
pub insert_at : (x : Text) (l : List Text) (at : ℕ) → at ≤ length l → ((j : ℕ) → j < at → leq (get_or l j []) x ≡ true)
    → (at < length l → leq (get_or l at []) x ≡ false) → insert x l ≡ take at l ++ (x ∷ drop at l)
unfolding insert
insert_at x [] zero l b a = refl
insert_at x [] (suc at) l b a = absurd (omega arith)
insert_at x (y ∷ s) zero l b a = insert_here x y s (a (omega arith))
insert_at x (y ∷ s) (suc at) l b a = insert_past x y s (b 0 (omega arith))
    ∙ ap (λ k. y ∷ k) (insert_at x s at (omega arith) (λ j k. b (suc j) (omega arith)) (λ k. a (omega arith)))

-- ---- lists in order

-- each text is all that follow or comes before them
pub data Ordered : List Text → Type 0 where
  ordered_none : Ordered []
  ordered_more : {x : Text} {l : List Text} → From x l → Ordered l → Ordered (x ∷ l)

-- a text inserted into a list in order leaves it in order
pub ordered_insert : (x : Text) {l : List Text} → Ordered l → Ordered (insert x l)
unfolding insert
ordered_insert x ordered_none = ordered_more every_none ordered_none
ordered_insert x (ordered_more {x = y} {l = l} e o) = go (told (leq y x)) (ordered_insert x o)
  where
    go : Told (leq y x) → Ordered (insert x l) → Ordered (insert x (y ∷ l))
    go (yea t) rest = rw t (ordered_more (every_insert {P = λ z. leq y z ≡ true} x t e) rest)
    go (nay t) _ = let u = leq_total y x t in rw t (ordered_more (every_more u (every_so (λ z. leq_trans x y z u) e)) (ordered_more e o))

-- sorted texts are in order
pub ordered_sorted : (l : List Text) → Ordered (sorted l)
unfolding sorted
ordered_sorted [] = ordered_none
ordered_sorted (x ∷ l) = ordered_insert x (ordered_sorted l)

-- and texts in order are sorted
pub sorted_ordered : {l : List Text} → Ordered l → sorted l ≡ l
unfolding sorted
sorted_ordered ordered_none = refl
sorted_ordered (ordered_more {x} e o) = ap (insert x) (sorted_ordered o) ∙ insert_first x e

-- of two positions in a list in order the earlier has the text that comes first
pub ordered_at : {l : List Text} → Ordered l → (i j : ℕ) → i ≤ j → j < length l → leq (get_or l i []) (get_or l j []) ≡ true
ordered_at ordered_none i j a b = absurd (omega arith)
ordered_at (ordered_more {x} e o) zero zero a b = leq_self x
ordered_at (ordered_more e o) zero (suc j) a b = every_at [] e j (omega arith)
ordered_at (ordered_more e o) (suc i) zero a b = absurd (omega arith)
ordered_at (ordered_more e o) (suc i) (suc j) a b = ordered_at o i j (omega arith) (omega arith)

-- so a text that goes past one goes past all before it
pub ordered_past : {l : List Text} → Ordered l → (x : Text) (i j : ℕ) → i ≤ j → j < length l → leq (get_or l j []) x ≡ true
    → leq (get_or l i []) x ≡ true
ordered_past {l} o x i j a b = leq_trans (get_or l i []) (get_or l j []) x (ordered_at o i j a b)

-- a list in order, parted where a text goes
pub record Parted (x : Text) (l : List Text) : Type 0 where
  pub first : List Text
  pub rest : List Text
  pub whole : l ≡ first ++ rest
  pub upto : Upto x first
  pub before : Before x rest
  pub put : insert x l ≡ first ++ (x ∷ rest)

-- a text that comes before the first comes before all
before_all : (x y : Text) {l : List Text} → leq y x ≡ false → From y l → Before x l
before_all x y t e = every_so (λ z u. go z u (told (leq z x))) e
  where
    go : (z : Text) → leq y z ≡ true → Told (leq z x) → leq z x ≡ false
    go z u (yea v) = clash (leq_trans y z x u v) t
    go z u (nay v) = v

-- every list in order is
pub parted : (x : Text) {l : List Text} → Ordered l → Parted x l
unfolding insert
parted x ordered_none = record { first = []; rest = []; whole = refl; upto = every_none; before = every_none; put = refl }
parted x (ordered_more {x = y} {l = l} e o) = go (told (leq y x)) (parted x o)
  where
    go : Told (leq y x) → Parted x l → Parted x (y ∷ l)
    go (yea t) r = record {
      first = y ∷ r.first;
      rest = r.rest;
      whole = ap (λ k. y ∷ k) r.whole;
      upto = every_more t r.upto;
      before = r.before;
      put = insert_past x y l t ∙ ap (λ k. y ∷ k) r.put;
    }
    go (nay t) _ = record { first = []; rest = y ∷ l; whole = refl; upto = every_none; before = every_more t (before_all x y t e); put = insert_here x y l t }
