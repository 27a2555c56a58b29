-- Laws of byte order: of two texts one is the other or comes before it, and the order in which texts are inserted does not matter, so that the
-- same texts in any order are sorted to one list. Assumes nothing.
-- Idea: two bytes are one less than the other or the same; all else is cases on that.
use Rattle.std.specs.Prelude.{◌≡◌, refl, true, false, List, [], ◌∷◌, ◌++◌, ℕ, ◌<◌, ltb}
use Rattle.std.proofs.Common.{sym, ap, ◌∙◌, arith, ltb-true, ltb-false, lt-ltb, le-ltb}
use Rattle.table.proofs.BaseLaws.{Told, yea, nay, told, clash}
use Rattle.meaning.specs.Sorted.{leq, insert, sorted}

-- a text is a list of bytes
abbrev pub Text : Type 0
Text = List ℕ

-- ---- two texts

-- of two bytes one is less than the other, or they are the same
data Bytes (a b : ℕ) : Type 0 where
  less : a < b → Bytes a b
  same : a ≡ b → Bytes a b
  more : b < a → Bytes a b

-- any two are so
bytes : (a b : ℕ) → Bytes a b
bytes a b = go (told (ltb a b)) (told (ltb b a))
  where
    go : Told (ltb a b) → Told (ltb b a) → Bytes a b
    go (yea e) _ = less (ltb-true a b e)
    go (nay e) (yea f) = more (ltb-true b a f)
    go (nay e) (nay f) = same (omega (arith, ltb-false a b e, ltb-false b a f))

-- the first byte decides
pub leq_less : {a b : ℕ} (x y : Text) → a < b → leq (a ∷ x) (b ∷ y) ≡ true
unfolding leq
leq_less {a} {b} x y l = rw (lt-ltb a b l)

-- the other way round
pub leq_more : {a b : ℕ} (x y : Text) → b < a → leq (a ∷ x) (b ∷ y) ≡ false
unfolding leq
leq_more {a} {b} x y l = rw (le-ltb a b (omega arith), lt-ltb b a l)

-- or, if it is the same, the rest
pub leq_same : {a b : ℕ} (x y : Text) → a ≡ b → leq (a ∷ x) (b ∷ y) ≡ leq x y
unfolding leq
leq_same {a} {b} x y e = rw (le-ltb a b (omega arith), le-ltb b a (omega arith))

-- a text that does not come before another comes after it
pub leq_total : (x y : Text) → leq x y ≡ false → leq y x ≡ true
unfolding leq
leq_total [] y e = clash refl e
leq_total (a ∷ x) [] e = refl
leq_total (a ∷ x) (b ∷ y) e = go (bytes a b) (leq_total x y)
  where
    go : Bytes a b → (leq x y ≡ false → leq y x ≡ true) → leq (b ∷ y) (a ∷ x) ≡ true
    go (less l) _ = clash (leq_less x y l) e
    go (same l) rest = leq_same y x (sym l) ∙ rest (sym (leq_same x y l) ∙ e)
    go (more l) _ = leq_less y x l

-- two texts that are each the other or before it are the same
pub leq_antisym : (x y : Text) → leq x y ≡ true → leq y x ≡ true → x ≡ y
unfolding leq
leq_antisym [] [] e f = refl
leq_antisym [] (b ∷ y) e f = clash f refl
leq_antisym (a ∷ x) [] e f = clash e refl
leq_antisym (a ∷ x) (b ∷ y) e f = go (bytes a b) (leq_antisym x y)
  where
    go : Bytes a b → (leq x y ≡ true → leq y x ≡ true → x ≡ y) → ◌≡◌ {A = Text} (a ∷ x) (b ∷ y)
    go (less l) _ = clash f (leq_more y x l)
    go (same l) rest = λ j. l j ∷ rest (sym (leq_same x y l) ∙ e) (sym (leq_same y x (sym l)) ∙ f) j
    go (more l) _ = clash e (leq_more x y l)

-- a text before one that is before a third is before that
pub leq_trans : (x y z : Text) → leq x y ≡ true → leq y z ≡ true → leq x z ≡ true
unfolding leq
leq_trans [] y z e f = refl
leq_trans (a ∷ x) [] z e f = clash e refl
leq_trans (a ∷ x) (b ∷ y) [] e f = clash f refl
leq_trans (a ∷ x) (b ∷ y) (c ∷ z) e f = go (bytes a b) (bytes b c) (leq_trans x y z)
  where
    go : Bytes a b → Bytes b c → (leq x y ≡ true → leq y z ≡ true → leq x z ≡ true) → leq (a ∷ x) (c ∷ z) ≡ true
    go (less l) (less m) _ = leq_less {a = a} {b = c} x z (omega arith)
    go (less l) (same m) _ = leq_less {a = a} {b = c} x z (omega arith)
    go (less l) (more m) _ = clash f (leq_more y z m)
    go (same l) (less m) _ = leq_less {a = a} {b = c} x z (omega arith)
    go (same l) (same m) rest = leq_same {a = a} {b = c} x z (omega arith) ∙ rest (sym (leq_same x y l) ∙ e) (sym (leq_same y z m) ∙ f)
    go (same l) (more m) _ = clash f (leq_more y z m)
    go (more l) _ _ = clash e (leq_more x y l)

-- a text is itself
pub leq_self : (x : Text) → leq x x ≡ true
leq_self x = go (told (leq x x))
  where
    go : Told (leq x x) → leq x x ≡ true
    go (yea e) = e
    go (nay e) = leq_total x x e

-- ---- one text more

-- a text goes past one that it does not come before
pub insert_past : (x y : Text) (l : List Text) → leq y x ≡ true → insert x (y ∷ l) ≡ y ∷ insert x l
unfolding insert
insert_past x y l e = rw e

-- and stays before any other
pub insert_here : (x y : Text) (l : List Text) → leq y x ≡ false → insert x (y ∷ l) ≡ x ∷ (y ∷ l)
unfolding insert
insert_here x y l e = rw e

-- two texts at the front are inserted in either order
swap_front : (x y : Text) (l : List Text) → insert x l ≡ x ∷ l → insert y l ≡ y ∷ l → insert x (y ∷ l) ≡ insert y (x ∷ l)
swap_front x y l p q = go (told (leq y x)) (told (leq x y))
  where
    go : Told (leq y x) → Told (leq x y) → insert x (y ∷ l) ≡ insert y (x ∷ l)
    go (yea e) (yea f) = ap (λ z. insert z (y ∷ l)) (leq_antisym x y f e) ∙ ap (λ z. insert y (z ∷ l)) (leq_antisym y x e f)
    go (yea e) (nay f) = insert_past x y l e ∙ ap (λ k. y ∷ k) p ∙ sym (insert_here y x l f)
    go (nay e) (yea f) = insert_here x y l e ∙ sym (insert_past y x l f ∙ ap (λ k. x ∷ k) q)
    go (nay e) (nay f) = clash (leq_total y x e) f

-- one text that goes past z and one that stays before it
swap_apart : (x y z : Text) (l : List Text) → leq z x ≡ true → leq z y ≡ false → insert x (insert y (z ∷ l)) ≡ insert y (insert x (z ∷ l))
swap_apart x y z l p q =
    ap (insert x) (insert_here y z l q) ∙ insert_past x y (z ∷ l) (leq_trans y z x (leq_total z y q) p) ∙ ap (λ k. y ∷ k) (insert_past x z l p)
    ∙ sym (ap (insert y) (insert_past x z l p) ∙ insert_here y z (insert x l) q)

-- the order of insertion does not matter
pub insert_swap : (x y : Text) (l : List Text) → insert x (insert y l) ≡ insert y (insert x l)
unfolding insert
insert_swap x y [] = swap_front x y [] refl refl
insert_swap x y (z ∷ l) = go (told (leq z x)) (told (leq z y)) (insert_swap x y l)
  where
    go : Told (leq z x) → Told (leq z y) → insert x (insert y l) ≡ insert y (insert x l) → insert x (insert y (z ∷ l)) ≡ insert y (insert x (z ∷ l))
    go (yea p) (yea q) rest = ap (insert x) (insert_past y z l q) ∙ insert_past x z (insert y l) p ∙ ap (λ k. z ∷ k) rest
        ∙ sym (ap (insert y) (insert_past x z l p) ∙ insert_past y z (insert x l) q)
    go (yea p) (nay q) _ = swap_apart x y z l p q
    go (nay p) (yea q) _ = sym (swap_apart y x z l q p)
    go (nay p) (nay q) _ = ap (insert x) (insert_here y z l q) ∙ swap_front x y (z ∷ l) (insert_here x z l p) (insert_here y z l q)
        ∙ sym (ap (insert y) (insert_here x z l p))

-- ---- all the texts of a list

-- all of l inserted into s
insert_all : List Text → List Text → List Text
insert_all [] s = s
insert_all (x ∷ l) s = insert x (insert_all l s)

-- one text more goes in before them or after them
all_swap : (l : List Text) (x : Text) (s : List Text) → insert_all l (insert x s) ≡ insert x (insert_all l s)
unfolding insert_all
all_swap [] x s = refl
all_swap (y ∷ l) x s = ap (insert y) (all_swap l x s) ∙ insert_swap y x (insert_all l s)

-- sorting two lists is inserting one into the other, sorted
sorted_append : (l m : List Text) → sorted (l ++ m) ≡ insert_all l (sorted m)
unfolding sorted insert_all
sorted_append [] m = refl
sorted_append (x ∷ l) m = ap (insert x) (sorted_append l m)

-- whichever is inserted into whichever
all_sorted : (l m : List Text) → insert_all l (sorted m) ≡ insert_all m (sorted l)
unfolding sorted insert_all
all_sorted [] m = go m
  where
    go : (m : List Text) → sorted m ≡ insert_all m []
    go [] = refl
    go (x ∷ m) = ap (insert x) (go m)
all_sorted (x ∷ l) m = ap (insert x) (all_sorted l m) ∙ sym (all_swap m x (sorted l))

-- two lists of texts in either order
pub sorted_comm : (l m : List Text) → sorted (l ++ m) ≡ sorted (m ++ l)
sorted_comm l m = sorted_append l m ∙ all_sorted l m ∙ sym (sorted_append m l)

-- of lists only their texts in order matter
pub sorted_cong : (l k m : List Text) → sorted l ≡ sorted k → sorted (l ++ m) ≡ sorted (k ++ m)
sorted_cong l k m e = sorted_comm l m ∙ sorted_append m l ∙ ap (insert_all m) e ∙ sym (sorted_append m k) ∙ sorted_comm m k
