-- Laws of texts written over a part of a buffer, one after another. Assumes nothing.
use Rattle.std.specs.Prelude.{◌≡◌, refl, Bool, true, cond, List, [], ◌∷◌, ◌++◌, ◌⊎◌, ℕ, zero, suc, ◌+◌, ◌-◌, ◌/◌, ◌%◌, ◌<◌, ◌≤◌, length, take, drop, set, get_or, leb, ltb, eqb, min}
use Rattle.std.proofs.Common.{sym, ap₂, ◌∙◌, append-nil, inl, le_of_suc-le-suc, not-suc-le-zero, arith, add-one, sub-one, length-append, length-drop, drop_of_length-le, take_all, take-suc}
use Rattle.std.proofs.Math.Path.{ap}
use Rattle.std.proofs.Math.Logic.{inr}
use borrow.Author.Tests.{le-leb, lt-leb, leb-true, leb-false, ltb-true, ltb-false, eqb-true, eqb-false, eq-eqb, ne_eqb, lt-ltb, le-ltb}
use Rattle.table.specs.Base.{fold_up}
use Rattle.table.proofs.BaseLaws.{Told, yea, nay, told, fold_more}
use Rattle.meaning.specs.Text.{overlay, gap, joined}
use Rattle.text.specs.Wrote.{capped, least, Wrote, Placed}

pub over_length : (t b : List ℕ) → length (overlay t b) ≡ length b
unfolding overlay
over_length [] b = refl
over_length (x ∷ t) [] = refl
over_length (x ∷ t) (y ∷ b) = ap suc (over_length t b)

-- a text that fits stands at the buffer's start
pub over_start : (t b : List ℕ) → length t ≤ length b → take (length t) (overlay t b) ≡ t
unfolding overlay
over_start [] b l = refl
over_start (x ∷ t) [] l = absurd (not-suc-le-zero l)
over_start (x ∷ t) (y ∷ b) l = ap (λ (s : List ℕ). x ∷ s) (over_start t b (le_of_suc-le-suc l))

-- a text of two parts, of which the first fits: the second is written on what is left
over_append : (s t b : List ℕ) → length s ≤ length b → overlay (s ++ t) b ≡ take (length s) (overlay s b) ++ overlay t (drop (length s) (overlay s b))
unfolding overlay
over_append [] t b h = refl
over_append (x ∷ s) t [] h = absurd (not-suc-le-zero h)
over_append (x ∷ s) t (y ∷ b) h = ap (λ (l : List ℕ). x ∷ l) (over_append s t b (le_of_suc-le-suc h))

-- of which the first does not: the second changes nothing
over_full : (s t b : List ℕ) → length b ≤ length s → overlay (s ++ t) b ≡ overlay s b
unfolding overlay
over_full [] [] b h = refl
over_full [] (x ∷ t) [] h = refl
over_full [] (x ∷ t) (y ∷ b) h = absurd (not-suc-le-zero h)
over_full (x ∷ s) t [] h = refl
over_full (x ∷ s) t (y ∷ b) h = ap (λ (l : List ℕ). x ∷ l) (over_full s t b (le_of_suc-le-suc h))

pub over_nil : (t : List ℕ) → overlay t [] ≡ []
unfolding overlay
over_nil [] = refl
over_nil (x ∷ t) = refl

-- the part of a buffer from n on, and the buffer once it has come back
abbrev pub part : ℕ → List ℕ → List ℕ
part n xs = take (length xs - n) (drop n xs)

abbrev pub back : ℕ → List ℕ → List ℕ → List ℕ
back n xs ys = take n xs ++ (ys ++ drop (length xs - n) (drop n xs))

pub part_is : (n : ℕ) (xs : List ℕ) → part n xs ≡ drop n xs
part_is n xs = take_all (length xs - n) (drop n xs) (omega (arith, length-drop n xs))

pub back_is : (n : ℕ) (xs ys : List ℕ) → back n xs ys ≡ take n xs ++ ys
back_is n xs ys = ap (λ (l : List ℕ). take n xs ++ (ys ++ l)) (drop_of_length-le (drop n xs) {i = length xs - n} (omega (arith, length-drop n xs))) ∙ ap (λ (l : List ℕ). take n xs ++ l) (append-nil ys)

-- ---- positions
pub capped_low : (n : ℕ) → n ≤ 18446744073709551615 → capped n ≡ n
unfolding capped
capped_low n l = rw (le-leb n 18446744073709551615 l)

pub capped_high : (n : ℕ) → 18446744073709551615 < n → capped n ≡ 18446744073709551615
unfolding capped
capped_high n l = rw (lt-leb n 18446744073709551615 l)

capped_full : (n : ℕ) → 18446744073709551615 ≤ n → capped n ≡ 18446744073709551615
capped_full n l = go (told (leb n 18446744073709551615))
  where
    go : Told (leb n 18446744073709551615) → capped n ≡ 18446744073709551615
    go (yea e) = capped_low n (leb-true _ _ e) ∙ omega (arith, leb-true n 18446744073709551615 e)
    go (nay e) = capped_high n (leb-false _ _ e)

capped_top : (n : ℕ) → capped n ≤ 18446744073709551615
capped_top n = go (told (leb n 18446744073709551615))
  where
    go : Told (leb n 18446744073709551615) → capped n ≤ 18446744073709551615
    go (yea e) = omega (arith, capped_low n (leb-true _ _ e), leb-true n 18446744073709551615 e)
    go (nay e) = omega (arith, capped_high n (leb-false _ _ e))

-- a position that was capped stays so
capped_more : (a b : ℕ) → capped (capped a + b) ≡ capped (a + b)
capped_more a b = go (told (leb a 18446744073709551615))
  where
    go : Told (leb a 18446744073709551615) → capped (capped a + b) ≡ capped (a + b)
    go (yea p) = rw (capped_low a (leb-true _ _ p))
    go (nay p) = rw (capped_high a (leb-false _ _ p)) (capped_full _ (omega arith) ∙ sym (capped_full (a + b) (omega (arith, leb-false a 18446744073709551615 p))))

-- an addition that ends at the largest number
pub capped_min : (n : ℕ) → min n 18446744073709551615 ≡ capped n
capped_min n = go (told (leb n 18446744073709551615))
  where
    go : Told (leb n 18446744073709551615) → min n 18446744073709551615 ≡ capped n
    go (yea e) = omega (arith, capped_low n (leb-true _ _ e), leb-true n 18446744073709551615 e)
    go (nay e) = omega (arith, capped_high n (leb-false _ _ e), leb-false n 18446744073709551615 e)

pub least_min : (a b : ℕ) → min a b ≡ least a b
unfolding least
least_min a b = go (told (ltb a b))
  where
    go : Told (ltb a b) → min a b ≡ cond (ltb a b) a b
    go (yea t) = rw t (omega (arith, ltb-true a b t))
    go (nay t) = rw t (omega (arith, ltb-false a b t))

pub least_le : (n a b : ℕ) → n ≡ least a b → (n ≤ a) × (n ≤ b)
unfolding least
least_le n a b e = go (told (ltb a b))
  where
    go : Told (ltb a b) → (n ≤ a) × (n ≤ b)
    go (yea h) = let q : n ≡ a = e ∙ rw h in (omega arith, omega (arith, ltb-true a b h))
    go (nay h) = let q : n ≡ b = e ∙ rw h in (omega (arith, ltb-false a b h), omega arith)

pub least_low : (a b : ℕ) → a ≤ b → a ≡ least a b
unfolding least
least_low a b l = go (told (ltb a b))
  where
    go : Told (ltb a b) → a ≡ cond (ltb a b) a b
    go (yea t) = rw t
    go (nay t) = rw t (omega (arith, ltb-false a b t))

-- how far into a part of m bytes the position after n bytes lies: past them, or at the part's end
abbrev Start : ℕ → ℕ → ℕ → Type 0
Start i n m = ((n < m) × (i ≡ n)) ⊎ ((m ≤ n) × (i ≡ m))

start_is : (at n m : ℕ) → at + m ≤ 18446744073709551615 → Start (least (capped (at + n) - at) m) n m
start_is at n m l = go (told (ltb n m)) (told (leb (at + n) 18446744073709551615))
  where
    exact : at + n ≤ 18446744073709551615 → capped (at + n) - at ≡ n
    exact h = omega (arith, capped_low (at + n) h)

    go : Told (ltb n m) → Told (leb (at + n) 18446744073709551615)
        → ((n < m) × (least (capped (at + n) - at) m ≡ n)) ⊎ ((m ≤ n) × (least (capped (at + n) - at) m ≡ m))
    go (yea e) f = inl (ltb-true n m e, ap (λ (k : ℕ). least k m) (exact (omega (arith, ltb-true n m e))) ∙ unfold least in rw e)
    go (nay e) (yea f) = inr (ltb-false n m e, ap (λ (k : ℕ). least k m) (exact (leb-true _ _ f)) ∙ unfold least in rw e)
    go (nay e) (nay f) = inr (
      ltb-false n m e,
      ap (λ (k : ℕ). least (k - at) m) (capped_high (at + n) (leb-false _ _ f))
          ∙ unfold least in rw (le-ltb (18446744073709551615 - at) m (omega arith)),
    )

-- ---- one part after another
pub begun : {b : List ℕ} {at : ℕ} → Placed at b → Wrote [] at b b at
unfolding overlay
begun {b} {at} l = let e : at + 0 ≡ at = omega arith in record { count = sym (ap capped e ∙ capped_low at (omega arith)); text = refl }

pub wrote_length : {t b e : List ℕ} {at r : ℕ} → Wrote t at b e r → length e ≡ length b
wrote_length {t} {b} w = ap length w.text ∙ over_length t b

pub wrote_as : {t u b e : List ℕ} {at r : ℕ} → t ≡ u → Wrote t at b e r → Wrote u at b e r
wrote_as {t} {u} {b} {e} {at} {r} q w = record { count = w.count ∙ ap (λ (l : List ℕ). capped (at + length l)) q; text = w.text ∙ ap (λ (l : List ℕ). overlay l b) q }

-- one part after the other: the second is handed the position that the first answered, and lent what is left from there on
pub next : {s t b xs ys : List ℕ} {at mid i r : ℕ} → Placed at b → Wrote s at b xs mid → i ≡ least (mid - at) (length xs) → Wrote t mid (part i xs) ys r
    → Wrote (s ++ t) at b (back i xs ys) r
next {s} {t} {b} {xs} {ys} {at} {mid} {i} {r} room w f v = record { count = counted; text = go (start_is at (length s) (length b) room) }
  where
    long : length xs ≡ length b
    long = wrote_length w

    start : i ≡ least (capped (at + length s) - at) (length b)
    start = f ∙ ap₂ (λ (k m : ℕ). least (k - at) m) w.count long

    counted : r ≡ capped (at + length (s ++ t))
    counted = v.count ∙ ap (λ (k : ℕ). capped (k + length t)) w.count ∙ capped_more (at + length s) (length t)
        ∙ (let e : at + length s + length t ≡ at + length (s ++ t) = omega (arith, length-append s t) in ap capped e)

    go : Start (least (capped (at + length s) - at) (length b)) (length s) (length b) → back i xs ys ≡ overlay (s ++ t) b
    go (inl h) =
        back_is i xs ys
        ∙ ap (λ (l : List ℕ). take i xs ++ l) (v.text ∙ ap (overlay t) (part_is i xs))
        ∙ ap (λ (k : ℕ). take k xs ++ overlay t (drop k xs)) (start ∙ h.1)
        ∙ ap (λ (l : List ℕ). take (length s) l ++ overlay t (drop (length s) l)) w.text
        ∙ sym (over_append s t b (omega (arith, h.0)))
    go (inr h) =
        let k : i ≡ length xs = omega (arith, h.1, start, long) in
        let z : drop i xs ≡ [] = drop_of_length-le xs {i = i} (omega arith) in
        back_is i xs ys
        ∙ ap (λ (l : List ℕ). take i xs ++ l) (v.text ∙ ap (overlay t) (part_is i xs ∙ z) ∙ over_nil t)
        ∙ append-nil (take i xs)
        ∙ take_all i xs (omega arith)
        ∙ w.text
        ∙ sym (over_full s t b h.0)

-- what is lent on is placed too
pub placed_on : {s b xs : List ℕ} {at mid i : ℕ} → Placed at b → Wrote s at b xs mid → i ≡ least (mid - at) (length xs) → Placed mid (part i xs)
placed_on {s} {b} {xs} {at} {mid} {i} room w f = go (start_is at (length s) (length b) room)
  where
    start : i ≡ least (capped (at + length s) - at) (length b)
    start = f ∙ ap₂ (λ (k m : ℕ). least (k - at) m) w.count (wrote_length w)

    left : length (part i xs) ≡ length b - i
    left = ap length (part_is i xs) ∙ length-drop i xs ∙ ap (λ (k : ℕ). k - i) (wrote_length w)

    go : Start (least (capped (at + length s) - at) (length b)) (length s) (length b) → Placed mid (part i xs)
    go (inl h) = omega (arith, left, start, h.0, h.1, w.count, capped_low (at + length s) (omega (arith, h.0)))
    go (inr h) = omega (arith, left, start, h.0, h.1, w.count, capped_top (at + length s))

-- a text written from position 0 on, and the position handed over added: the same text written from there on
pub moved : {t b e : List ℕ} {at n r : ℕ} → Wrote t 0 b e n → r ≡ capped (at + n) → Wrote t at b e r
moved {t} {b} {e} {at} {n} {r} w q = record { count = q ∙ counted; text = w.text }
  where
    counted : capped (at + n) ≡ capped (at + length t)
    counted =
        let f : at + n ≡ n + at = omega arith in
        let g : (0 + length t) + at ≡ at + length t = omega arith in
        ap capped f ∙ ap (λ (k : ℕ). capped (k + at)) w.count ∙ capped_more (0 + length t) at ∙ ap capped g

-- ---- where there is room for the whole text

-- the position is not capped
pub exactly : {s b xs : List ℕ} {at mid : ℕ} → at + length s ≤ 18446744073709551615 → Wrote s at b xs mid → mid ≡ at + length s
exactly {s} {b} {xs} {at} l w = w.count ∙ capped_low (at + length s) l

-- ---- bytes
pub store : (s b : List ℕ) (x : ℕ) → length s < length b → set (overlay s b) (length s) x ≡ overlay (s ++ (x ∷ [])) b
unfolding overlay
store [] [] x h = absurd (not-suc-le-zero h)
store [] (y ∷ b) x h = refl
store (z ∷ s) [] x h = absurd (not-suc-le-zero h)
store (z ∷ s) (y ∷ b) x h = ap (λ (l : List ℕ). z ∷ l) (store s b x (le_of_suc-le-suc h))

pub one_byte : (b : List ℕ) (x : ℕ) {at r : ℕ} → 0 < length b → r ≡ capped (at + 1) → Wrote (x ∷ []) at b (set b 0 x) r
unfolding overlay
one_byte [] x h e = absurd (not-suc-le-zero h)
one_byte (y ∷ b) x h e = record { count = e; text = refl }

pub no_byte : (b : List ℕ) (x : ℕ) {at r : ℕ} → length b ≤ 0 → r ≡ capped (at + 1) → Wrote (x ∷ []) at b b r
unfolding overlay
no_byte [] x h e = record { count = e; text = refl }
no_byte (y ∷ b) x h e = absurd (not-suc-le-zero h)

pub bytes_none : (t b : List ℕ) → b ≡ overlay (take 0 t) b
unfolding overlay
bytes_none t b = refl

length_take_low : (i : ℕ) (t : List ℕ) → i ≤ length t → length (take i t) ≡ i
length_take_low zero t h = refl
length_take_low (suc i) [] h = absurd (not-suc-le-zero h)
length_take_low (suc i) (x ∷ t) h = ap suc (length_take_low i t (le_of_suc-le-suc h))

pub bytes_more : (t b xs : List ℕ) (i : ℕ) → i < length t → i < length b → xs ≡ overlay (take i t) b → set xs i (get_or t i 0) ≡ overlay (take (i + 1) t) b
bytes_more t b xs i l h e =
    let k : length (take i t) ≡ i = length_take_low i t (omega arith) in
    ap₂ (λ (z : List ℕ) (j : ℕ). set z j (get_or t i 0)) e (sym k)
    ∙ store (take i t) b (get_or t i 0) (omega arith)
    ∙ ap (λ (z : List ℕ). overlay z b) (sym (ap (λ (j : ℕ). take j t) (add-one i) ∙ take-suc t i 0 l))

over_cut : (t b : List ℕ) (i : ℕ) → length b ≤ i → overlay (take i t) b ≡ overlay t b
unfolding overlay
over_cut [] b zero h = refl
over_cut [] b (suc i) h = refl
over_cut (x ∷ t) [] zero h = refl
over_cut (x ∷ t) [] (suc i) h = refl
over_cut (x ∷ t) (y ∷ b) zero h = absurd (not-suc-le-zero h)
over_cut (x ∷ t) (y ∷ b) (suc i) h = ap (λ (l : List ℕ). x ∷ l) (over_cut t b i (le_of_suc-le-suc h))

pub bytes_all : (t b xs : List ℕ) (i n : ℕ) → n ≡ least (length t) (length b) → n ≤ i → xs ≡ overlay (take i t) b → xs ≡ overlay t b
unfolding least
bytes_all t b xs i n e l p = p ∙ go (told (ltb (length t) (length b)))
  where
    go : Told (ltb (length t) (length b)) → overlay (take i t) b ≡ overlay t b
    go (yea h) = let q : n ≡ length t = e ∙ rw h in ap (λ (z : List ℕ). overlay z b) (take_all i t (omega arith))
    go (nay h) = let q : n ≡ length b = e ∙ rw h in over_cut t b i (omega arith)

-- as much of a text as there is room for, over the buffer's start
pub copied : (n : ℕ) (t b : List ℕ) → n ≡ min (length t) (length b) → take n t ++ drop n b ≡ overlay t b
unfolding overlay
copied zero [] b e = refl
copied zero (x ∷ t) [] e = refl
copied zero (x ∷ t) (y ∷ b) e = absurd (omega arith)
copied (suc n) [] b e = absurd (omega arith)
copied (suc n) (x ∷ t) [] e = absurd (omega arith)
copied (suc n) (x ∷ t) (y ∷ b) e = ap (λ (l : List ℕ). x ∷ l) (copied n t b (omega arith))

-- ---- joins: the program looks at where its text began
pub gap_at : (by : List ℕ) {s b xs : List ℕ} {from at : ℕ} → from + length s ≤ 18446744073709551615 → Wrote s from b xs at → cond (eqb at from) [] by ≡ gap by s
unfolding gap
gap_at by {s} {b} {xs} {from} {at} l w = go (told (eqb (length s) 0))
  where
    go : Told (eqb (length s) 0) → cond (eqb at from) [] by ≡ cond (eqb (length s) 0) [] by
    go (yea t) = rw (t, eq-eqb at from (omega (arith, exactly l w, eqb-true (length s) 0 t)))
    go (nay t) = rw (t, ne_eqb at from (λ z. eqb-false (length s) 0 t (omega (arith, exactly l w))))

module _ (by : List ℕ) (P : ℕ → Bool) (F : ℕ → List ℕ) (s₀ : List ℕ) where
  abbrev pub join : ℕ → List ℕ → List ℕ
  join k s = cond (P k) (joined by s (F k)) s

  -- one turn that joins a part
  pub join_more : (k : ℕ) → P k ≡ true → joined by (fold_up join k s₀) (F k) ≡ fold_up join (k + 1) s₀
  join_more k p = sym (ap (λ (z : Bool). cond z (joined by (fold_up join k s₀) (F k)) (fold_up join k s₀)) p) ∙ fold_more join s₀ (fold_up join k s₀) k refl
