-- The first of a row that passes a test: it passes, it stands before every other that does, and where there is none none passes. Assumes nothing.
use Rattle.std.specs.Prelude.{◌≡◌, refl, ◌≢◌, Bool, true, false, List, [], ◌∷◌, ℕ, suc, ◌+◌, ◌≤◌, ◌<◌, eqb, length, get_or, drop}
use Rattle.std.proofs.Common.{subst, sym, ap, ◌∙◌, arith, drop_of_length-le, drop-cons, eqb-true, eq-eqb}
use Rattle.sets.proofs.ToldLaws.{Told, yea, nay, told, clash}
use Rattle.order.specs.Row.{first_in, occurs, position_of}

-- below 64 it passes
pub first_fits : (f : ℕ → Bool) (row : List ℕ) → first_in f row < 64 → f (first_in f row) ≡ true
unfolding first_in
first_fits f [] l = absurd (omega arith)
first_fits f (r ∷ row) l = go (told (f r)) (first_fits f row)
  where
    go : Told (f r) → (first_in f row < 64 → f (first_in f row) ≡ true) → f (first_in f (r ∷ row)) ≡ true
    go (yea e) h = rw (e, first_in) e
    go (nay e) h = rw (e, first_in) (h (omega (arith, rw (e, first_in) at l)))

-- where only numbers below 64 pass it is at most 64
pub first_most : (f : ℕ → Bool) (row : List ℕ) → ((q : ℕ) → f q ≡ true → q < 64) → first_in f row ≤ 64
unfolding first_in
first_most f [] s = omega arith
first_most f (r ∷ row) s = go (told (f r)) (first_most f row s)
  where
    go : Told (f r) → first_in f row ≤ 64 → first_in f (r ∷ row) ≤ 64
    go (yea e) h = rw e (let l = s r e in omega arith)
    go (nay e) h = rw e h

-- it stands before every other that passes
pub first_before : (f : ℕ → Bool) (row : List ℕ) → first_in f row < 64 → (q : ℕ) → f q ≡ true → q ≢ first_in f row → position_of (first_in f row) row < position_of q row
unfolding first_in position_of
first_before f [] l q t n = absurd (omega arith)
first_before f (r ∷ row) l q t n = go (told (f r)) (told (eqb q r)) (told (eqb (first_in f row) r)) (first_before f row)
  where
    go : Told (f r) → Told (eqb q r) → Told (eqb (first_in f row) r)
        → (first_in f row < 64 → (q : ℕ) → f q ≡ true → q ≢ first_in f row → position_of (first_in f row) row < position_of q row)
        → position_of (first_in f (r ∷ row)) (r ∷ row) < position_of q (r ∷ row)
    go (yea e) (yea m) _ h = absurd (n (eqb-true q r m ∙ sym (rw (e, first_in))))
    go (yea e) (nay m) _ h = rw (e, position_of, eq-eqb r r refl, m) (omega arith)
    go (nay e) (yea m) _ h = clash (sym (ap f (eqb-true q r m)) ∙ t) e
    go (nay e) (nay m) (yea k) h = clash (sym (ap f (eqb-true (first_in f row) r k)) ∙ first_fits f row (omega (arith, rw (e, first_in) at l))) e
    go (nay e) (nay m) (nay k) h =
        let s : first_in f (r ∷ row) ≡ first_in f row = rw (e, first_in) in
        subst (λ (y : ℕ). position_of y (r ∷ row) < position_of q (r ∷ row)) (sym s)
        (rw (position_of, k, m) (let z = h (omega (arith, rw (e, first_in) at l)) q t (λ x. n (x ∙ sym s)) in omega arith))

-- where it is 64, and only numbers below 64 pass, none of the row does
pub first_none : (f : ℕ → Bool) (row : List ℕ) → ((q : ℕ) → f q ≡ true → q < 64) → 64 ≤ first_in f row → (q : ℕ) → occurs q row ≡ true → f q ≡ false
unfolding first_in occurs
first_none f [] s l q o = clash o refl
first_none f (r ∷ row) s l q o = go (told (f r)) (told (eqb q r)) (first_none f row s)
  where
    go : Told (f r) → Told (eqb q r) → (64 ≤ first_in f row → (q : ℕ) → occurs q row ≡ true → f q ≡ false) → f q ≡ false
    go (yea e) _ h = absurd (omega (arith, s r e, rw (e, first_in) at l))
    go (nay e) (yea m) h = ap f (eqb-true q r m) ∙ e
    go (nay e) (nay m) h = h (omega (arith, rw (e, first_in) at l)) q (rw m at o)

-- ---- a loop that looks for it: the first of what is left from j on

pub first_more : (f : ℕ → Bool) (row : List ℕ) (j : ℕ) → j < length row → f (get_or row j 0) ≡ false → first_in f (drop (j + 1) row) ≡ first_in f (drop j row)
unfolding first_in
first_more f row j l e = let n : j + 1 ≡ suc j = omega arith in ap (λ (k : ℕ). first_in f (drop k row)) n ∙ sym (ap (first_in f) (drop-cons row j 0 l) ∙ rw e)

pub first_found : (f : ℕ → Bool) (row : List ℕ) (j : ℕ) → j < length row → f (get_or row j 0) ≡ true → get_or row j 0 ≡ first_in f (drop j row)
unfolding first_in
first_found f row j l e = sym (ap (first_in f) (drop-cons row j 0 l) ∙ rw e)

pub first_end : (f : ℕ → Bool) (row : List ℕ) (j : ℕ) → length row ≤ j → 64 ≡ first_in f (drop j row)
unfolding first_in
first_end f row j l = sym (ap (first_in f) (drop_of_length-le row l))
