-- Where a part starts, and a number put into a row. Assumes nothing.
use Rattle.std.specs.Prelude.{◌≡◌, ◌⊎◌, leb, refl, List, [], ◌∷◌, ◌++◌, map, ℕ, zero, suc, ◌+◌, ◌-◌, ◌≤◌, ◌<◌, length, get_or, take, drop, set}
use Rattle.std.proofs.Common.{sym, ap, ◌∙◌, inl, inr, not-suc-le-zero, arith, length-set, ext_get_or, get_or-set_same, get_or-set_other, leb-true, leb-false}
use Rattle.sets.proofs.SetLaws.{order}
use Rattle.table.proofs.BaseLaws.{Told, yea, nay, told}
use Rattle.meaning.proofs.SortedLaws.{Text}
use Rattle.meaning.specs.Every.{every_none, every_more, Every}
use Rattle.lister.specs.Cuts.{start_of, put_in}

-- ---- where a part starts

-- the first
pub start_none : (marks : List ℕ) (i : ℕ) → i ≡ 0 → 0 ≡ start_of marks i
unfolding start_of
start_none marks i e = sym (ap (start_of marks) e)

-- any other
pub start_more : (marks : List ℕ) (i : ℕ) {r : ℕ} → (i ≡ 0 → ⊥) → r ≡ get_or marks (i - 1) 0 → r + 3 ≡ start_of marks i
unfolding start_of
start_more marks zero n e = absurd (n refl)
start_more marks (suc i) n e = let z : suc i - 1 ≡ i = omega arith in ap (λ (k : ℕ). k + 3) (e ∙ ap (λ (j : ℕ). get_or marks j 0) z)

-- ---- a number put into a row

-- the row stays as long as it is
pub put_length : (at i x : ℕ) (row : List ℕ) → length (put_in at i x row) ≡ length row
unfolding put_in
put_length at i x [] = refl
put_length zero zero x (y ∷ row) = refl
put_length zero (suc i) x (y ∷ row) = ap suc (put_length zero i y row)
put_length (suc at) zero x (y ∷ row) = refl
put_length (suc at) (suc i) x (y ∷ row) = ap suc (put_length at i x row)

-- the numbers before it
put_before : (at i x k : ℕ) (row : List ℕ) → k < at → at ≤ i → get_or (put_in at i x row) k 0 ≡ get_or row k 0
unfolding put_in
put_before at i x k [] l m = refl
put_before zero i x k (y ∷ row) l m = absurd (not-suc-le-zero l)
put_before (suc at) zero x k (y ∷ row) l m = absurd (not-suc-le-zero m)
put_before (suc at) (suc i) x zero (y ∷ row) l m = refl
put_before (suc at) (suc i) x (suc k) (y ∷ row) l m = put_before at i x k row (omega arith) (omega arith)

-- it stands where it is put
put_here : (at i x : ℕ) (row : List ℕ) → at ≤ i → i < length row → get_or (put_in at i x row) at 0 ≡ x
unfolding put_in
put_here at i x [] m l = absurd (not-suc-le-zero l)
put_here zero zero x (y ∷ row) m l = refl
put_here zero (suc i) x (y ∷ row) m l = refl
put_here (suc at) zero x (y ∷ row) m l = absurd (not-suc-le-zero m)
put_here (suc at) (suc i) x (y ∷ row) m l = put_here at i x row (omega arith) (omega arith)

-- those from there on stand one further on
put_between : (at i x k : ℕ) (row : List ℕ) → at ≤ k → k < i → i < length row → get_or (put_in at i x row) (suc k) 0 ≡ get_or row k 0
unfolding put_in
put_between at i x k [] m n l = absurd (not-suc-le-zero l)
put_between at zero x k (y ∷ row) m n l = absurd (not-suc-le-zero n)
put_between zero (suc i) x zero (y ∷ row) m n l = put_here zero i y row (omega arith) (omega arith)
put_between zero (suc i) x (suc k) (y ∷ row) m n l = put_between zero i y k row (omega arith) (omega arith) (omega arith)
put_between (suc at) (suc i) x zero (y ∷ row) m n l = absurd (not-suc-le-zero m)
put_between (suc at) (suc i) x (suc k) (y ∷ row) m n l = put_between at i x k row (omega arith) (omega arith) (omega arith)

-- and those past the i-th stay
put_past : (at i x k : ℕ) (row : List ℕ) → i < k → get_or (put_in at i x row) k 0 ≡ get_or row k 0
unfolding put_in
put_past at i x k [] l = refl
put_past at i x zero (y ∷ row) l = absurd (not-suc-le-zero l)
put_past zero zero x (suc k) (y ∷ row) l = refl
put_past zero (suc i) x (suc k) (y ∷ row) l = put_past zero i y k row (omega arith)
put_past (suc at) zero x (suc k) (y ∷ row) l = refl
put_past (suc at) (suc i) x (suc k) (y ∷ row) l = put_past at i x k row (omega arith)

-- so a row of which a part was copied one further on has it once it is set there
pub put_within : {at i : ℕ} (x : ℕ) (row v : List ℕ) → at ≤ i → i < length row → length v ≡ length row
    → ((k d : ℕ) → at + 1 ≤ k → k < at + 1 + (i - at) → get_or v k d ≡ get_or row (at + (k - (at + 1))) d) → ((k d : ℕ) → k < at + 1 → get_or v k d ≡ get_or row k d)
    → ((k d : ℕ) → at + 1 + (i - at) ≤ k → get_or v k d ≡ get_or row k d) → set v at x ≡ put_in at i x row
put_within {at} {i} x row v m l e c b f = ext_get_or 0 (set v at x) (put_in at i x row) (length-set v at x ∙ e ∙ sym (put_length at i x row)) (λ k _. go k (order k at) (told (leb k i)))
  where
    go : (k : ℕ) → (k < at) ⊎ ((k ≡ at) ⊎ (at < k)) → Told (leb k i) → get_or (set v at x) k 0 ≡ get_or (put_in at i x row) k 0
    go k (inl n) _ = get_or-set_other v at k x 0 (λ z. omega arith) ∙ b k 0 (omega arith) ∙ sym (put_before at i x k row n m)
    go k (inr (inl n)) _ = ap (λ (j : ℕ). get_or (set v at x) j 0) n ∙ get_or-set_same v at x 0 (omega arith) ∙ sym (put_here at i x row m l) ∙ ap (λ (j : ℕ). get_or (put_in at i x row) j 0) (sym n)
    go k (inr (inr n)) (yea t) =
        let h = leb-true k i t in
        let z : at + (k - (at + 1)) ≡ k - 1 = omega arith in
        let w : suc (k - 1) ≡ k = omega arith in
        get_or-set_other v at k x 0 (λ z. omega arith) ∙ c k 0 (omega arith) (omega arith) ∙ ap (λ (j : ℕ). get_or row j 0) z
        ∙ sym (put_between at i x (k - 1) row (omega arith) (omega arith) l) ∙ ap (λ (j : ℕ). get_or (put_in at i x row) j 0) w
    go k (inr (inr n)) (nay t) =
        let h = leb-false k i t in
        get_or-set_other v at k x 0 (λ z. omega arith) ∙ f k 0 (omega arith) ∙ sym (put_past at i x k row (omega arith))

-- what the first of it are then
pub put_take : (at i x : ℕ) (row : List ℕ) → at ≤ i → i < length row → take (suc i) (put_in at i x row) ≡ take at (take i row) ++ (x ∷ drop at (take i row))
unfolding put_in
put_take at i x [] a l = absurd (not-suc-le-zero l)
put_take zero zero x (y ∷ row) a l = refl
put_take zero (suc i) x (y ∷ row) a l = ap (λ (r : List ℕ). x ∷ r) (put_take zero i y row (omega arith) (omega arith))
put_take (suc at) zero x (y ∷ row) a l = absurd (not-suc-le-zero a)
put_take (suc at) (suc i) x (y ∷ row) a l = ap (λ (r : List ℕ). y ∷ r) (put_take at i x row (omega arith) (omega arith))

-- the texts of them
pub map_put : (f : ℕ → Text) (at x : ℕ) (l : List ℕ) → map f (take at l ++ (x ∷ drop at l)) ≡ take at (map f l) ++ (f x ∷ drop at (map f l))
map_put f zero x l = refl
map_put f (suc at) x [] = refl
map_put f (suc at) x (y ∷ l) = ap (λ (r : List Text). f y ∷ r) (map_put f at x l)

-- what is so of each of them
pub every_put : {P : ℕ → Type 0} (at x : ℕ) {l : List ℕ} → P x → Every P l → Every P (take at l ++ (x ∷ drop at l))
every_put zero x p e = every_more p e
every_put (suc at) x p every_none = every_more p every_none
every_put (suc at) x p (every_more q e) = every_more q (every_put at x p e)
