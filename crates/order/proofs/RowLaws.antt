-- What stands in a row, and that it still does when some become the latest; that its order is strict. Assumes nothing.
-- Idea: by the row; what a test keeps and what it does not are all there is.
use Rattle.std.specs.Prelude.{◌≡◌, refl, ◌≢◌, ◌⊎◌, Bool, true, false, not, ◌||◌, List, [], ◌∷◌, ◌++◌, ℕ, zero, suc, ◌+◌, ◌<◌, eqb, ltb, length}
use Rattle.std.proofs.Common.{sym, ap, ◌∙◌, inl, inr, arith, length-append, eqb-true}
use Rattle.std.proofs.Math.Path.{ap₂}
use Rattle.std.proofs.Math.Bool.{◌&&◌}
use Rattle.sets.proofs.ToldLaws.{Told, yea, nay, told, clash, eq?, and_left, and_right}
use Rattle.order.specs.Row.{keep, later, occurs, position_of, counting, counting_row, has_all, all_small, row_fits}

-- ---- what stands in a row

or_true : (a b : Bool) → b ≡ true → (a || b) ≡ true
or_true true b e = refl
or_true false b e = e

pub occurs_append : (q : ℕ) (a b : List ℕ) → occurs q (a ++ b) ≡ (occurs q a || occurs q b)
unfolding occurs
occurs_append q [] b = refl
occurs_append q (r ∷ a) b = ap (◌||◌ (eqb q r)) (occurs_append q a b) ∙ go (eqb q r) (occurs q a) (occurs q b)
  where
    go : (x y z : Bool) → (x || (y || z)) ≡ ((x || y) || z)
    go true y z = refl
    go false y z = refl

-- ---- what a test keeps

pub keep_append : (f : ℕ → Bool) (a b : List ℕ) → keep f (a ++ b) ≡ keep f a ++ keep f b
unfolding keep
keep_append f [] b = refl
keep_append f (q ∷ a) b = go (told (f q)) (keep_append f a b)
  where
    go : Told (f q) → keep f (a ++ b) ≡ keep f a ++ keep f b → keep f (q ∷ (a ++ b)) ≡ keep f (q ∷ a) ++ keep f b
    go (yea e) h = rw e (ap (λ (r : List ℕ). q ∷ r) h)
    go (nay e) h = rw e h

-- a number is kept exactly if it stands in the row and passes
pub occurs_keep : (f : ℕ → Bool) (q : ℕ) (row : List ℕ) → occurs q (keep f row) ≡ (f q && occurs q row)
unfolding occurs keep
occurs_keep f q [] = sym (go (f q))
  where
    go : (b : Bool) → (b && false) ≡ false
    go true = refl
    go false = refl
occurs_keep f q (r ∷ row) = go (told (eqb q r)) (told (f r)) (occurs_keep f q row)
  where
    both : (x y : Bool) → (x && true || y) ≡ (x || y)
    both true y = refl
    both false y = refl

    go : Told (eqb q r) → Told (f r) → occurs q (keep f row) ≡ (f q && occurs q row) → occurs q (keep f (r ∷ row)) ≡ (f q && (eqb q r || occurs q row))
    go (yea m) (yea p) h = rw (p, occurs, m) (sym (ap (λ (b : Bool). b && true) (ap f (eqb-true q r m) ∙ p)))
    go (yea m) (nay p) h = rw (p, m) (h ∙ ap (λ (b : Bool). b && occurs q row) (ap f (eqb-true q r m) ∙ p) ∙ sym (ap (λ (b : Bool). b && true) (ap f (eqb-true q r m) ∙ p)))
    go (nay m) (yea p) h = rw (p, occurs, m) h
    go (nay m) (nay p) h = rw (p, m) h

-- what is kept and what is not are as many as the row has
pub keep_both : (f : ℕ → Bool) (row : List ℕ) → length (keep (λ q. not (f q)) row) + length (keep f row) ≡ length row
unfolding keep
keep_both f [] = refl
keep_both f (q ∷ row) = go (told (f q)) (keep_both f row)
  where
    go : Told (f q) → length (keep (λ r. not (f r)) row) + length (keep f row) ≡ length row
        → length (keep (λ r. not (f r)) (q ∷ row)) + length (keep f (q ∷ row)) ≡ suc (length row)
    go (yea e) h = rw (e, keep) (omega (arith, h))
    go (nay e) h = rw (e, keep) (omega (arith, h))

-- ---- when some become the latest

-- a row stays as long as it is
pub length_later : (f : ℕ → Bool) (row : List ℕ) → length (later f row) ≡ length row
unfolding later
length_later f row = length-append (keep (λ q. not (f q)) row) (keep f row) ∙ keep_both f row

-- the same numbers stand in it
pub occurs_later : (f : ℕ → Bool) (q : ℕ) (row : List ℕ) → occurs q (later f row) ≡ occurs q row
unfolding later
occurs_later f q row = occurs_append q (keep (λ r. not (f r)) row) (keep f row)
    ∙ ap₂ ◌||◌ (occurs_keep (λ r. not (f r)) q row) (occurs_keep f q row) ∙ go (f q) (occurs q row)
  where
    go : (x y : Bool) → (not x && y || x && y) ≡ y
    go true y = refl
    go false true = refl
    go false false = refl

-- ---- every number, and no other

pub small_append : (a b : List ℕ) → all_small (a ++ b) ≡ (all_small a && all_small b)
unfolding all_small
small_append [] b = refl
small_append (q ∷ a) b = ap (◌&&◌ (ltb q 64)) (small_append a b) ∙ go (ltb q 64) (all_small a) (all_small b)
  where
    go : (x y z : Bool) → (x && (y && z)) ≡ ((x && y) && z)
    go true y z = refl
    go false y z = refl

small_keep : (f : ℕ → Bool) (row : List ℕ) → all_small row ≡ true → all_small (keep f row) ≡ true
unfolding all_small keep
small_keep f [] e = refl
small_keep f (q ∷ row) e = go (told (f q)) (small_keep f row (and_right (ltb q 64) (all_small row) e))
  where
    go : Told (f q) → all_small (keep f row) ≡ true → all_small (keep f (q ∷ row)) ≡ true
    go (yea t) h = rw (t, all_small, and_left (ltb q 64) (all_small row) e) h
    go (nay t) h = rw t h

pub has_all_at : (n q : ℕ) (row : List ℕ) → q < n → has_all n row ≡ true → occurs q row ≡ true
unfolding has_all
has_all_at zero q row l e = absurd (omega arith)
has_all_at (suc n) q row l e = go (eq? q n) (has_all_at n q row)
  where
    go : (q ≡ n) ⊎ (q ≢ n) → (q < n → has_all n row ≡ true → occurs q row ≡ true) → occurs q row ≡ true
    go (inl m) h = ap (λ (r : ℕ). occurs r row) m ∙ and_left (occurs n row) (has_all n row) e
    go (inr m) h = h (omega arith) (and_right (occurs n row) (has_all n row) e)

pub has_all_lem : (n : ℕ) (row : List ℕ) → ((q : ℕ) → q < n → occurs q row ≡ true) → has_all n row ≡ true
unfolding has_all
has_all_lem zero row h = refl
has_all_lem (suc n) row h = ap₂ ◌&&◌ (h n (omega arith)) (has_all_lem n row (λ q l. h q (omega arith)))

module _ (row : List ℕ) where
  pub fits_small : row_fits row ≡ true → all_small row ≡ true
  unfolding row_fits
  fits_small e = and_left (all_small row) (has_all 64 row) e

  -- in a row that fits every number below 64 stands
  pub fits_occurs : row_fits row ≡ true → (q : ℕ) → q < 64 → occurs q row ≡ true
  unfolding row_fits
  fits_occurs e q l = has_all_at 64 q row l (and_right (all_small row) (has_all 64 row) e)

  pub parts_fit : all_small row ≡ true → ((q : ℕ) → q < 64 → occurs q row ≡ true) → row_fits row ≡ true
  unfolding row_fits
  parts_fit s o = ap₂ ◌&&◌ s (has_all_lem 64 row o)

-- a row that fits does so still when some become the latest
pub fits_later : (f : ℕ → Bool) (row : List ℕ) → row_fits row ≡ true → row_fits (later f row) ≡ true
unfolding later
fits_later f row e = parts_fit (later f row)
    (small_append (keep (λ q. not (f q)) row) (keep f row) ∙ ap₂ ◌&&◌ (small_keep (λ q. not (f q)) row s) (small_keep f row s))
    (λ q l. occurs_later f q row ∙ fits_occurs row e q l)
  where
    s : all_small row ≡ true
    s = fits_small row e

-- the row of the bare floor fits
pub counting_fits : row_fits counting_row ≡ true
unfolding row_fits has_all all_small occurs counting_row counting
counting_fits = refl

-- ---- "strict"

-- two numbers of a row do not stand at the same position
pub strict : (q r : ℕ) (row : List ℕ) → occurs q row ≡ true → occurs r row ≡ true → position_of q row ≡ position_of r row → q ≡ r
unfolding occurs position_of
strict q r [] o p e = clash o refl
strict q r (s ∷ row) o p e = go (told (eqb q s)) (told (eqb r s)) (strict q r row)
  where
    go : Told (eqb q s) → Told (eqb r s) → (occurs q row ≡ true → occurs r row ≡ true → position_of q row ≡ position_of r row → q ≡ r) → q ≡ r
    go (yea a) (yea b) h = eqb-true q s a ∙ sym (eqb-true r s b)
    go (yea a) (nay b) h = absurd (omega (arith, rw (a, b, position_of) at e))
    go (nay a) (yea b) h = absurd (omega (arith, rw (a, b, position_of) at e))
    go (nay a) (nay b) h = h (rw a at o) (rw b at p) (omega (arith, rw (a, b, position_of) at e))
