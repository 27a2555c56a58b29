-- Texts in byte order have as many bytes as they had before. Assumes nothing.
-- Idea: every text adds its bytes and a bar, but for the first.
use Rattle.std.specs.Prelude.{◌≡◌, refl, Bool, cond, List, [], ◌∷◌, ◌++◌, ℕ, ◌+◌, ◌-◌, ◌<◌, length}
use Rattle.std.proofs.Common.{sym, ap, ◌∙◌, arith, length-append, ne_eqb}
use Rattle.table.specs.Base.{tab}
use Rattle.table.proofs.BaseLaws.{Told, yea, nay, told}
use Rattle.meaning.specs.Text.{gap, joined, joined_all}
use Rattle.meaning.specs.Sorted.{leq, insert, sorted}
use Rattle.meaning.proofs.SortedLaws.{Text}
use Rattle.meaning.proofs.InsertLaws.{every_sorted}
use Rattle.meaning.specs.Every.{every_none, every_more, Every}
use Rattle.lister.specs.Sheet.{bar}
use Rattle.lister.specs.Marked.{barred, grouped, Filled, none, more}

-- ---- how many bytes they have

-- a text has a byte
abbrev Full : Text → Type 0
Full x = 0 < length x

pub filled_every : {ts : List Text} → Filled ts → Every Full ts
filled_every none = every_none
filled_every (more l f) = every_more l (filled_every f)

-- a bar stands after a text that has bytes
pub gap_bar : (s : Text) → 0 < length s → gap bar s ≡ bar
unfolding gap
gap_bar s l = ap (λ (z : Bool). cond z [] bar) (ne_eqb (length s) 0 (λ e. omega arith))

pub bar_length : length bar ≡ 3
unfolding tab
bar_length = refl

joined_length : (s x : Text) → 0 < length s → length (joined bar s x) ≡ length s + 3 + length x
joined_length s x l =
    let e = ap length (gap_bar s l) in
    omega (arith, length-append (s ++ gap bar s) x, length-append s (gap bar s), bar_length)

first_length : (x : Text) → joined bar [] x ≡ x
unfolding gap
first_length x = refl

-- the bytes of all texts, each with a bar
total : List Text → ℕ
total [] = 0
total (x ∷ l) = 3 + length x + total l

total_insert : (x : Text) (l : List Text) → total (insert x l) ≡ 3 + length x + total l
unfolding total insert
total_insert x [] = refl
total_insert x (y ∷ l) = go (told (leq y x)) (total_insert x l)
  where
    go : Told (leq y x) → total (insert x l) ≡ 3 + length x + total l → total (insert x (y ∷ l)) ≡ 3 + length x + total (y ∷ l)
    go (yea e) r = rw (e, total) (omega arith)
    go (nay e) r = rw (e, total) (omega arith)

total_sorted : (l : List Text) → total (sorted l) ≡ total l
unfolding total sorted
total_sorted [] = refl
total_sorted (x ∷ l) = let e = total_sorted l in total_insert x (sorted l) ∙ omega arith

joined_total : {l : List Text} (s : Text) → 0 < length s → Every Full l → length (joined_all bar s l) ≡ length s + total l
unfolding joined_all total
joined_total s l every_none = omega arith
joined_total s l (every_more {x} {rest} p e) =
    let n = joined_length s x l in
    joined_total (joined bar s x) (omega arith) e ∙ omega arith

all_total : {l : List Text} → Every Full l → length (joined_all bar [] l) ≡ total l - 3
unfolding joined_all total
all_total every_none = refl
all_total (every_more {x} {rest} p e) = ap (λ (s : Text). length (joined_all bar s rest)) (first_length x) ∙ joined_total x p e ∙ omega arith

barred_total : {ts : List Text} → Filled ts → length (barred ts) ≡ total ts - 3
unfolding barred total
barred_total none = refl
barred_total (more {x} {earlier = []} l f) = ap length (first_length x) ∙ omega arith
barred_total (more {x} {earlier = y ∷ ts} l f) = go f (barred_total f)
  where
    go : Filled (y ∷ ts) → length (barred (y ∷ ts)) ≡ total (y ∷ ts) - 3 → length (joined bar (barred (y ∷ ts)) x) ≡ total (x ∷ (y ∷ ts)) - 3
    go (more p g) e = joined_length (barred (y ∷ ts)) x (omega arith) ∙ omega arith

-- the first of some texts has a byte, so they do
pub filled_some : (x : Text) {ts : List Text} → 0 < length x → Filled ts → 0 < length (barred (x ∷ ts))
unfolding barred
filled_some x {ts} l f = omega (arith, length-append (barred ts ++ gap bar (barred ts)) x)

-- texts in byte order have as many bytes as they had
pub grouped_length : {ts : List Text} → Filled ts → length (grouped ts) ≡ length (barred ts)
unfolding grouped
grouped_length {ts} f = all_total (every_sorted (filled_every f)) ∙ ap (λ (n : ℕ). n - 3) (total_sorted ts) ∙ sym (barred_total f)
