-- Parts of a buffer by where they start and end, and rows of their numbers: what putting parts in order is said with.
use Rattle.std.specs.Prelude.{◌≡◌, Bool, List, [], ◌∷◌, ◌++◌, map, ℕ, zero, suc, ◌+◌, ◌-◌, ◌*◌, ◌≤◌, ◌<◌, eqb, length, get_or, take, drop}
use Rattle.table.specs.Base.{all_below}
use Rattle.meaning.specs.Sorted.{insert, sorted}
use Rattle.meaning.specs.Text.{joined_all}
use Rattle.meaning.specs.Every.{Every}
use Rattle.text.specs.Wrote.{Fits}
use Rattle.lister.specs.Sheet.{bar}
use Rattle.lister.specs.Marked.{AnyMarked}

-- the bytes from s to before e
abbrev pub cut : List ℕ → ℕ → ℕ → List ℕ
cut b s e = take (e - s) (drop s b)

-- the first n bytes from i on are those from j on
unfoldable pub alike : List ℕ → ℕ → ℕ → ℕ → Bool
unfolding all_below
alike b i j n = all_below (λ k. eqb (get_or b (i + k) 0) (get_or b (j + k) 0)) n

-- a number is that of the eight bytes from i on, the first the lowest
pub record Eight (b : List ℕ) (i r : ℕ) : Type 0 where
  pub number : r ≡ (get_or b i 0 + 256 * get_or b (i + 1) 0) + 65536 * (get_or b (i + 2) 0 + 256 * get_or b (i + 3) 0)
      + 4294967296 * ((get_or b (i + 4) 0 + 256 * get_or b (i + 5) 0) + 65536 * (get_or b (i + 6) 0 + 256 * get_or b (i + 7) 0))
  pub first : (get_or b i 0 < 256) × (get_or b (i + 1) 0 < 256)
  pub second : (get_or b (i + 2) 0 < 256) × (get_or b (i + 3) 0 < 256)
  pub third : (get_or b (i + 4) 0 < 256) × (get_or b (i + 5) 0 < 256)
  pub fourth : (get_or b (i + 6) 0 < 256) × (get_or b (i + 7) 0 < 256)

-- where part i starts: after the bar that follows the one before it
unfoldable pub start_of : List ℕ → ℕ → ℕ
start_of marks zero = 0
start_of marks (suc i) = get_or marks i 0 + 3

-- part i
unfoldable pub part_at : List ℕ → List ℕ → ℕ → List ℕ
unfolding start_of
part_at marks b i = cut b (start_of marks i) (get_or marks i 0)

-- the first n texts, the last of them first
unfoldable pub laid : (ℕ → List ℕ) → ℕ → List (List ℕ)
laid text zero = []
laid text (suc n) = text n ∷ laid text n

-- the first n texts as they come
unfoldable pub counted : (ℕ → List ℕ) → ℕ → List (List ℕ)
counted text zero = []
counted text (suc n) = counted text n ++ (text n ∷ [])

-- the texts of the first n of a row of numbers
abbrev pub in_row : (ℕ → List ℕ) → ℕ → List ℕ → List (List ℕ)
in_row text n row = map text (take n row)

-- a row once x is put in before the number at a position, and those from there to before the i-th stand one further on
unfoldable pub put_in : ℕ → ℕ → ℕ → List ℕ → List ℕ
put_in at i x [] = []
put_in zero zero x (y ∷ row) = x ∷ row
put_in zero (suc i) x (y ∷ row) = x ∷ put_in zero i y row
put_in (suc at) zero x (y ∷ row) = y ∷ row
put_in (suc at) (suc i) x (y ∷ row) = y ∷ put_in at i x row

-- so many parts lie in a buffer
pub record Inside (marks : List ℕ) (n : ℕ) (b : List ℕ) : Type 0 where
  pub few : n ≤ 64
  pub after : (i : ℕ) → i < n → start_of marks i ≤ get_or marks i 0
  pub within : (i : ℕ) → i < n → get_or marks i 0 ≤ length b

-- a row has the numbers of the first n parts in byte order
pub record Row (marks b : List ℕ) (n : ℕ) (row : List ℕ) : Type 0 where
  pub full : length row ≡ 64
  pub low : Every (λ k. k < n) (take n row)
  pub order : in_row (part_at marks b) n row ≡ sorted (laid (part_at marks b) n)

-- so many of a row are text i or come before it, and the others do not: it goes there
pub record Rank (text : ℕ → List ℕ) (row : List ℕ) (i r : ℕ) : Type 0 where
  pub low : r ≤ i
  pub put : insert (text i) (in_row text i row) ≡ take r (in_row text i row) ++ (text i ∷ drop r (in_row text i row))

-- a row in byte order, and how far parts were moved in all: by nothing if they came in order
pub record Ordering (marks b : List ℕ) (n : ℕ) (row : List ℕ) (moved : ℕ) : Type 0 where
  pub sorts : Row marks b n row
  pub few : moved ≤ 64 * n
  pub kept : moved ≡ 0 → sorted (laid (part_at marks b) n) ≡ counted (part_at marks b) n

-- a row tells parts of a copy that a buffer has room for
pub record Rewritable (marks spare : List ℕ) (n : ℕ) (row buf : List ℕ) : Type 0 where
  pub inside : Inside marks n spare
  pub full : length row ≡ 64
  pub low : Every (λ k. k < n) (take n row)
  pub fits : Fits (joined_all bar [] (in_row (part_at marks spare) n row)) 0 buf

-- parts of so many bytes at most, and a row that has their numbers in byte order
pub record Copyable (size : ℕ) (marks : List ℕ) (n : ℕ) (row buf : List ℕ) : Type 0 where
  pub marked : AnyMarked marks n buf
  pub some : 0 < n
  pub small : get_or marks (n - 1) 0 ≤ size
  pub sorts : Row marks buf n row
