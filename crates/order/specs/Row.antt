-- "First in, first served" (document 02, W5): a row of place numbers, the one that has been where it stands longest first.
-- Numbers that no place has stand in it too; they never qualify.
use Rattle.std.specs.Prelude.{ℕ, zero, suc, Bool, true, false, not, ◌&&◌, ◌||◌, cond, List, [], ◌∷◌, ◌++◌, eqb, ltb, take}

-- those of a row that pass a test, in their order
unfoldable pub keep : (ℕ → Bool) → List ℕ → List ℕ
keep f [] = []
keep f (q ∷ row) = cond (f q) (q ∷ keep f row) (keep f row)

-- those that pass "become the latest and keep their order among themselves"
unfoldable pub later : (ℕ → Bool) → List ℕ → List ℕ
unfolding keep
later f row = keep (λ q. not (f q)) row ++ keep f row

-- number q "is the latest"
abbrev pub latest : ℕ → List ℕ → List ℕ
latest q row = later (λ r. eqb r q) row

-- of those that pass, the one "that has been under this parent longest": the first in the row, 64 where there is none
unfoldable pub first_in : (ℕ → Bool) → List ℕ → ℕ
first_in f [] = 64
first_in f (q ∷ row) = cond (f q) q (first_in f row)

-- q stands in a row
unfoldable pub occurs : ℕ → List ℕ → Bool
occurs q [] = false
occurs q (r ∷ row) = eqb q r || occurs q row

-- how many stand before q: the fewer, the longer it has been where it stands
unfoldable pub position_of : ℕ → List ℕ → ℕ
position_of q [] = 0
position_of q (r ∷ row) = cond (eqb q r) 0 (suc (position_of q row))

-- n numbers from k on, in the order of counting
unfoldable pub counting : ℕ → ℕ → List ℕ
counting zero k = []
counting (suc n) k = k ∷ counting n (suc k)

-- the row of the bare floor: all numbers, as they are counted
unfoldable pub counting_row : List ℕ
unfolding counting
counting_row = counting 64 0

-- "Loaded places count in file order": the row once the numbers ns have come one after the other on a bare floor
unfoldable pub loaded_row : List ℕ → List ℕ
unfolding keep occurs counting_row
loaded_row ns = keep (λ q. not (occurs q ns)) counting_row ++ ns

-- the numbers that do not pass, as they are counted, and behind them as many of lasts as there is room for
abbrev pub filled_row : (ℕ → Bool) → List ℕ → List ℕ
filled_row f lasts = take 64 (keep (λ q. not (f q)) counting_row ++ lasts)

-- ---- "In a sound table this order is strict": what soundness asks of a row

-- every number below n stands in it
unfoldable pub has_all : ℕ → List ℕ → Bool
unfolding occurs
has_all zero row = true
has_all (suc n) row = occurs n row && has_all n row

-- every number in it is below 64
unfoldable pub all_small : List ℕ → Bool
all_small [] = true
all_small (q ∷ row) = ltb q 64 && all_small row

-- both
unfoldable pub row_fits : List ℕ → Bool
unfolding has_all all_small
row_fits row = all_small row && has_all 64 row
