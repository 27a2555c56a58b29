-- Texts in ASCII as lists of bytes: decimals, joined parts, and a text laid over the start of a buffer.
use Rattle.std.specs.Prelude.{ℕ, zero, suc, ◌+◌, ◌/◌, ◌%◌, cond, List, [], ◌∷◌, ◌++◌, ltb, eqb, length}
use Prim.Native.String.{String, len, char_at}
use Prim.Native.Char.{code}
use Rattle.table.specs.Base.{tab}

-- the bytes of a text in ASCII
abbrev pub ascii : String → List ℕ
ascii s = tab (λ i. code (char_at s i)) (len s) 0

-- a number of at most k decimal digits, without leading zeros
unfoldable pub digits : ℕ → ℕ → List ℕ
digits zero n = []
digits (suc k) n = cond (ltb n 10) ((48 + n) ∷ []) (digits k (n / 10) ++ ((48 + n % 10) ∷ []))

-- a number in decimal: twenty digits hold every number of 64 bits
abbrev pub decimal : ℕ → List ℕ
decimal n = digits 20 n

-- what stands between the text so far and the next part: nothing before the first
unfoldable pub gap : List ℕ → List ℕ → List ℕ
gap by s = cond (eqb (length s) 0) [] by

-- the text so far and one part more
abbrev pub joined : List ℕ → List ℕ → List ℕ → List ℕ
joined by s part = (s ++ gap by s) ++ part

-- the text so far and the parts after it, in their order
unfoldable pub joined_all : List ℕ → List ℕ → List (List ℕ) → List ℕ
unfolding gap
joined_all by s [] = s
joined_all by s (part ∷ rest) = joined_all by (joined by s part) rest

-- a buffer after a text is written from its start on, as far as the buffer has room
unfoldable pub overlay : List ℕ → List ℕ → List ℕ
overlay [] b = b
overlay (x ∷ text) [] = []
overlay (x ∷ text) (y ∷ b) = x ∷ overlay text b
