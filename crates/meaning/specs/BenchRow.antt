-- What a row of the bench is made of: the bytes of a file, an order, and the lines that walk writes for them.
use Rattle.std.specs.Prelude.{cond, List, [], ◌∷◌, ◌++◌, ℕ, zero, suc, ◌+◌, ◌*◌, ◌-◌, ◌/◌, ◌%◌, ltb}
use Prim.Native.String.{String, len, char_at}
use Prim.Native.Char.{code}
use Rattle.table.specs.Base.{tab}

-- a file, an order, and the lines that walk writes for them
pub record Row : Type 0 where
  pub cell : List ℕ
  pub order : List ℕ
  pub lines : List String

abbrev pub row : List ℕ → List ℕ → List String → Row
row cell order lines = record { cell = cell; order = order; lines = lines }

-- ---- bytes

-- a digit: `0` to `9` are the characters 48 to 57, `a` to `f` 97 to 102
abbrev digit : String → ℕ → ℕ
digit s i = cond (ltb (code (char_at s i)) 58) (code (char_at s i) - 48) (code (char_at s i) - 87)

-- bytes in hexadecimal, with a space between two
abbrev pub hex : String → List ℕ
hex s = tab (λ i. 16 * digit s (3 * i) + digit s (3 * i + 1)) ((len s + 1) / 3) 0

-- ---- a cell file

-- "number, parent, name (2 bytes)"
abbrev pub place : ℕ → ℕ → ℕ → List ℕ
place number parent name = 1 ∷ number ∷ parent ∷ name % 256 ∷ name / 256 ∷ []

-- "number, place it lives in"
abbrev pub agent : ℕ → ℕ → List ℕ
agent number home = 2 ∷ number ∷ home ∷ []

-- "agent, action kind, name (2 bytes)"
abbrev pub enters : ℕ → ℕ → List ℕ
enters number name = 3 ∷ number ∷ 1 ∷ name % 256 ∷ name / 256 ∷ []

abbrev pub exits : ℕ → ℕ → List ℕ
exits number name = 3 ∷ number ∷ 2 ∷ name % 256 ∷ name / 256 ∷ []

abbrev pub opens : ℕ → ℕ → List ℕ
opens number name = 3 ∷ number ∷ 3 ∷ name % 256 ∷ name / 256 ∷ []

abbrev pub releases : ℕ → ℕ → List ℕ
releases number name = 3 ∷ number ∷ 4 ∷ name % 256 ∷ name / 256 ∷ []

-- "place number 0 to 63, then four bytes, low byte first"
abbrev pub touches : ℕ → ℕ → List ℕ
touches number n = 5 ∷ number ∷ n % 256 ∷ n / 256 % 256 ∷ n / 65536 % 256 ∷ n / 16777216 ∷ []

-- "number, parent, name, then the three keys": enter, exit, open
abbrev pub keyed : ℕ → ℕ → ℕ → ℕ → ℕ → ℕ → List ℕ
keyed number parent name enter exit opened = 6 ∷ number ∷ parent ∷ name % 256 ∷ name / 256 ∷
    enter % 256 ∷ enter / 256 ∷ exit % 256 ∷ exit / 256 ∷ opened % 256 ∷ opened / 256 ∷ []

-- the records one after the other, and the end record
unfoldable pub file : List (List ℕ) → List ℕ
file [] = 4 ∷ []
file (one ∷ records) = one ++ file records

-- so many actions of agent 0, with falling names, and further bytes
unfoldable pub many_opens : ℕ → List ℕ → List ℕ
many_opens zero rest = rest
many_opens (suc n) rest = opens 0 (suc n) ++ many_opens n rest

-- so many places named 1 on the floor, and further bytes
unfoldable pub many_places : ℕ → List ℕ → List ℕ
many_places zero rest = rest
many_places (suc n) rest = place (suc n) 0 1 ++ many_places n rest

-- ---- an order

-- agents with numbers of one digit, each with wish 255
unfoldable pub calls : List ℕ → List ℕ
calls [] = []
calls (x ∷ order) = x ∷ 255 ∷ calls order

abbrev pub agents : String → List ℕ
agents s = calls (tab (λ i. digit s (2 * i)) ((len s + 1) / 2) 0)
