-- What every writer promises: it is handed a position and lent the part of a buffer from there on, writes as much of its text as there is room for,
-- and answers the position after the whole text.
use Rattle.std.specs.Prelude.{◌≡◌, cond, List, ℕ, ◌+◌, ◌≤◌, ltb, leb, length}
use Rattle.meaning.specs.Text.{overlay}

-- a position, as far as a number of 64 bits can hold it
unfoldable pub capped : ℕ → ℕ
capped n = cond (leb n 18446744073709551615) n 18446744073709551615

-- the smaller of two numbers
unfoldable pub least : ℕ → ℕ → ℕ
least a b = cond (ltb a b) a b

-- the text lies over the part that was lent from `at` on, nothing else of it is changed, and the answer is the position after the text
pub record Wrote (written : List ℕ) (at : ℕ) (before after : List ℕ) (answer : ℕ) : Type 0 where
  pub count : answer ≡ capped (at + length written)
  pub text : after ≡ overlay written before

-- every byte of the part that is lent from `at` on has a position
abbrev pub Placed : ℕ → List ℕ → Type 0
Placed at b = at + length b ≤ 18446744073709551615

-- and there is room for the whole text
pub record Fits (text : List ℕ) (at : ℕ) (b : List ℕ) : Type 0 where
  pub room : length text ≤ length b
  pub placed : Placed at b
