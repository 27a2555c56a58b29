-- What walk's buffers hold of the files that it reads ("Program `walk` reads file `cell` and file `order`"), and what its text holds then.
use Rattle.std.specs.Prelude.{◌≡◌, List, ◌++◌, ℕ, ◌<◌, length, get_or, take, drop}
use Rattle.text.specs.Wrote.{least}

-- every element is a byte
abbrev pub Bytes : List ℕ → Type 0
Bytes s = (j : ℕ) → get_or s j 0 < 256

-- n bytes were read: all that the file has, or as many as the buffer has room for, and they are the file's first
pub record Holds (file buffer : List ℕ) (n : ℕ) : Type 0 where
  pub count : n ≡ least (length file) (length buffer)
  pub bytes : take n buffer ≡ take n file

-- a text stands whole at a buffer's start, the answer is its length, and the bytes past it are as they were
pub record Whole (text before after : List ℕ) (answer : ℕ) : Type 0 where
  pub count : answer ≡ length text
  pub bytes : after ≡ text ++ drop answer before
