-- What is claimed of a listing that is read back (document 02, W8). Definitions only; ReadBackLaws proves it of every sound table, and of the
-- cell that any load, of a file or of a text, and any list of calls reach.
use Rattle.std.specs.Prelude.{◌≡◌, List, ℕ}
use Rattle.table.specs.Cell.{State, cell_of}
use Rattle.table.specs.declared.Cell.{Cell}
use Rattle.meaning.specs.Answers.{Accepted}
use Rattle.meaning.specs.File.{accepted}
use Rattle.meaning.specs.Listing.{listing, list_answer, list_buffer}
use Rattle.calculus.specs.Terms.{◌≅◌}
use Rattle.demands.specs.SameListings.{term_of}
use Rattle.language.specs.Read.{read_text, read_of}

-- "Reading a listing back": the listing of cell c is read, as a cell with an equivalent term, which is listed so again, byte for byte
pub record ReadBack (c : State) : Type 0 where
  pub cell : State
  pub read : read_text (listing c) ≡ accepted cell
  pub same : term_of cell ≅ term_of c
  pub again : listing cell ≡ listing c

-- the same in words of calls: whatever table u is there before, the listing of table t is accepted, and then the listing call answers as it did
-- of t and writes the same bytes, whatever buffer it is lent
pub record ListedAgain (u t : Cell) : Type 0 where
  pub verdict : (read_of u (listing (cell_of t))).verdict ≡ Accepted
  pub answer : (buffer : List ℕ) → list_answer (cell_of (read_of u (listing (cell_of t))).cell) buffer ≡ list_answer (cell_of t) buffer
  pub bytes : (buffer : List ℕ) → list_buffer (cell_of (read_of u (listing (cell_of t))).cell) buffer ≡ list_buffer (cell_of t) buffer
