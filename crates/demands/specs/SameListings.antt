-- What is claimed of listings (document 02, W7): they are equal exactly if the terms are equal by the equivalence of source 002 section 2.2.
-- Definitions only; SameListingsLaws proves it of every two sound tables, and of the cells that any two loads and lists of calls reach.
-- Document 01 says: "Two layouts are taken as alike when their listings are equal." By this claim alike is that equivalence, neither finer nor
-- coarser: the same places with the same names, keys and contents, and the same agents with the same unused actions in the same places, whatever
-- numbers they have and whatever order they stand in.
use Rattle.std.specs.Prelude.{◌≡◌, ◌↔◌, List, ℕ, ◌<◌}
use Rattle.table.specs.Cell.{State}
use Rattle.meaning.specs.File.{byte_at}
use Rattle.meaning.specs.Plain.{tree_of}
use Rattle.meaning.specs.Listing.{listing}
use Rattle.calculus.specs.Terms.{Term, ◌≅◌}
use Rattle.calculus.specs.TermOf.{term}

-- the term of a cell
abbrev pub term_of : State → Term
term_of c = term (tree_of c)

-- the listings of two cells are equal exactly if their terms are equivalent
abbrev pub AlikeExactly : State → State → Type 0
AlikeExactly c d = (listing c ≡ listing d) ↔ (term_of c ≅ term_of d)

-- a file is a list of bytes
abbrev pub OfBytes : List ℕ → Type 0
OfBytes file = (j : ℕ) → byte_at file j < 256
