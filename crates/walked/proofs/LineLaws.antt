-- The parts of a line, grouped as they are written. Assumes nothing.
use Rattle.std.specs.Prelude.{◌≡◌, List, ◌++◌, ℕ}
use Rattle.std.proofs.Common.{append_assoc}

-- a number and a blank, a word and a blank, a number and the line's end
pub did_grouped : (a b c d e f : List ℕ) → ((a ++ b) ++ (c ++ d)) ++ (e ++ f) ≡ ((((a ++ b) ++ c) ++ d) ++ e) ++ f
did_grouped a b c d e f = simp append_assoc
