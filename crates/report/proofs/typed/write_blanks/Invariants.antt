-- Before turn i the first i blanks are written over the start of the part.
use Rattle.std.proofs.Common.{◌≡◌, ℕ, take, replicate}
use Rattle.meaning.specs.Text.{overlay}
use Rattle.report.proofs.typed.write_blanks.Given as goal

abbrev pub invariant-loop-i : goal.invariant-loop-i
invariant-loop-i l = l.buf ≡ overlay (take l.i (replicate {A = ℕ} l.count 32)) l.initial.buf
