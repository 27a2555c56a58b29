-- Before turn i the first i parts of the row are written.
use Rattle.std.proofs.Common.{[]}
use Rattle.meaning.specs.Text.{joined_all}
use Rattle.text.specs.Wrote.{Wrote}
use Rattle.lister.specs.Sheet.{bar}
use Rattle.lister.specs.Cuts.{part_at, in_row}
use Rattle.lister.proofs.parts.rewrite.Given as goal

abbrev pub invariant-loop-i : goal.invariant-loop-i
invariant-loop-i l = Wrote (joined_all bar [] (in_row (part_at l.ends l.spare) l.i l.row)) 0 l.fn.buf l.buf l.at
