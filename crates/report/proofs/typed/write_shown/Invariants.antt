-- Before turn i the first i bytes are written, as they are shown, over the start of the part.
use Rattle.std.proofs.Common.{◌≡◌, map, take}
use Rattle.meaning.specs.Text.{overlay}
use Rattle.language.specs.TypedReport.{shown}
use Rattle.report.proofs.typed.write_shown.Given as goal

abbrev pub invariant-loop-i : goal.invariant-loop-i
invariant-loop-i l = l.buf ≡ overlay (take l.i (map shown l.t)) l.initial.buf
