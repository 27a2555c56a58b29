-- Which findings audit's line can tell: those on a trail that a computer can hold.
use Rattle.std.specs.Prelude.{ℕ, ◌<◌}
use Rattle.trail.specs.declared.Finding.{Finding}
use Rattle.trail.specs.declared.Finding.TheVariants.{Upheld, Denied, BadFile}

-- the number of the move after those that stand before what is wrong has 64 bits
abbrev pub Counted : Finding → Type 0
Counted Upheld = Unit {0}
Counted (Denied moves reason) = moves < 18446744073709551615
Counted (BadFile number offset) = Unit {0}

-- no line is longer: `refused`, two numbers of at most twenty digits, their blanks and the line's end
abbrev pub longest_line : ℕ
longest_line = 50
