-- Before each turn the bytes so far are those of the word.
use Rattle.std.proofs.Common.{◌≡◌, ℕ, ◌+◌, ◌-◌, ◌≤◌, ◌<◌, length, get_or}
use Rattle.parser.proofs.stretch.stands.Given as goal

abbrev pub invariant-loop-j : goal.invariant-loop-j
invariant-loop-j l = (length l.w ≤ length l.s - l.i) × ((n : ℕ) → n < l.j → get_or l.s (l.i + n) 0 ≡ get_or l.w n 0)
