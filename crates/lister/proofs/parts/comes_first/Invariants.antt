-- Before each turn so many bytes are passed, and what is left decides.
use Rattle.std.proofs.Common.{◌≡◌, ◌+◌, ◌≤◌}
use Rattle.meaning.specs.Sorted.{leq}
use Rattle.lister.specs.Cuts.{cut}
use Rattle.lister.proofs.parts.comes_first.Given as goal

abbrev pub invariant-loop-i : goal.invariant-loop-i
invariant-loop-i l = (l.i ≤ l.n) × (leq (cut l.buf l.s l.e) (cut l.buf l.t l.f) ≡ leq (cut l.buf (l.s + l.i) l.e) (cut l.buf (l.t + l.i) l.f))
