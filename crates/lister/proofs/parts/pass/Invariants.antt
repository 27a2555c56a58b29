-- Before each turn so many bytes are alike.
use Rattle.std.proofs.Common.{◌≡◌, true, ◌*◌}
use Rattle.lister.specs.Cuts.{alike}
use Rattle.lister.proofs.parts.pass.Given as goal

abbrev pub invariant-loop-k : goal.invariant-loop-k
invariant-loop-k l = alike l.buf l.s l.t (8 * l.k) ≡ true
