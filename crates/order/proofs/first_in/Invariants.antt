-- The first member of what is left of the row is the first of all of it.
use Rattle.std.proofs.Common.{◌≡◌, drop}
use Rattle.sets.specs.Set.{member}
use Rattle.order.specs.Row.{first_in}
use Rattle.order.proofs.first_in.Given as goal

abbrev pub invariant-loop-q : goal.invariant-loop-q
invariant-loop-q l = first_in (member l.s) (drop l.q-index l.q-items) ≡ first_in (member l.s) l.q-items
