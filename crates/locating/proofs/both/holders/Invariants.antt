-- The places so far are in the set, and the turns that are left put in the others.
use Rattle.std.proofs.Common.{◌-◌}
use Rattle.locating.specs.Outwards.{up_in}
use Rattle.locating.proofs.OutwardsLaws.{Chained}
use Rattle.locating.proofs.both.holders.Given as goal

abbrev pub invariant-loop-turn : goal.invariant-loop-turn
invariant-loop-turn l = Chained (up_in l.ps) l.fn.r l.s l.at (65 - l._turn)
