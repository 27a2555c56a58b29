-- Before each turn the parts below `low` are part i or come before it, and the one at `high` does not.
use Rattle.std.proofs.Common.{◌-◌}
use Rattle.lister.specs.Cuts.{part_at}
use Rattle.lister.proofs.RankLaws.{Between}
use Rattle.lister.proofs.parts.rank.Given as goal

abbrev pub invariant-loop-low : goal.invariant-loop-low
invariant-loop-low l = Between (part_at l.ends l.buf) l.row l.i l.low l.high

abbrev pub decreases-loop-low : goal.decreases-loop-low
decreases-loop-low l = l.high - l.low
