-- The test is membership.
use Rattle.std.proofs.Common.{rules}
use Rattle.sets.specs.Set.{member}
use Rattle.locating.proofs.both.first_among.Goals as goal

pub returns : goal.returns
returns c = c.first_outwards.ensures (member c.args.s) (λ q x b e h. search rules)
