-- The test is that of the name.
use Rattle.std.proofs.Common.{◌≡◌, subst, rules}
use Rattle.std.specs.Prelude.{eqb}
use Rattle.table.specs.declared.Place.{Place}
use Rattle.locating.specs.Outwards.{named_in}
use Rattle.locating.proofs.named.first_named.Goals as goal

pub returns : goal.returns
returns c = c.first_outwards.ensures (named_in c.args.ps c.args.name) (λ q x b e h. subst (λ (y : Place). b ≡ eqb y.name.name c.args.name) e (search rules))
