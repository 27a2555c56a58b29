-- From the one place outwards, the first that holds or is the other.
use mathlib.Core.Path.{◌∙◌}
use borrow.Author.Rules.{rules}
use Rattle.locating.specs.Outwards.{up_in}
use Rattle.locating.proofs.OutwardsLaws.{first_common}
use Rattle.locating.proofs.both.common_place.Statement.{statement}
use Rattle.locating.proofs.both.common_place.Tie as tie

pub common_place_spec : {M : Type 1} → statement M
common_place_spec =
    tie.close
    (tie.spec
    (λ c κs. search rules) (λ c κs. search rules)
    (λ c. let a = c.before.before.args in c.first_among.ensures ∙ first_common (up_in a.ps) a.q a.r c.before.holders-s.result c.before.holders-s.ensures))
