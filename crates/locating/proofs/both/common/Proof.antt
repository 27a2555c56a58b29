-- What is known, told what `is_sound` answered, is the answer.
use mathlib.Core.Path.{◌∙◌}
use borrow.Author.Rules.{rules}
use Rattle.locating.proofs.KnownLaws.{common_told}
use Rattle.locating.proofs.both.common.Statement.{statement}
use Rattle.locating.proofs.both.common.Tie as tie

pub common_spec : {M : Type 1} → statement M
common_spec = tie.close (tie.spec (λ c κs. search rules) (λ c κs. search rules) (λ c. c.common_known.ensures ∙ common_told _ _ _ _ c.before.is_sound-known.ensures))
