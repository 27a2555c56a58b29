-- What is known, told what `is_sound` answered, is the answer.
use mathlib.Core.Path.{◌∙◌}
use borrow.Author.Rules.{rules}
use Rattle.locating.proofs.KnownLaws.{nearest_told}
use Rattle.locating.proofs.named.nearest.Statement.{statement}
use Rattle.locating.proofs.named.nearest.Tie as tie

pub nearest_spec : {M : Type 1} → statement M
nearest_spec = tie.close (tie.spec (λ c κs. search rules) (λ c κs. search rules) (λ c. c.nearest_known.ensures ∙ nearest_told _ _ _ _ c.before.is_sound-known.ensures))
