-- The two numbers are equal exactly if the bytes are.
use borrow.Author.Rules.{rules}
use Rattle.lister.proofs.EightLaws.{eight_alike}
use Rattle.lister.proofs.parts.same_eight.Statement.{statement}
use Rattle.lister.proofs.parts.same_eight.Tie as tie

pub same_eight_spec : {M : Type 1} → statement M
same_eight_spec =
    tie.close
    (tie.spec (λ c κs. search rules) (λ c κs. search rules) (λ c. eight_alike _ _ _ c.before.eight.ensures c.eight-2.ensures))
