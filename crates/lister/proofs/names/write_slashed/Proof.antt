-- The slash, and the key after it.
use native.Mathlib.Omega.{arith}
use borrow.Author.Rules.{rules}
use Rattle.text.proofs.TextLaws.{wrote_length}
use Rattle.lister.proofs.KeyLaws.{slash_in, slash_placed, key_in, key_fits, key_written}
use Rattle.lister.proofs.names.write_slashed.Statement.{statement}
use Rattle.lister.proofs.names.write_slashed.Tie as tie

returns : tie.Need-returns
returns c = key_written _ c.before.before.before.before.before.requires c.before.before.write_number.ensures

pub write_slashed_spec : {M : Type 1} → statement M
write_slashed_spec =
    tie.close
    (tie.spec
    (λ c. slash_in _ c.before.requires) (λ c. omega (arith, slash_placed _ c.before.requires))
    (λ c. key_in _ c.before.requires) (λ c. key_in _ c.before.requires) (λ c. search rules)
    (λ c κs. key_fits _ c.before.before.requires)
    (λ c. wrote_length (returns c)) returns)
