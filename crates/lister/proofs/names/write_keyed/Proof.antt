-- The number, and the keys after it.
use mathlib.Core.Path.{refl}
use native.Mathlib.Omega.{arith}
use borrow.Author.Rules.{rules}
use Rattle.meaning.specs.Text.{decimal}
use Rattle.text.proofs.RoomLaws.{fits_first, fits_exactly, first_in, fits_next, then_next}
use Rattle.lister.specs.Sheet.{keys_text, keyed_text}
use Rattle.lister.proofs.names.write_keyed.Statement.{statement}
use Rattle.lister.proofs.names.write_keyed.Tie as tie

returns : tie.Need-returns
unfolding keyed_text
returns c = then_next _ c.before.before.before.before.before.before.write_number-mid.ensures c.before.before.before.before.before.before.before.before.before.requires refl c.before.before.write_keys.ensures

pub write_keyed_spec : {M : Type 1} → statement M
unfolding keyed_text
write_keyed_spec =
    tie.close
    (tie.spec
    (λ c κs. fits_first (decimal c.before.before.args.x.name) (keys_text c.before.before.args.x) c.before.before.requires)
    (λ c. omega (arith, fits_exactly (fits_first (decimal c.before.before.before.before.before.args.x.name) (keys_text c.before.before.before.before.before.args.x) c.before.before.before.before.before.requires) c.before.before.write_number-mid.ensures))
    (λ c. first_in (keys_text c.before.before.before.before.before.args.x) c.before.before.write_number-mid.ensures c.before.before.before.before.before.requires refl)
    (λ c. first_in (keys_text c.before.before.before.before.before.args.x) c.before.before.write_number-mid.ensures c.before.before.before.before.before.requires refl)
    (λ c. search rules)
    (λ c κs. fits_next (keys_text c.before.before.before.before.before.before.args.x) c.before.before.before.write_number-mid.ensures c.before.before.before.before.before.before.requires refl)
    (λ c. search rules) returns)
