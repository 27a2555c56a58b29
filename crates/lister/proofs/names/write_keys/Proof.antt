-- One key after another.
use mathlib.Core.Path.{refl}
use borrow.Author.Rules.{rules}
use Rattle.lister.proofs.KeyLaws.{entering_fits, entering_before, exiting_in, exiting_fits, exiting_before, opening_in, opening_fits, keys_written}
use Rattle.lister.proofs.names.write_keys.Statement.{statement}
use Rattle.lister.proofs.names.write_keys.Tie as tie

returns : tie.Need-returns
returns c =
    keys_written c.before.before.before.before.before.before.before.before.before.before.before.before.before.args.x c.before.before.before.before.before.before.before.before.before.before.before.before.before.requires c.before.before.before.before.before.before.before.before.before.before.write_slashed-first.ensures refl
    c.before.before.before.before.before.before.write_slashed-second.ensures refl c.before.before.write_slashed.ensures

pub write_keys_spec : {M : Type 1} → statement M
write_keys_spec =
    tie.close
    (tie.spec
    (λ c κs. entering_fits c.before.before.args.x c.before.before.requires)
    (λ c. entering_before c.before.before.before.before.before.args.x c.before.before.before.before.before.requires c.before.before.write_slashed-first.ensures refl)
    (λ c. exiting_in c.before.before.before.before.before.args.x c.before.before.before.before.before.requires c.before.before.write_slashed-first.ensures refl)
    (λ c. exiting_in c.before.before.before.before.before.args.x c.before.before.before.before.before.requires c.before.before.write_slashed-first.ensures refl)
    (λ c. search rules)
    (λ c κs. exiting_fits c.before.before.before.before.before.before.args.x c.before.before.before.before.before.before.requires c.before.before.before.write_slashed-first.ensures refl)
    (λ c. exiting_before c.before.before.before.before.before.before.before.before.before.args.x c.before.before.before.before.before.before.before.before.before.requires c.before.before.before.before.before.before.write_slashed-first.ensures refl c.before.before.write_slashed-second.ensures refl)
    (λ c. opening_in c.before.before.before.before.before.before.before.before.before.args.x c.before.before.before.before.before.before.before.before.before.requires c.before.before.before.before.before.before.write_slashed-first.ensures refl c.before.before.write_slashed-second.ensures refl)
    (λ c. opening_in c.before.before.before.before.before.before.before.before.before.args.x c.before.before.before.before.before.before.before.before.before.requires c.before.before.before.before.before.before.write_slashed-first.ensures refl c.before.before.write_slashed-second.ensures refl)
    (λ c. search rules)
    (λ c κs. opening_fits c.before.before.before.before.before.before.before.before.before.before.args.x c.before.before.before.before.before.before.before.before.before.before.requires c.before.before.before.before.before.before.before.write_slashed-first.ensures refl c.before.before.before.write_slashed-second.ensures refl)
    (λ c. search rules) returns)
