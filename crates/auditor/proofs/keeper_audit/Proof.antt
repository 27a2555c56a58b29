-- The number of what `check_trail` finds.
use mathlib.Core.Path.{ap, ◌∙◌}
use borrow.Author.Rules.{rules}
use Rattle.trail.specs.Trail.{finding_number}
use Rattle.auditor.proofs.keeper_audit.Statement.{statement}
use Rattle.auditor.proofs.keeper_audit.Tie as tie

pub keeper_audit_spec : {M : Type 1} → statement M
keeper_audit_spec =
    tie.close
    (tie.spec
    (λ c κs. search rules) (λ c κs. search rules)
    (λ c. c.finding_number.ensures ∙ ap finding_number c.before.check_trail-found.ensures))
