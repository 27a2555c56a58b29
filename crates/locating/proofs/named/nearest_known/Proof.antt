-- The tests in their order.
use mathlib.Core.Path.{refl, sym, ap, ◌∙◌}
use borrow.Author.Rules.{rules}
use borrow.Author.Tests.{le-leb, lt-leb}
use Rattle.meaning.specs.Where.{found_place}
use Rattle.locating.specs.Known.{known_nearest}
use Rattle.locating.proofs.named.nearest_known.Statement.{statement}
use Rattle.locating.proofs.named.nearest_known.Tie as tie

pub nearest_known_spec : {M : Type 1} → statement M
unfolding known_nearest
nearest_known_spec =
    tie.close
    (tie.spec
    (λ c. rw (c.before.if-known.true, le-leb _ _ c.if-place-ge64.true) refl)
    (λ c κs. search rules) (λ c κs. search rules) (λ c κs. search rules)
    (λ c.
    let used = c.before.before.before in
    let has = used.before in
    rw (has.before.before.before.if-known.true, lt-leb _ _ has.before.before.if-place-ge64.false, sym has.has.ensures ∙ used.if-has.true)
    (c.found_place.ensures ∙ ap found_place c.before.nearest_place-p.ensures))
    (λ c.
    let has = c.before in
    rw (has.before.before.before.if-known.true, lt-leb _ _ has.before.before.if-place-ge64.false, sym has.has.ensures ∙ c.if-has.false) refl)
    (λ c. rw c.if-known.false refl))
