-- The floor stands nowhere; from any other place the walk starts where it stands.
use mathlib.Core.Path.{ap, ◌∙◌}
use borrow.Author.Rules.{rules}
use borrow.Author.Tests.{eq-eqb, ne_eqb}
use Rattle.table.specs.declared.Place.{Place}
use Rattle.meaning.specs.Where.{most_outwards, outwards, nearest}
use Rattle.locating.specs.Outwards.{up_in, named_in}
use Rattle.locating.proofs.named.nearest_place.Statement.{statement}
use Rattle.locating.proofs.named.nearest_place.Tie as tie

returns_2 : tie.Need-returns-else-q-eq0
unfolding nearest
returns_2 c =
    let a = c.before.before.before.args in
    rw (ne_eqb _ _ c.before.before.if-q-eq0.false)
    (c.first_named.ensures ∙ ap (λ (x : Place). outwards most_outwards (up_in a.ps) (named_in a.ps a.name) x.parent) c.before.place_at-x.ensures)

pub nearest_place_spec : {M : Type 1} → statement M
unfolding nearest
nearest_place_spec = tie.close (tie.spec (λ c κs. search rules) (λ c κs. search rules) (λ c. rw (eq-eqb _ _ c.if-q-eq0.true)) returns_2)
