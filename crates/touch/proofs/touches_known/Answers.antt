-- The tests in their order.
use Rattle.std.proofs.Common.{refl, sym, ◌∙◌}
use Rattle.std.proofs.lemmas.Bool.{le-leb, lt-leb}
use Rattle.touch.specs.Known.{known_touches}
use Rattle.touch.proofs.touches_known.Goals as goal

pub returns-then-not-known : goal.returns-then-not-known
unfolding known_touches
returns-then-not-known c = rw c.if-not-known.true refl

pub returns-then-place-ge64 : goal.returns-then-place-ge64
unfolding known_touches
returns-then-place-ge64 c = rw (c.if-not-known.false, le-leb _ _ c.if-place-ge64.true) refl

pub returns-then-not-has : goal.returns-then-not-has
unfolding known_touches
returns-then-not-has c = rw (c.if-not-known.false, lt-leb _ _ c.if-place-ge64.false, sym c.has.ensures ∙ c.if-not-has.true) refl

pub returns : goal.returns
unfolding known_touches
returns c = rw (c.if-not-known.false, lt-leb _ _ c.if-place-ge64.false, sym c.has.ensures ∙ c.if-not-has.false) refl
