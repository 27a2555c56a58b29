-- The tests in their order.
use mathlib.Core.Path.{◌≡◌, refl, sym, ap, ◌∙◌}
use mathlib.Core.Bool.{true, false}
use native.Mathlib.Omega.{arith}
use borrow.Author.Rules.{rules}
use borrow.Author.Tests.{le-leb, lt-leb}
use lib.Dec.{leb}
use Rattle.sets.specs.Set.{member}
use Rattle.meaning.specs.Where.{found_place}
use Rattle.locating.specs.Known.{known_common}
use Rattle.locating.proofs.both.common_known.Statement.{statement}
use Rattle.locating.proofs.both.common_known.Tie as tie

-- the first place is below 64
small : (c : tie.Else-place-ge64) → leb 64 c.before.before.args.place ≡ false
small c = lt-leb 64 c.before.before.args.place c.if-place-ge64.false

-- the first place is in use, and so is the other
used : (c : tie.Then-has) → let a = c.before.before.before.before.before.before.args in member a.c.used a.place ≡ true
used c = sym c.before.has.ensures ∙ c.if-has.true

other_used : (c : tie.Then-has-2) → let a = c.before.before.before.before.before.before.before.before.args in member a.c.used a.other ≡ true
other_used c = sym c.before.has-then-has.ensures ∙ c.if-has-2.true

returns_3 : tie.Need-returns-then-has-2
unfolding known_common
returns_3 c =
    let both = c.before.before.before in
    let one = both.before.before in
    let low = one.before.before.before in
    rw (low.before.before.if-known.true, small low.before, lt-leb 64 c.args.other (omega arith), used one, other_used both)
    (c.found_place.ensures ∙ ap found_place c.before.common_place-p.ensures)

-- the other place is not in use
returns_4 : tie.Need-returns-else-has-2
unfolding known_common
returns_4 c =
    let one = c.before.before in
    let low = one.before.before.before in
    rw (low.before.before.if-known.true, small low.before, lt-leb 64 c.args.other (omega arith), used one, sym c.before.has-then-has.ensures ∙ c.if-has-2.false) refl

-- nor the first
returns_5 : tie.Need-returns-else-has
unfolding known_common
returns_5 c =
    let low = c.before.before.before in
    rw (low.before.before.if-known.true, small low.before, lt-leb 64 c.args.other (omega arith), sym c.before.has.ensures ∙ c.if-has.false) refl

pub common_known_spec : {M : Type 1} → statement M
unfolding known_common
common_known_spec =
    tie.close
    (tie.spec
    (λ c. rw (c.before.if-known.true, le-leb _ _ c.if-place-ge64.true) refl)
    (λ c. rw (c.before.before.if-known.true, small c.before, le-leb 64 c.args.other (omega arith)) refl)
    (λ c κs. search rules) (λ c κs. search rules) (λ c κs. search rules) (λ c κs. search rules)
    returns_3 returns_4 returns_5 (λ c. rw c.if-known.false refl))
