-- Parts that came in order are left as they are; others are put in the order of the row.
use Rattle.std.proofs.Common.{refl, arith}
use Rattle.lister.proofs.HeldLaws.{marked_held, marked_inside, marked_last, kept_arranged, few_arranged}
use Rattle.lister.proofs.parts.arrange.Goals as goal

pub returns-then-many-lt2 : goal.returns-then-many-lt2
returns-then-many-lt2 c texts m = few_arranged m c.if-many-lt2.true

pub order-moved-requires : goal.order-moved-requires
order-moved-requires c = let m = c.requires.1 in (marked_inside m (marked_held m), refl)

pub returns-then-moved-eq0 : goal.returns-then-moved-eq0
returns-then-moved-eq0 c texts m = kept_arranged m (c.order-moved.ensures.kept c.if-moved-eq0.true)

pub arrange_aside-requires : goal.arrange_aside-requires
arrange_aside-requires c =
    let o = c.order-moved.ensures in
    let l = c.if-moved-eq0.false in
    (omega arith, record { marked = c.requires; some = omega (arith, o.few, l); small = omega arith; sorts = o.sorts })

pub arrange_aside-requires-else-ends-many-le-FEW_BYTES : goal.arrange_aside-requires-else-ends-many-le-FEW_BYTES
arrange_aside-requires-else-ends-many-le-FEW_BYTES c =
    let m = c.requires.1 in
    let o = c.order-moved.ensures in
    let l = c.if-moved-eq0.false in
    (omega arith, record { marked = c.requires; some = omega (arith, o.few, l); small = omega (arith, marked_last m (omega (arith, o.few, l)), m.page); sorts = o.sorts })
