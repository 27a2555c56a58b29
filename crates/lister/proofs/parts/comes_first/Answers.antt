-- Before each turn so many bytes are passed, and what is left decides.
use Rattle.std.proofs.Common.{◌≡◌, ℕ, ◌+◌, ◌-◌, ◌≤◌, ◌<◌, sym, ◌∙◌, arith}
use Rattle.text.specs.Wrote.{least}
use Rattle.text.proofs.TextLaws.{least_le}
use Rattle.lister.proofs.CutLaws.{alike_at, from_all, from_differ, from_same, from_end}
use Rattle.lister.proofs.parts.comes_first.Goals as goal
use Rattle.lister.proofs.parts.comes_first.Goals.{In-loop-i}

-- as many bytes as both have
both : {s e t f n : ℕ} → s ≤ e → t ≤ f → n ≡ least (e - s) (f - t) → (s + n ≤ e) × (t + n ≤ f)
both l m e = let h = least_le _ _ _ e in (omega (arith, h.0), omega (arith, h.1))

-- a turn is within both
turn : (c : In-loop-i) → (c.args.s + c.loop-i.i < c.args.e) × (c.args.t + c.loop-i.i < c.args.f)
turn c = let h = both c.requires.0.0 c.requires.1.0 c.least-n.ensures in (omega (arith, h.0, c.loop-i-test.true), omega (arith, h.1, c.loop-i-test.true))

pub pass-passed-requires : goal.pass-passed-requires
pass-passed-requires c = let h = both c.requires.0.0 c.requires.1.0 c.least-n.ensures in (omega (arith, h.0, c.requires.0.1), omega (arith, h.1, c.requires.1.1))

pub loop-i-init : goal.loop-i-init
loop-i-init c =
    let h = both c.requires.0.0 c.requires.1.0 c.least-n.ensures in
    let r = c.pass-passed.ensures in
    (r.0, from_all _ _ _ _ _ c.requires.0.1 c.requires.1.1 _ (omega (arith, h.0, r.0)) (omega (arith, h.1, r.0)) (alike_at _ _ _ _ r.1))

pub overflow_add-x : goal.overflow_add-x
overflow_add-x c = let h = turn c in omega (arith, h.0)

pub bounds-buf-s : goal.bounds-buf-s
bounds-buf-s c = let h = turn (goal.at.bounds-buf-s c).In-loop-i in omega (arith, h.0, c.requires.0.1)

pub overflow_add-y : goal.overflow_add-y
overflow_add-y c = let h = turn (goal.at.overflow_add-y c).In-loop-i in omega (arith, h.1)

pub bounds-buf-t : goal.bounds-buf-t
bounds-buf-t c = let h = turn (goal.at.bounds-buf-t c).In-loop-i in omega (arith, h.1, c.requires.1.1)

pub returns-then-x-y : goal.returns-then-x-y
returns-then-x-y c =
    let h = turn (goal.at.returns-then-x-y c).In-loop-i in
    sym (c.loop-i.invariant.1 ∙ from_differ _ _ _ _ _ c.requires.0.1 c.requires.1.1 _ h.0 h.1 c.if-x-y.true)

pub loop-i-preserved : goal.loop-i-preserved
loop-i-preserved c =
    let h = turn (goal.at.loop-i-preserved c).In-loop-i in
    (omega (arith, c.loop-i-test.true), c.loop-i.invariant.1 ∙ from_same _ _ _ _ _ c.requires.0.1 c.requires.1.1 _ h.0 h.1 c.if-x-y.false)

pub returns : goal.returns
returns c =
    from_end _ _ _ _ _ c.requires.0.1 c.requires.1.1 _ c.requires.0.0 c.requires.1.0 c.least-n.ensures (omega (arith, c.loop-i.invariant.0, c.loop-i-test.false)) ∙ sym c.loop-i.invariant.1
