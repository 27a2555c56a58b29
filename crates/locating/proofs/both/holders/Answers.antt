-- Each turn puts one place in and goes one outwards; what holds before it is `Chained`.
use Rattle.std.proofs.Common.{◌≡◌, refl, ℕ, ◌+◌, ◌-◌, sym, ◌∙◌, subst, arith}
use Rattle.sets.specs.Set.{inserted}
use Rattle.sets.specs.declared.Set.{Set}
use Rattle.table.specs.declared.Place.{Place}
use Rattle.locating.specs.Outwards.{up_in}
use Rattle.locating.proofs.OutwardsLaws.{Chained, chain_start, chain_more, chain_floor, chain_end}
use Rattle.locating.proofs.both.holders.Goals as goal

pub loop-turn-init : goal.loop-turn-init
loop-turn-init c = chain_start _ _ _ refl

pub returns-then-at-eq0 : goal.returns-then-at-eq0
returns-then-at-eq0 c =
    c.insert-s.ensures
    ∙ chain_floor (up_in c.args.ps) c.args.r c.loop-turn.s c.loop-turn.at (65 - c.loop-turn._turn) (omega arith) c.if-at-eq0.true c.loop-turn.invariant

pub loop-turn-preserved : goal.loop-turn-preserved
loop-turn-preserved c =
    let e : 65 - c.loop-turn._turn - 1 ≡ 65 - (c.loop-turn._turn + 1) = omega arith in
    subst (λ (x : Place). Chained (up_in c.args.ps) c.args.r c.insert-s.result x.parent (65 - (c.loop-turn._turn + 1))) (sym c.place_at-at.ensures)
    (subst (λ (s : Set). Chained (up_in c.args.ps) c.args.r s (up_in c.args.ps c.loop-turn.at) (65 - (c.loop-turn._turn + 1))) (sym c.insert-s.ensures)
    (subst (λ (k : ℕ). Chained (up_in c.args.ps) c.args.r (inserted c.loop-turn.s c.loop-turn.at) (up_in c.args.ps c.loop-turn.at) k) e
    (chain_more (up_in c.args.ps) c.args.r c.loop-turn.s c.loop-turn.at (65 - c.loop-turn._turn) (omega arith) c.if-at-eq0.false c.loop-turn.invariant)))

pub returns : goal.returns
returns c = chain_end (up_in c.args.ps) c.args.r c.loop-turn.s c.loop-turn.at (65 - c.loop-turn._turn) (omega arith) c.loop-turn.invariant
