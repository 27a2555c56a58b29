-- Each turn looks at one place and goes one outwards.
use Rattle.std.proofs.Common.{◌≡◌, refl, ℕ, ◌+◌, ◌-◌, sym, ap, ◌∙◌, arith}
use Rattle.table.specs.declared.Place.{Place}
use Rattle.meaning.specs.Where.{outwards}
use Rattle.locating.specs.Outwards.{up_in}
use Rattle.locating.proofs.OutwardsLaws.{out_none, out_hit, out_floor, out_more}
use Rattle.locating.proofs.first_outwards.Goals as goal

pub loop-turn-init : goal.loop-turn-init
loop-turn-init g c = (c.requires, λ f d. refl)

pub returns-then-passes : goal.returns-then-passes
returns-then-passes g c = λ f d.
    sym (out_hit (up_in c.args.ps) f (65 - c.loop-turn._turn) c.loop-turn.at (omega arith) (sym (d _ _ c.passes.result c.place_at-x.ensures c.passes.ensures) ∙ c.if-passes.true))
    ∙ c.loop-turn.invariant.1 f d

pub returns-then-at-eq0 : goal.returns-then-at-eq0
returns-then-at-eq0 g c = λ f d.
    sym (out_floor (up_in c.args.ps) f (65 - c.loop-turn._turn) c.loop-turn.at (omega arith) (sym (d _ _ c.passes.result c.place_at-x.ensures c.passes.ensures) ∙ c.if-passes.false)
    c.if-at-eq0.true)
    ∙ c.loop-turn.invariant.1 f d

pub loop-turn-preserved : goal.loop-turn-preserved
loop-turn-preserved g c = (
  c.requires,
  λ f d.
      let e : 65 - (c.loop-turn._turn + 1) ≡ 65 - c.loop-turn._turn - 1 = omega arith in
      ap (λ (y : Place). outwards (65 - (c.loop-turn._turn + 1)) (up_in c.args.ps) f y.parent) c.place_at-x.ensures
      ∙ ap (λ (k : ℕ). outwards k (up_in c.args.ps) f (up_in c.args.ps c.loop-turn.at)) e
      ∙ sym (out_more (up_in c.args.ps) f (65 - c.loop-turn._turn) c.loop-turn.at (omega arith) (sym (d _ _ c.passes.result c.place_at-x.ensures c.passes.ensures) ∙ c.if-passes.false)
      c.if-at-eq0.false)
      ∙ c.loop-turn.invariant.1 f d,
)

pub returns : goal.returns
returns g c = λ f d. sym (out_none (up_in c.args.ps) f (65 - c.loop-turn._turn) c.loop-turn.at (omega arith)) ∙ c.loop-turn.invariant.1 f d
