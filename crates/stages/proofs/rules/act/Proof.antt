-- The action fires exactly if the target is in the set; then the kind decides.
use mathlib.Core.Path.{◌≡◌, sym, ◌∙◌}
use mathlib.Core.Bool.{Bool, true, false}
use Prim.Native.Nat.{ℕ}
use lib.Dec.{eqb}
use borrow.Author.Rules.{rules}
use borrow.Author.Tests.{eq-eqb, ne_eqb}
use Rattle.table.specs.Cell.{next_action}
use Rattle.meaning.specs.Step.{fires}
use Rattle.stages.specs.Changes.{rowless, acts}
use Rattle.stages.proofs.ChooseLaws.{fires_test}
use Rattle.updates.proofs.UpdateLaws.{kind_test}
use Rattle.stages.proofs.rules.act.Statement.{statement}
use Rattle.stages.proofs.rules.act.Tie as tie

-- whether the action fires, as the set and the target tell it
fired : (m : tie.After-has) → m.has.result
    ≡ fires (rowless m.before.before.before.before.args.ps m.before.before.before.before.args.used)
    m.before.before.before.before.args.a
fired m =
    let a = m.before.before.before.before.args in
    fires_test a.ps a.used a.a _ m.before.before.before.next_action-x.ensures _ m.before.before.qualifying-s.ensures
    (search rules) _ _ m.before.target-t.ensures m.has.ensures

kind : (m : tie.After-has) (k : ℕ) (b : Bool) → eqb m.before.before.before.next_action-x.result.kind k ≡ b
    → eqb (next_action m.before.before.before.before.args.a).kind k ≡ b
kind m k b = kind_test _ _ k b m.before.before.before.next_action-x.ensures

pub act_spec : {M : Type 1} → statement M
unfolding acts
act_spec =
    tie.close
    (tie.spec
    (λ c κs. search rules) (λ c κs. search rules) (λ c κs. search rules) (λ c κs. search rules)
    (λ c. let m = c.before.before.before in rw (sym (fired m) ∙ c.before.before.if-has.true, kind m 3 true (eq-eqb _ _ c.if-x-eq3.true)))
    (λ c.
    let m = c.before.before.before.before.before in
    rw (
      sym (fired m) ∙ c.before.before.before.before.if-has.true,
      kind m 3 false (ne_eqb _ _ c.before.before.if-x-eq3.false),
      kind m 1 true (eq-eqb _ _ c.if-x-eq1.true),
    ))
    (λ c κs. search rules)
    (λ c.
    let m = c.before.before.before.before.before.before in
    rw (
      sym (fired m) ∙ c.before.before.before.before.before.if-has.true,
      kind m 3 false (ne_eqb _ _ c.before.before.before.if-x-eq3.false),
      kind m 1 false (ne_eqb _ _ c.before.if-x-eq1.false),
      c.place_at-p.ensures,
    ))
    (λ c. let m = c.before.before.before in rw (sym (fired m) ∙ c.before.before.if-has.false, kind m 3 true (eq-eqb _ _ c.if-x-eq3-2.true)))
    (λ c. let m = c.before.before.before in rw (sym (fired m) ∙ c.before.before.if-has.false, kind m 3 false (ne_eqb _ _ c.if-x-eq3-2.false))))
