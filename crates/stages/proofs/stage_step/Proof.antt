-- Stages 2 and 3 by the tests, and the others on the agent's own place.
use mathlib.Core.Path.{◌≡◌, sym, ap, ap₂, ◌∙◌}
use mathlib.Core.Bool.{Bool, false, ◌||◌}
use Prim.Native.Nat.{ℕ}
use borrow.Author.Rules.{rules}
use borrow.Author.Tests.{ne_eqb}
use Rattle.table.specs.Cell.{Land}
use Rattle.table.specs.declared.Agent.{Agent}
use Rattle.stages.specs.Changes.{change_at}
use Rattle.stages.proofs.RowlessLaws.{acts_rowless, own_seen}
use Rattle.stages.proofs.stage_step.Statement.{statement}
use Rattle.stages.proofs.stage_step.Tie as tie

-- the change of the stage that a test tells
at_stage : (l : Land) (a : Agent) (wish : ℕ) {n k : ℕ} → n ≡ k → change_at k l a wish ≡ change_at n l a wish
at_stage l a wish e = ap (λ (n : ℕ). change_at n l a wish) (sym e)

-- none of two tests held
neither : {b d : Bool} → b ≡ false → d ≡ false → (b || d) ≡ false
neither e f = ap₂ ◌||◌ e f

returns_3 : tie.Need-returns
returns_3 c =
    let at = c.before.before in
    let t = at.before in
    let s = t.before.before.before.before in
    let a = s.args in
    c.own_step.ensures
    ∙ own_seen a.ps a.used a.row a.a a.wish s.well_formed.1.0.1.0.1 at.at-k.result at.at-k.ensures (neither (ne_eqb _ _ t.before.before.if-a-eq2.false) (ne_eqb _ _ t.if-a-eq3.false))

pub stage_step_spec : {M : Type 1} → statement M
unfolding change_at
stage_step_spec =
    tie.close
    (tie.spec
    (λ c κs. search rules)
    (λ c. c.hold.ensures ∙ at_stage _ _ _ c.before.if-a-eq2.true)
    (λ c κs. search rules)
    (λ c. let a = c.before.before.before.before.before.args in c.act.ensures ∙ acts_rowless a.ps a.used a.row a.a ∙ at_stage _ _ _ c.before.if-a-eq3.true)
    (λ c κs. search rules) (λ c. search rules) (λ c. search rules) (λ c κs. search rules) returns_3)
