-- Eight bytes more are alike.
use Rattle.std.proofs.Common.{sym, ◌∙◌}
use Rattle.lister.proofs.CutLaws.{alike_none, alike_more}
use Rattle.lister.proofs.parts.pass.Goals as goal

pub loop-k-init : goal.loop-k-init
loop-k-init c = alike_none _ _ _

pub loop-k-preserved : goal.loop-k-preserved
loop-k-preserved c = alike_more _ _ _ _ c.loop-k.invariant (sym c.same_eight.ensures ∙ c.if-not-same_eight.false)
