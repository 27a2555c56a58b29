-- A turn looks at one action more; after sixteen turns all are looked at.
use Rattle.std.proofs.Common.{◌∙◌, ap, Bool, ◌&&◌, eqb, get_or, arith}
use Rattle.table.proofs.BaseLaws.{all_none, all_more, all_done}
use Rattle.table.specs.Cell.{no_action}
use Rattle.table.specs.Sound.{action_fits}
use Rattle.soundness.specs.Pass.{sixteen_fit}
use Rattle.soundness.proofs.agents.all_sixteen.Goals as goal

pub loop-x-init : goal.loop-x-init
loop-x-init c = all_none _

pub loop-x-preserved : goal.loop-x-preserved
loop-x-preserved c =
    c.joined-bad.ensures ∙ ap (λ (b : Bool). b && eqb c.loop-x.bad 0) c.fault.ensures
    ∙ all_more (λ i. action_fits (get_or c.args.row i no_action)) (eqb c.loop-x.bad 0) c.loop-x.x-index c.loop-x.invariant

pub returns : goal.returns
unfolding sixteen_fit
returns c = all_done (λ i. action_fits (get_or c.args.row i no_action)) _ c.loop-x.x-index 16 (omega arith) c.loop-x.invariant
