-- The own place, read where the agent lives, is all that the stages before and after the choice look at.
use Rattle.std.proofs.Common.{sym, ◌∙◌, rules}
use Rattle.stages.proofs.RowlessLaws.{own_seen}
use Rattle.keeper.proofs.steps.changed.Goals as goal

pub returns : goal.returns
returns c =
    let h = c.args.cell.now in
    c.own_step.ensures
    ∙ own_seen h.places h.used h.order c.args.a c.args.wish (search rules) c.at-k.result c.at-k.ensures (sym c.looks_around.ensures ∙ c.if-looks_around.false)
