-- The others, and behind them q wherever there is room.
use Rattle.std.proofs.Common.{rules, ◌∙◌, eqb}
use Rattle.order.proofs.RowLawsLoops.{parts_latest}
use Rattle.order.proofs.latest.Goals as goal

pub returns : goal.returns
returns c = c.then.ensures ∙ parts_latest c.args.q {order = c.args.order} (search rules) (c.part.ensures.parts (λ r. eqb r c.args.q) (λ r b l h. search rules))
