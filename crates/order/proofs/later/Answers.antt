-- The others, and behind them those that pass.
use Rattle.std.proofs.Common.{rules, ◌∙◌}
use Rattle.sets.specs.Set.{member}
use Rattle.order.proofs.RowLawsLoops.{parts_later}
use Rattle.order.proofs.later.Goals as goal

pub returns : goal.returns
returns c = c.then.ensures ∙ parts_later {order = c.args.order} (search rules) (c.part-by.ensures.parts (member c.args.s) (λ q b l h. search rules))
