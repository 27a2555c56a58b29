-- The others of the row that is counted, and behind them those that came.
use Rattle.std.proofs.Common.{rules, ℕ, List, ◌++◌, ◌∙◌, ap, take, not}
use Rattle.sets.specs.Set.{member}
use Rattle.order.specs.Row.{keep}
use Rattle.order.proofs.RowLawsLoops.{parts_filled}
use Rattle.order.proofs.loaded_row.Goals as goal

pub returns : goal.returns
returns c =
    c.then.ensures ∙ parts_filled c.args.came (c.part.ensures.parts (member c.args.s) (λ q b l h. search rules))
    ∙ ap (λ (r : List ℕ). take 64 (keep (λ q. not (member c.args.s q)) r ++ c.args.came)) c.counting_row.ensures
