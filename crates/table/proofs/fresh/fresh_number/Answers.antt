-- The zeros counted are as many as the smallest unused number.
use Rattle.std.proofs.Common.{rules}
use Rattle.table.proofs.FreshLaws.{fresh_word}
use Rattle.table.proofs.fresh.fresh_number.Goals as goal

pub returns : goal.returns
returns c = fresh_word c.args.used.bits (search rules)
