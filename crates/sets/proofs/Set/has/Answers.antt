-- From 64 on a word has no members.
use Rattle.std.proofs.Common.{rules, ◌∙◌, sym, le-ltb}
use Rattle.sets.proofs.WordLaws.{has_past}
use Rattle.sets.proofs.Set.has.Goals as goal

pub returns-else-i-lt64 : goal.returns-else-i-lt64
returns-else-i-lt64 c =
    le-ltb c.args.i 64 c.if-i-lt64.false ∙ sym (has_past 64 c.args.self.bits c.args.i (search rules) c.if-i-lt64.false)
