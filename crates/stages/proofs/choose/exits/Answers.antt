-- The test of linked, then the key.
use Rattle.std.proofs.Common.{sym, ◌∙◌}
use Rattle.stages.proofs.choose.exits.Goals as goal

pub returns-then-linked : goal.returns-then-linked
returns-then-linked c = rw (sym c.linked.ensures ∙ c.if-linked.true)

pub returns-else-linked : goal.returns-else-linked
returns-else-linked c = rw (sym c.linked.ensures ∙ c.if-linked.false) c.if-linked.false
