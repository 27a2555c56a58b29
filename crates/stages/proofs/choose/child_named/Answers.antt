-- The test of linked_to, then what key_of answers.
use Rattle.std.proofs.Common.{sym, ◌∙◌}
use Rattle.stages.proofs.choose.child_named.Goals as goal

pub returns-then-linked_to : goal.returns-then-linked_to
returns-then-linked_to c = rw (c.key_of.ensures, sym c.linked_to.ensures ∙ c.if-linked_to.true)

pub returns-else-linked_to : goal.returns-else-linked_to
returns-else-linked_to c = rw (sym c.linked_to.ensures ∙ c.if-linked_to.false) c.if-linked_to.false
