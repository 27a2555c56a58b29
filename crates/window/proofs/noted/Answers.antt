-- The low byte of the number tells a step that was made from one that was refused.
use Rattle.std.proofs.Common.{◌∙◌}
use Rattle.window.proofs.NotedLaws.{noted_did, noted_refused}
use Rattle.window.proofs.noted.Goals as goal

pub returns-then-low-eq0 : goal.returns-then-low-eq0
returns-then-low-eq0 c = c.did.ensures ∙ noted_did c.args.w _ c.args.number c.args.rest c.to_le_bytes.ensures c.if-low-eq0.true

pub returns-else-low-eq0 : goal.returns-else-low-eq0
returns-else-low-eq0 c = c.refused.ensures ∙ noted_refused c.args.w _ c.args.number c.args.rest c.to_le_bytes.ensures c.if-low-eq0.false
