-- Every other event leaves it.
use Rattle.parser.proofs.CodeLaws.{agent_kept}
use Rattle.parser.proofs.build.agent_after.Goals as goal

pub returns-in_default : goal.returns-in_default
returns-in_default c = agent_kept _ _ _ c.in_default.not-NewAgent c.in_default.not-NewAction c.in_default.not-LastAction
