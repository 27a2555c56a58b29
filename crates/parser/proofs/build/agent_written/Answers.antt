-- Every event but a new agent writes the latest.
use Rattle.parser.proofs.CodeLaws.{written_latest}
use Rattle.parser.specs.Site.{agent_written}
use Rattle.parser.proofs.build.agent_written.Goals as goal

pub returns-in-NewAgent : goal.returns-in-NewAgent
unfolding agent_written
returns-in-NewAgent c = rw c.in-NewAgent.is

pub returns-in_default : goal.returns-in_default
returns-in_default c = written_latest _ _ _ c.in_default.not-NewAgent c.saturating_sub.ensures
