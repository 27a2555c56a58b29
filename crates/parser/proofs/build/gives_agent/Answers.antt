-- No other event gives an agent.
use Rattle.parser.proofs.CodeLaws.{no_agent_given}
use Rattle.parser.proofs.build.gives_agent.Goals as goal

pub returns-in_default : goal.returns-in_default
returns-in_default c = no_agent_given _ _ c.in_default.not-NewAgent
