-- What is told of what was decided is the ask, made a number.
use Rattle.std.proofs.Common.{ap, ◌∙◌}
use Rattle.meaning.specs.Codes.{ask_number}
use Rattle.step.specs.declared.Decision.{Decision}
use Rattle.step.specs.Decided.{agent_at}
use Rattle.asking.specs.Asked.{asked_of}
use Rattle.asking.proofs.AskedLaws.{decided_ask}
use Rattle.keeper.proofs.exports.keeper_ask.Goals as goal

pub returns : goal.returns
returns c =
    let h = c.args.cell.now in
    let x = c.args.agent in
    c.ask_number.ensures
    ∙ ap ask_number (c.told.ensures ∙ ap (λ (d : Decision). asked_of h (agent_at h x) d) c.decided-d.ensures.decision
    ∙ decided_ask h c.decided-d.ensures.sizes x c.args.wish)
