-- How many agents wake is asked where a place moves, and is 0 where none does.
use Rattle.std.proofs.Common.{sym, ap, ◌∙◌, ℕ, get_or}
use Rattle.table.specs.Cell.{cell_of, no_agent}
use Rattle.moves.specs.Motions.{woken_in}
use Rattle.step.specs.Decided.{agent_at}
use Rattle.asking.specs.Asked.{woken_where}
use Rattle.asking.proofs.AskedLaws.{told_of}
use Rattle.keeper.proofs.steps.told.Goals as goal

pub returns-in-Some : goal.returns-in-Some
returns-in-Some c =
    let h = c.args.cell.now in
    let d = c.args.d in
    let a = agent_at h c.args.agent in
    told_of h a d c.woken_lent-n.result c.asked.result c.asked.ensures
    (c.woken_lent-n.ensures ∙ ap (λ (k : ℕ). woken_in (cell_of h) (get_or h.agents k no_agent) c.in-Some.motion) c.at-k.ensures
    ∙ sym (ap (woken_where (cell_of h) a) c.in-Some.is))

pub returns : goal.returns
returns c =
    let h = c.args.cell.now in
    let d = c.args.d in
    let a = agent_at h c.args.agent in
    told_of h a d 0 c.asked-2.result c.asked-2.ensures (sym (ap (woken_where (cell_of h) a) c.in_default.is))
