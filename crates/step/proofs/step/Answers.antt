-- What is decided of what was seen is carried out, and that is the step call.
use Rattle.std.proofs.Common.{rules, ap, ◌∙◌}
use Rattle.soundness.specs.declared.sound.Seen.{Seen}
use Rattle.step.specs.Decided.{decided, carried_out}
use Rattle.step.proofs.CarryLaws.{decided_step}
use Rattle.step.proofs.step.Goals as goal

pub returns : goal.returns
returns c =
    let a = c.args in
    c.carry_out.ensures
    ∙ ap (carried_out a.c a.agent) (c.decide-d.ensures ∙ ap (λ (s : Seen). decided s a.c a.agent a.wish) c.see-seen.ensures)
    ∙ decided_step a.c (record { places = search rules; locks = search rules; agents = search rules; used = search rules; given = search rules; touches = search rules }) a.agent a.wish
