-- What is told of what was decided is the ask.
use mathlib.Core.Path.{ap, ap₂, ◌∙◌}
use borrow.Author.Rules.{rules}
use Rattle.table.proofs.Facts.{sized}
use Rattle.soundness.specs.declared.sound.Seen.{Seen}
use Rattle.step.specs.Decided.{decided}
use Rattle.asking.specs.Asked.{asked_of}
use Rattle.asking.proofs.AskedLaws.{told_of, decided_ask}
use Rattle.asking.proofs.ask.Statement.{statement}
use Rattle.asking.proofs.ask.Tie as tie

returns : tie.Need-returns
returns c =
    let woke = c.before in
    let d = woke.before in
    let sees = d.before.before in
    let v = sees.before in
    let s = v.args in
    told_of s.c _ _ _ _ c.asked.ensures woke.waking-n.ensures
    ∙ ap₂ (asked_of s.c) (ap (λ (w : Seen). w.agent) sees.see-s.ensures) (d.decide-d.ensures ∙ ap (λ (w : Seen). decided w s.c s.agent s.wish) sees.see-s.ensures)
    ∙ decided_ask s.c (sized s.c v.well_formed.0) s.agent s.wish

pub ask_spec : {M : Type 1} → statement M
ask_spec = tie.close (tie.spec (λ c κs. search rules) (λ c κs. search rules) (λ c κs. search rules) (λ c κs. search rules) returns)
