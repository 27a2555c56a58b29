-- What was decided is carried out if the number is that of what is told, and that is the commit.
use mathlib.Core.Path.{◌≡◌, ap, ap₂, ◌∙◌}
use mathlib.Core.Bool.{Bool}
use borrow.Author.Rules.{rules}
use Rattle.table.proofs.Facts.{sized}
use Rattle.meaning.specs.Answers.{Asked}
use Rattle.meaning.specs.Ask.{hands_back}
use Rattle.soundness.specs.Seen.{seen_of}
use Rattle.soundness.specs.declared.sound.Seen.{Seen}
use Rattle.step.specs.Decided.{decided}
use Rattle.step.specs.declared.Decision.{Decision}
use Rattle.asking.specs.Asked.{asked_of, made_if}
use Rattle.asking.proofs.AskedLaws.{told_of, made_handed}
use Rattle.asking.proofs.number.handed.Statement.{statement}
use Rattle.asking.proofs.number.handed.Tie as tie

returns : tie.Need-returns
returns c =
    let woke = c.before.before.before in
    let d = woke.before in
    let sees = d.before.before in
    let v = sees.before in
    let s = v.args in
    let is : d.decide-d.result ≡ decided (seen_of s.c s.agent) s.c s.agent s.wish =
    d.decide-d.ensures ∙ ap (λ (w : Seen). decided w s.c s.agent s.wish) sees.see-s.ensures in
    c.made_if.ensures
    ∙ ap₂ (λ (y : Bool) (e : Decision). made_if y s.c s.agent e)
    (c.before.hands_back-same.ensures ∙ ap (λ (b : Asked). hands_back b s.answer) (told_of s.c _ _ _ _ c.before.before.asked-t.ensures woke.waking-n.ensures ∙ ap₂ (asked_of s.c) (ap (λ (w : Seen). w.agent) sees.see-s.ensures) is)) is
    ∙ made_handed s.c (sized s.c v.well_formed.0) s.agent s.wish s.answer

pub handed_spec : {M : Type 1} → statement M
handed_spec = tie.close (tie.spec (λ c κs. search rules) (λ c κs. search rules) (λ c κs. search rules) (λ c κs. search rules) (λ c κs. search rules) (λ c κs. search rules) returns)
