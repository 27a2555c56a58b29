-- A step that goes on stores what was decided, one after the other; one that does not changes nothing and answers 18.
use Rattle.std.proofs.Common.{ap, ◌∙◌, refl}
use Rattle.table.specs.declared.Cell.{Cell}
use Rattle.meaning.specs.declared.Stepped.{Stepped}
use Rattle.meaning.specs.StepCall.{turned_away}
use Rattle.meaning.specs.Codes.{step_number}
use Rattle.step.specs.Decided as decisions
use Rattle.step.specs.Decided.{locked_at}
use Rattle.asking.specs.Asked.{settled_if}
use Rattle.asking.proofs.AskedLaws.{only_goes, only_differs}
use Rattle.keeper.proofs.steps.settled.Goals as goal

pub returns-then-goes_on : goal.returns-then-goes_on
unfolding settled_if
returns-then-goes_on c =
    let h = c.args.cell.now in
    let d = c.args.d in
    let r : Stepped = record { cell = decisions.settled h c.args.agent d; answer = d.answer } in
    let e = only_goes h d c.args.any c.args.answer r r refl c.goes_on.result c.goes_on.ensures c.if-goes_on.true in (
      c.lock_stored-then-goes_on.ensures
          ∙ ap (λ (k : Cell). locked_at k d.second d.lock) (c.lock_stored.ensures ∙ ap (λ (k : Cell). locked_at k d.first d.lock) c.stage_stored.ensures)
          ∙ ap (λ (s : Stepped). s.cell) e,
      c.step_number.ensures ∙ ap (λ (s : Stepped). step_number s.answer) e,
    )

pub returns : goal.returns
unfolding settled_if turned_away
returns c =
    let h = c.args.cell.now in
    let d = c.args.d in
    let r : Stepped = record { cell = decisions.settled h c.args.agent d; answer = d.answer } in
    let e = only_differs h d c.args.any c.args.answer r r refl c.goes_on.result c.goes_on.ensures c.if-goes_on.false in
    (ap (λ (s : Stepped). s.cell) e, c.from.ensures ∙ ap (λ (s : Stepped). step_number s.answer) e)
