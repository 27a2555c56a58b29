-- What was decided, told the truth of the cell, stored and made a number, is the touch call.
use Rattle.std.proofs.Common.{ap, ◌∙◌, refl, ℕ, set}
use Rattle.table.specs.Cell.{put_touches, cell_of}
use Rattle.table.specs.Sound.{sound}
use Rattle.meaning.specs.declared.Touched.{Touched}
use Rattle.meaning.specs.Codes.{touch_number}
use Rattle.touch.specs.declared.TouchDecision.{TouchDecision}
use Rattle.touch.specs.Known.{tallied}
use Rattle.touch.proofs.KnownLaws.{touch_told}
use Rattle.keeper.proofs.exports.keeper_touch.Goals as goal

pub returns : goal.returns
returns c =
    let h = c.args.cell.now in
    let q = c.args.place in
    let e = ap (λ (d : TouchDecision). tallied h q d) c.touch_decided-d.ensures.decision
    ∙ touch_told h c.touch_decided-d.ensures.sizes q c.args.number (sound (cell_of h)) refl in (
      ap (λ (k : ℕ). put_touches h (set h.touches k c.touch_decided-d.result.count)) c.at.ensures ∙ ap (λ (t : Touched). t.cell) e,
      c.touch_number.ensures ∙ ap (λ (t : Touched). touch_number t.answer) e,
    )
