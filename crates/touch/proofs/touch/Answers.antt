-- What is decided, told what `is_sound` answered, is the touch call.
use Rattle.std.proofs.Common.{◌∙◌, ℕ, set}
use Rattle.std.proofs.Math.Path.{ap}
use Rattle.table.specs.Cell.{put_touches}
use Rattle.table.proofs.Facts.{sized}
use Rattle.touch.specs.Known.{tallied}
use Rattle.touch.proofs.KnownLaws.{touch_told}
use Rattle.touch.proofs.touch.Goals as goal

pub returns : goal.returns
returns c =
    let a = c.args in
    ap (λ (i : ℕ). record { cell = put_touches a.c (set a.c.touches i c.decide_touch-d.result.count); answer = c.decide_touch-d.result.answer }) c.at.ensures
    ∙ ap (tallied a.c a.place) c.decide_touch-d.ensures
    ∙ touch_told a.c (sized a.c c.well_formed.0) a.place a.number _ c.is_sound.ensures
