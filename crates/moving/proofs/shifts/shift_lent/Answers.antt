-- What is planned, walked over and stored is the motion by its parts, which is the motion.
use Rattle.std.proofs.Common.{ℕ, ◌%◌, rules, get_or, ◌∙◌, ap}
use Rattle.table.specs.Bounds.{Sized}
use Rattle.table.specs.Cell.{no_place}
use Rattle.meaning.specs.declared.Stepped.{Stepped}
use Rattle.moving.specs.Plan.{waking_of}
use Rattle.moving.proofs.ShiftLaws.{ends}
use Rattle.moving.proofs.shifts.shift_lent.Goals as goal

pub returns : goal.returns
returns c =
    let a = c.args in
    let t = a.cell.now in
    let sized : Sized t = record { places = search rules; locks = search rules; agents = search rules; used = search rules; given = search rules; touches = search rules } in
    let e = ends t sized a.x a.a a.motion c.at-k.result c.at-i.result c.who_wakes-waking.result c.planned-plan.result c.walk-w.new.cell c.settled.new.cell c.walk-w.result c.kept.result
    (c.at-k.ensures ∙ ap (λ (n : ℕ). n % 64) c.number.ensures)
    (c.who_wakes-waking.ensures ∙ ap (λ (k : ℕ). waking_of a.a a.motion (get_or t.places k no_place) t.used) (c.at.ensures ∙ ap (λ (n : ℕ). n % 64) c.goal.ensures))
    c.planned-plan.ensures c.walk-w.ensures.0 c.walk-w.ensures.1 c.at-i.ensures c.kept.ensures c.settled.ensures in
    (ap (λ (s : Stepped). s.cell) e, c.answered.ensures ∙ ap (λ (s : Stepped). s.answer) e)
