-- The window with its line end, and the caret's line after it.
use Rattle.std.proofs.Common.{ℕ, ◌-◌, [], ◌∷◌, ◌++◌, map, length, arith}
use Rattle.std.proofs.Math.Path.{ap}
use Rattle.table.specs.Base.{tab}
use Rattle.text.proofs.TextLaws.{least_le, next, placed_on, wrote_as}
use Rattle.language.specs.TypedReport.{shown, window, caret_line, pointed}
use Rattle.report.proofs.TypedLaws.{from_within}
use Rattle.report.proofs.typed.write_pointed.Goals as goal

pub slice_bounds-write_byte-count : goal.slice_bounds-write_byte-count
slice_bounds-write_byte-count c = (least_le _ _ _ c.offset-i.ensures).1

pub slice_bounds-write_byte-start : goal.slice_bounds-write_byte-start
slice_bounds-write_byte-start c = (least_le _ _ _ c.offset-i.ensures).1

pub overflow_sub-place : goal.overflow_sub-place
overflow_sub-place c = omega (arith, c.shown_from-from.ensures, from_within (length c.args.line.now) c.args.place)

pub slice_bounds-write_caret-count : goal.slice_bounds-write_caret-count
slice_bounds-write_caret-count c = (least_le _ _ _ c.offset-j.ensures).1

pub slice_bounds-write_caret-start : goal.slice_bounds-write_caret-start
slice_bounds-write_caret-start c = (least_le _ _ _ c.offset-j.ensures).1

pub write_caret-requires : goal.write_caret-requires
write_caret-requires c = placed_on c.requires (next c.requires c.write_window-mid.ensures c.offset-i.ensures c.write_byte-end.ensures) c.offset-j.ensures

pub returns : goal.returns
unfolding pointed tab
returns c =
    let a = c.args in
    let shown_text = next c.requires c.write_window-mid.ensures c.offset-i.ensures c.write_byte-end.ensures in
    wrote_as (ap (λ (k : ℕ). (map shown (window a.line.now a.place) ++ (10 ∷ [])) ++ caret_line (a.place - k)) c.shown_from-from.ensures)
    (next c.requires shown_text c.offset-j.ensures c.write_caret.ensures)
