-- The line is the agent, and the word with the number after it, by what was answered.
use Rattle.std.proofs.Common.{◌≡◌, [], ◌∷◌, ◌++◌, arith}
use Rattle.table.specs.Base.{tab}
use Rattle.meaning.specs.Text.{ascii, decimal}
use Rattle.meaning.specs.Report.{word_text, step_line}
use Rattle.text.proofs.TextLaws.{least_le, next, placed_on, wrote_as, moved}
use Rattle.lines.proofs.LineLaws.{did_grouped, turned_grouped}
use Rattle.lines.proofs.write_step.Goals as goal
use Rattle.lines.proofs.write_step.Goals.{in-Ok, in-Err}

pub slice_bounds-write_told-count : goal.slice_bounds-write_told-count
slice_bounds-write_told-count c = (least_le _ _ _ c.offset-i.ensures).1

pub slice_bounds-write_told-start : goal.slice_bounds-write_told-start
slice_bounds-write_told-start c = (least_le _ _ _ c.offset-i.ensures).1

pub write_told-told-requires : goal.write_told-told-requires
write_told-told-requires c = placed_on (omega (arith, c.well_formed)) c.write_ended-named.ensures c.offset-i.ensures

pub returns : goal.returns
unfolding step_line tab
returns c =
    let agent = decimal c.args.agent in
    let line : (agent ++ (32 ∷ [])) ++ (c.match-answer.number.0.now ++ (decimal c.match-answer.number.1 ++ (10 ∷ []))) ≡ step_line c.args.agent c.args.answer =
    elim c.match-answer.branch [
      | in-Ok w ↦ rw (w.number-is, w.in-Ok.is, w.word_text.ensures) (did_grouped agent (32 ∷ []) (word_text w.in-Ok.o.word) (32 ∷ []) (decimal w.in-Ok.o.woken) (10 ∷ []))
      | in-Err w ↦ rw (w.number-is, w.in-Err.is) (turned_grouped agent (32 ∷ []) (ascii "refused ") (decimal w.in-Err.number) (10 ∷ []))
    ] in
    moved (wrote_as line (next (omega (arith, c.well_formed)) c.write_ended-named.ensures c.offset-i.ensures c.write_told-told.ensures)) c.plus.ensures
