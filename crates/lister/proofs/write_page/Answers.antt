-- The page has room for the text, so its first bytes are the text; they are written, or refused where they had to be whole.
use Rattle.std.proofs.Common.{ℕ, ◌+◌, arith, ap, ◌∙◌}
use Rattle.text.specs.Wrote.{capped}
use Rattle.text.proofs.TextLaws.{wrote_as}
use Rattle.lister.specs.Sheet.{sheet_of, floor_on}
use Rattle.lister.proofs.WriteLaws.{page_fits, page_long, page_holds, page_within, page_cut, wholly, partly, not_at_all}
use Rattle.lister.proofs.write_page.Goals as goal
use Rattle.lister.proofs.write_page.Goals.{else-whole-via-then-whole+else-buf-n, else-whole-via-else-whole}

pub returns-then-buf-n : goal.returns-then-buf-n
returns-then-buf-n c =
    let f = page_fits (floor_on (sheet_of c.args.sheet.now)) c.requires in
    let n = page_long f c.write_floor-n.ensures in
    rw c.if-whole.true (not_at_all (omega (arith, c.if-buf-n.true)) (c.plus.ensures ∙ ap (λ (k : ℕ). capped (c.args.at + k)) n))

pub slice_bounds-page-end : goal.slice_bounds-page-end
slice_bounds-page-end c = page_within (page_fits (floor_on (sheet_of c.args.sheet.now)) c.requires) c.write_floor-n.ensures

pub slice_bounds-write_bytes-end : goal.slice_bounds-write_bytes-end
slice_bounds-write_bytes-end c = page_cut (page_fits (floor_on (sheet_of c.args.sheet.now)) c.requires) c.write_floor-n.ensures

pub returns : goal.returns
returns c =
    let f = page_fits (floor_on (sheet_of c.args.sheet.now)) c.requires in
    let w = wrote_as (page_holds f c.write_floor-n.ensures) c.write_bytes.ensures in
    elim c.else-whole.branch [
      | else-whole-via-then-whole+else-buf-n b ↦ wholly c.args.whole (omega (arith, page_long f c.write_floor-n.ensures, b.if-buf-n.false)) w
      | else-whole-via-else-whole b ↦ rw b.if-whole.false (partly w)
    ]
