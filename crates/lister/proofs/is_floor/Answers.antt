-- The page has room for the text, so its first bytes are the text, and they are compared.
use Rattle.std.proofs.Common.{ap, ◌∙◌}
use Rattle.text.specs.Same.{same_text}
use Rattle.lister.specs.Sheet.{sheet_of, floor_on}
use Rattle.lister.proofs.WriteLaws.{page_fits, page_holds, page_within, page_cut, same_pairs}
use Rattle.lister.proofs.is_floor.Goals as goal

pub slice_bounds-page-end : goal.slice_bounds-page-end
slice_bounds-page-end c = page_within (page_fits (floor_on (sheet_of c.args.sheet.now)) c.requires) c.write_floor-n.ensures

pub slice_bounds-eq-end : goal.slice_bounds-eq-end
slice_bounds-eq-end c = page_cut (page_fits (floor_on (sheet_of c.args.sheet.now)) c.requires) c.write_floor-n.ensures

pub returns : goal.returns
returns c = c.eq.ensures ∙ same_pairs _ _ ∙ ap (same_text c.args.text.now) (page_holds (page_fits (floor_on (sheet_of c.args.sheet.now)) c.requires) c.write_floor-n.ensures)
