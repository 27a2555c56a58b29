-- The kind, and the number after it.
use Rattle.std.proofs.Common.{refl, arith}
use Rattle.meaning.specs.Text.{decimal}
use Rattle.meaning.specs.Listing.{kind_text, action_text}
use Rattle.text.proofs.RoomLaws.{fits_first, fits_exactly, first_in, fits_next, then_next}
use Rattle.lister.proofs.agents.write_action.Goals as goal

pub write_kind-mid-requires : goal.write_kind-mid-requires
unfolding action_text
write_kind-mid-requires c = fits_first (kind_text c.args.x.kind) (decimal c.args.x.name) c.requires

pub overflow_sub-mid : goal.overflow_sub-mid
unfolding action_text
overflow_sub-mid c = omega (arith, fits_exactly (fits_first (kind_text c.args.x.kind) (decimal c.args.x.name) c.requires) c.write_kind-mid.ensures)

pub slice_bounds-write_number-count : goal.slice_bounds-write_number-count
unfolding action_text
slice_bounds-write_number-count c = first_in (decimal c.args.x.name) c.write_kind-mid.ensures c.requires refl

pub slice_bounds-write_number-start : goal.slice_bounds-write_number-start
unfolding action_text
slice_bounds-write_number-start c = first_in (decimal c.args.x.name) c.write_kind-mid.ensures c.requires refl

pub write_number-requires : goal.write_number-requires
unfolding action_text
write_number-requires c = fits_next (decimal c.args.x.name) c.write_kind-mid.ensures c.requires refl

pub returns : goal.returns
unfolding action_text
returns c = then_next _ c.write_kind-mid.ensures c.requires refl c.write_number.ensures
