-- The name, and the bracket after it.
use Rattle.std.proofs.Common.{refl, arith, [], ◌∷◌, length-append}
use Rattle.table.specs.Base.{tab}
use Rattle.meaning.specs.Listing.{name_text}
use Rattle.text.proofs.RoomLaws.{fits_first, fits_exactly, store_in, stored}
use Rattle.lister.specs.Sheet.{head_text}
use Rattle.lister.proofs.names.write_head.Goals as goal

pub write_name-mid-requires : goal.write_name-mid-requires
unfolding head_text tab
write_name-mid-requires c = fits_first (name_text c.args.x) (91 ∷ []) c.requires

pub overflow_sub-i : goal.overflow_sub-i
unfolding head_text tab
overflow_sub-i c = omega (arith, fits_exactly (fits_first (name_text c.args.x) (91 ∷ []) c.requires) c.write_name-mid.ensures)

pub bounds-buf-i : goal.bounds-buf-i
unfolding head_text tab
bounds-buf-i c = store_in 91 c.write_name-mid.ensures c.requires refl

pub overflow_add-result : goal.overflow_add-result
unfolding head_text tab
overflow_add-result c = omega (
  arith,
  fits_exactly (fits_first (name_text c.args.x) (91 ∷ []) c.requires) c.write_name-mid.ensures,
  length-append (name_text c.args.x) (91 ∷ []),
  c.requires.room,
  c.requires.placed,
)

pub returns : goal.returns
unfolding head_text tab
returns c = stored 91 c.write_name-mid.ensures c.requires refl
