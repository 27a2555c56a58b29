-- The copy holds the texts, so its parts in the order of the row are the texts in byte order.
use Rattle.std.proofs.Common.{List, ℕ, ◌-◌, ◌≤◌, length, get_or, sym, ◌∙◌, arith}
use Rattle.std.proofs.Math.ListN.{length-replicate}
use Rattle.std.proofs.Math.Seq.{length-take-le}
use Rattle.lister.specs.Cuts.{Copyable}
use Rattle.lister.proofs.HeldLaws.{marked_held, marked_last, copied, copy_rewritable, copy_arranged}
use Rattle.lister.proofs.parts.arrange_aside.Goals as goal

-- the parts end within the buffer
within : {size n : ℕ} {marks row buf : List ℕ} → Copyable size marks n row buf → get_or marks (n - 1) 0 ≤ length buf
within p = let m = p.marked.1 in omega (arith, marked_last m p.some, m.room)

pub whole_as_front-copy_from_slice : goal.whole_as_front-copy_from_slice
whole_as_front-copy_from_slice g c = (c.requires.1.small, omega (arith, c.requires.0))

pub slice_bounds-copy_from_slice-end-2 : goal.slice_bounds-copy_from_slice-end-2
slice_bounds-copy_from_slice-end-2 g c = within c.requires.1

pub slice_bounds-copy_from_slice-end-3 : goal.slice_bounds-copy_from_slice-end-3
slice_bounds-copy_from_slice-end-3 g c = sym (length-take-le _ _ (within c.requires.1))

pub copy_from_slice-requires : goal.copy_from_slice-requires
copy_from_slice-requires g c =
    length-take-le _ _ (omega (arith, c.requires.1.small, length-replicate {A = ℕ} g.row.BYTES 0)) ∙ sym (length-take-le _ _ (within c.requires.1))

pub rewrite-requires : goal.rewrite-requires
rewrite-requires g c =
    let p = c.requires.1 in
    let m = p.marked.1 in
    copy_rewritable m p.sorts (copied _ (marked_held m) (marked_last m p.some) c.copy_from_slice.ensures.after) (omega (arith, c.well_formed))

pub returns : goal.returns
returns g c texts m =
    let p = c.requires.1 in
    copy_arranged m p.sorts (copied _ (marked_held m) (marked_last m p.some) c.copy_from_slice.ensures.after) c.rewrite.ensures
