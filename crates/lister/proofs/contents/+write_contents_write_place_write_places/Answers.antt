-- Contents: the agents, and where places stand there a bar and the places. Places: a turn writes a bar, where one is due, and the place that comes
-- next; then they are put in order. Place: name, contents, bracket.
use Rattle.std.proofs.Common.{ℕ, refl, sym, ap, ◌-◌, ◌<◌, length, arith, rules}
use Rattle.sets.specs.Set.{member}
use Rattle.sets.proofs.WalkLaws.{rest_start}
use Rattle.meaning.specs.Text.{joined}
use Rattle.meaning.specs.Listing.{texts_of}
use Rattle.text.specs.Wrote.{Fits}
use Rattle.text.proofs.TextLaws.{begun, wrote_as}
use Rattle.lister.specs.Sheet.{bar, sheet_of, place_on}
use Rattle.lister.specs.Marked.{grouped, barred}
use Rattle.lister.proofs.SheetLaws.{agents_on, places_on, contents_none, agents_filled, places_filled, head_fits, head_before, contents_in, contents_page, contents_before, bracket_in, bracket_placed, place_written}
use Rattle.lister.proofs.SheetLaws.{set_texts, no_texts, some_texts, agents_page, agents_alone, both_fit, places_page, both_written}
use Rattle.lister.proofs.PartLaws.{begun_before, between_in, between_fits, parted_after, part_in, part_fits, turned}
use Rattle.lister.proofs.TurnLaws.{walked_none, turn_low, turn_room, turn_page, turn_slot, turn_after, mark_small, walked_more, walked_marked, walked_all}
use Rattle.lister.proofs.contents.+write_contents_write_place_write_places.Goals as goal
use Rattle.lister.proofs.contents.+write_contents_write_place_write_places.Goals.{write_contents-Else-inside-eq0, write_places-In-Some}

-- ---- contents

pub write_contents-returns-then-depth-eq0 : goal.write_contents-returns-then-depth-eq0
write_contents-returns-then-depth-eq0 t c =
    wrote_as (sym (contents_none _ _ _ c.if-depth-eq0.true)) (begun c.requires.1.fits.placed)

pub write_contents-write_agents-at-requires : goal.write_contents-write_agents-at-requires
write_contents-write_agents-at-requires t c =
    let h = sheet_of c.args.sheet.now in
    (agents_page c.args.depth h c.args.p c.if-depth-eq0.false c.requires.1, agents_filled h c.args.sheet.now.have_texts c.args.p c.requires.0)

-- no place stands there
pub write_contents-returns-then-inside-eq0 : goal.write_contents-returns-then-inside-eq0
write_contents-returns-then-inside-eq0 t c =
    let h = sheet_of c.args.sheet.now in
    agents_alone c.args.depth h c.args.p c.if-depth-eq0.false c.requires.1 (no_texts (rest_start _ (search rules)) (place_on (c.args.depth - 1) h) c.if-inside-eq0.true) c.write_agents-at.ensures

-- some do
some : (t : ℕ) (c : write_contents-Else-inside-eq0 t) → 0 < length (places_on (c.args.depth - 1) (sheet_of c.args.sheet.now) c.args.p)
some t c =
    let h = sheet_of c.args.sheet.now in
    some_texts (rest_start _ (search rules)) (place_on (c.args.depth - 1) h) c.if-inside-eq0.false

-- there is room for both groups
both : (t : ℕ) (c : write_contents-Else-inside-eq0 t) →
    let h = sheet_of c.args.sheet.now in
    Fits (joined bar (grouped (agents_on h c.args.p)) (grouped (places_on (c.args.depth - 1) h c.args.p))) c.args.from c.args.buf.now
both t c = both_fit c.args.depth (sheet_of c.args.sheet.now) c.args.p c.if-depth-eq0.false c.requires.1 (some t c)

pub write_contents-overflow_sub-at : goal.write_contents-overflow_sub-at
write_contents-overflow_sub-at t c =
    begun_before bar _ c.write_agents-at.ensures (both t c) refl

pub write_contents-slice_bounds-write_bar-count : goal.write_contents-slice_bounds-write_bar-count
write_contents-slice_bounds-write_bar-count t c =
    between_in bar _ c.write_agents-at.ensures (both t c) refl

pub write_contents-slice_bounds-write_bar-start : goal.write_contents-slice_bounds-write_bar-start
write_contents-slice_bounds-write_bar-start t c =
    between_in bar _ c.write_agents-at.ensures (both t c) refl

pub write_contents-write_bar-mid-requires : goal.write_contents-write_bar-mid-requires
write_contents-write_bar-mid-requires t c =
    between_fits bar _ c.write_agents-at.ensures (both t (goal.at.write_contents-write_bar-mid-requires t c).Else-inside-eq0) refl

pub write_contents-overflow_sub-mid : goal.write_contents-overflow_sub-mid
write_contents-overflow_sub-mid t c =
    parted_after bar _ c.write_agents-at.ensures (both t (goal.at.write_contents-overflow_sub-mid t c).Else-inside-eq0) refl c.write_bar-mid.ensures refl

pub write_contents-slice_bounds-write_places-count : goal.write_contents-slice_bounds-write_places-count
write_contents-slice_bounds-write_places-count t c =
    part_in bar _ c.write_agents-at.ensures (both t (goal.at.write_contents-slice_bounds-write_places-count t c).Else-inside-eq0) refl c.write_bar-mid.ensures refl

pub write_contents-slice_bounds-write_places-start : goal.write_contents-slice_bounds-write_places-start
write_contents-slice_bounds-write_places-start t c =
    part_in bar _ c.write_agents-at.ensures (both t (goal.at.write_contents-slice_bounds-write_places-start t c).Else-inside-eq0) refl c.write_bar-mid.ensures refl

-- the depth falls
pub write_contents-write_places-requires : goal.write_contents-write_places-requires
write_contents-write_places-requires t c =
    let h = sheet_of c.args.sheet.now in
    let z = c.if-depth-eq0.false in (
      omega (arith, c.decreases, z),
      places_page c.args.depth h c.args.p z c.requires.1 (some t (goal.at.write_contents-write_places-requires t c).Else-inside-eq0) (set_texts (rest_start _ (search rules)) (place_on (c.args.depth - 1) h))
          (part_fits bar _ c.write_agents-at.ensures (both t (goal.at.write_contents-write_places-requires t c).Else-inside-eq0) refl c.write_bar-mid.ensures refl),
    )

pub write_contents-returns : goal.write_contents-returns
write_contents-returns t c =
    let h = sheet_of c.args.sheet.now in
    both_written c.args.depth h c.args.p c.if-depth-eq0.false c.requires.1 (some t (goal.at.write_contents-returns t c).Else-inside-eq0)
    (turned bar _ c.write_agents-at.ensures (both t (goal.at.write_contents-returns t c).Else-inside-eq0) refl c.write_bar-mid.ensures refl (wrote_as (ap grouped (set_texts (rest_start _ (search rules)) (place_on (c.args.depth - 1) h))) c.write_places.ensures))

-- ---- a place

pub write_place-write_head-mid-requires : goal.write_place-write_head-mid-requires
write_place-write_head-mid-requires t c =
    let h = sheet_of c.args.sheet.now in
    head_fits c.args.depth h c.args.q c.requires.1.fits

pub write_place-overflow_sub-mid : goal.write_place-overflow_sub-mid
write_place-overflow_sub-mid t c =
    let h = sheet_of c.args.sheet.now in
    head_before c.args.depth h c.args.q c.requires.1.fits c.write_head-mid.ensures refl

pub write_place-slice_bounds-write_contents-count : goal.write_place-slice_bounds-write_contents-count
write_place-slice_bounds-write_contents-count t c =
    let h = sheet_of c.args.sheet.now in
    contents_in c.args.depth h c.args.q c.requires.1.fits c.write_head-mid.ensures refl

pub write_place-slice_bounds-write_contents-start : goal.write_place-slice_bounds-write_contents-start
write_place-slice_bounds-write_contents-start t c =
    let h = sheet_of c.args.sheet.now in
    contents_in c.args.depth h c.args.q c.requires.1.fits c.write_head-mid.ensures refl

pub write_place-write_contents-full-requires : goal.write_place-write_contents-full-requires
write_place-write_contents-full-requires t c =
    let h = sheet_of c.args.sheet.now in
    (omega (arith, c.decreases), (c.requires.0, contents_page c.args.depth h c.args.q c.requires.1.fits c.write_head-mid.ensures refl c.requires.1.short))

pub write_place-overflow_sub-j : goal.write_place-overflow_sub-j
write_place-overflow_sub-j t c =
    let h = sheet_of c.args.sheet.now in
    contents_before c.args.depth h c.args.q c.requires.1.fits c.write_head-mid.ensures refl c.write_contents-full.ensures refl

pub write_place-bounds-buf-j : goal.write_place-bounds-buf-j
write_place-bounds-buf-j t c =
    let h = sheet_of c.args.sheet.now in
    bracket_in c.args.depth h c.args.q c.requires.1.fits c.write_head-mid.ensures refl c.write_contents-full.ensures refl

pub write_place-overflow_add-result : goal.write_place-overflow_add-result
write_place-overflow_add-result t c =
    let h = sheet_of c.args.sheet.now in
    omega (arith, bracket_placed c.args.depth h c.args.q c.requires.1.fits c.write_head-mid.ensures refl c.write_contents-full.ensures refl)

pub write_place-returns : goal.write_place-returns
write_place-returns t c =
    let h = sheet_of c.args.sheet.now in
    place_written c.args.depth h c.args.q c.requires.1.fits c.write_head-mid.ensures refl c.write_contents-full.ensures refl

-- ---- places

-- the place of a turn is below 64
low : (t : ℕ) (c : write_places-In-Some t) → c.in-Some.q < 64
low t c =
    let h = sheet_of c.args.sheet.now in
    turn_low (member c.args.inside) (place_on c.args.depth h) c.requires (places_filled c.args.depth h (member c.args.inside)) c.loop-q.invariant c.in-Some.ensures.steps

-- there is a mark left for it
slot : (t : ℕ) (c : write_places-In-Some t) → c.loop-q.many < 64
slot t c =
    let h = sheet_of c.args.sheet.now in
    turn_slot (member c.args.inside) (place_on c.args.depth h) c.requires (places_filled c.args.depth h (member c.args.inside)) c.loop-q.invariant c.in-Some.ensures.steps

-- and room for its text
room : (t : ℕ) (c : write_places-In-Some t) →
    let h = sheet_of c.args.sheet.now in
    Fits (joined bar (barred (texts_of (member c.args.inside) (place_on c.args.depth h) c.loop-q.invariant.upto)) (place_on c.args.depth h c.in-Some.q)) c.args.from c.args.buf.now
room t c =
    let h = sheet_of c.args.sheet.now in
    turn_room (member c.args.inside) (place_on c.args.depth h) c.requires (places_filled c.args.depth h (member c.args.inside)) c.loop-q.invariant c.in-Some.ensures.steps

pub write_places-loop-q-init : goal.write_places-loop-q-init
write_places-loop-q-init t c =
    let h = sheet_of c.args.sheet.now in
    walked_none (member c.args.inside) (place_on c.args.depth h) c.requires (places_filled c.args.depth h (member c.args.inside)) (rw c.into_iter-q-iterator.ensures.into_iter_gives (rest_start c.args.inside (search rules)))

pub write_places-overflow_sub-at : goal.write_places-overflow_sub-at
write_places-overflow_sub-at t c =
    begun_before bar _ c.loop-q.invariant.wrote (room t c) refl

pub write_places-slice_bounds-write_bar-count : goal.write_places-slice_bounds-write_bar-count
write_places-slice_bounds-write_bar-count t c =
    between_in bar _ c.loop-q.invariant.wrote (room t c) refl

pub write_places-slice_bounds-write_bar-start : goal.write_places-slice_bounds-write_bar-start
write_places-slice_bounds-write_bar-start t c =
    between_in bar _ c.loop-q.invariant.wrote (room t c) refl

pub write_places-write_bar-mid-requires : goal.write_places-write_bar-mid-requires
write_places-write_bar-mid-requires t c =
    between_fits bar _ c.loop-q.invariant.wrote (room t (goal.at.write_places-write_bar-mid-requires t c).In-Some) refl

pub write_places-overflow_sub-mid : goal.write_places-overflow_sub-mid
write_places-overflow_sub-mid t c =
    parted_after bar _ c.loop-q.invariant.wrote (room t (goal.at.write_places-overflow_sub-mid t c).In-Some) refl c.write_bar-mid.ensures refl

pub write_places-slice_bounds-write_place-count : goal.write_places-slice_bounds-write_place-count
write_places-slice_bounds-write_place-count t c =
    part_in bar _ c.loop-q.invariant.wrote (room t (goal.at.write_places-slice_bounds-write_place-count t c).In-Some) refl c.write_bar-mid.ensures refl

pub write_places-slice_bounds-write_place-start : goal.write_places-slice_bounds-write_place-start
write_places-slice_bounds-write_place-start t c =
    part_in bar _ c.loop-q.invariant.wrote (room t (goal.at.write_places-slice_bounds-write_place-start t c).In-Some) refl c.write_bar-mid.ensures refl

pub write_places-write_place-at-requires : goal.write_places-write_place-at-requires
write_places-write_place-at-requires t c =
    let h = sheet_of c.args.sheet.now in (
      omega (arith, c.decreases),
      (
        low t (goal.at.write_places-write_place-at-requires t c).In-Some,
        turn_page (member c.args.inside) (place_on c.args.depth h) c.requires (places_filled c.args.depth h (member c.args.inside)) c.loop-q.invariant c.in-Some.ensures.steps
            (part_fits bar _ c.loop-q.invariant.wrote (room t (goal.at.write_places-write_place-at-requires t c).In-Some) refl c.write_bar-mid.ensures refl),
      ),
    )

pub write_places-overflow_sub-marks : goal.write_places-overflow_sub-marks
write_places-overflow_sub-marks t c =
    let h = sheet_of c.args.sheet.now in
    turn_after (member c.args.inside) (place_on c.args.depth h) c.requires (places_filled c.args.depth h (member c.args.inside)) c.loop-q.invariant c.in-Some.ensures.steps
    (turned bar _ c.loop-q.invariant.wrote (room t (goal.at.write_places-overflow_sub-marks t c).In-Some) refl c.write_bar-mid.ensures refl c.write_place-at.ensures)

pub write_places-overflow_cast-marks : goal.write_places-overflow_cast-marks
write_places-overflow_cast-marks t c =
    let h = sheet_of c.args.sheet.now in
    omega (
      arith,
      mark_small (member c.args.inside) (place_on c.args.depth h) c.requires (places_filled c.args.depth h (member c.args.inside)) c.loop-q.invariant c.in-Some.ensures.steps
          (turned bar _ c.loop-q.invariant.wrote (room t (goal.at.write_places-overflow_cast-marks t c).In-Some) refl c.write_bar-mid.ensures refl c.write_place-at.ensures),
    )

pub write_places-offset_bounds-marks-many : goal.write_places-offset_bounds-marks-many
write_places-offset_bounds-marks-many t c =
    let l = (slot t (goal.at.write_places-offset_bounds-marks-many t c).In-Some) in
    omega arith

pub write_places-bounds-marks-many : goal.write_places-bounds-marks-many
write_places-bounds-marks-many t c =
    slot t (goal.at.write_places-bounds-marks-many t c).In-Some

pub write_places-overflow_add-many : goal.write_places-overflow_add-many
write_places-overflow_add-many t c =
    let l = (slot t (goal.at.write_places-overflow_add-many t c).In-Some) in
    omega arith

pub write_places-loop-q-preserved : goal.write_places-loop-q-preserved
write_places-loop-q-preserved t c =
    let h = sheet_of c.args.sheet.now in
    walked_more (member c.args.inside) (place_on c.args.depth h) c.requires (places_filled c.args.depth h (member c.args.inside)) c.loop-q.invariant c.in-Some.ensures.steps
    (turned bar _ c.loop-q.invariant.wrote (room t (goal.at.write_places-loop-q-preserved t c).In-Some) refl c.write_bar-mid.ensures refl c.write_place-at.ensures)

pub write_places-arrange-requires : goal.write_places-arrange-requires
write_places-arrange-requires t c =
    let h = sheet_of c.args.sheet.now in
    (texts_of (member c.args.inside) (place_on c.args.depth h) 64, walked_marked (member c.args.inside) (place_on c.args.depth h) c.requires (places_filled c.args.depth h (member c.args.inside)) c.loop-q.invariant c.in-None.ensures.steps.0)

pub write_places-returns : goal.write_places-returns
write_places-returns t c =
    let h = sheet_of c.args.sheet.now in
    walked_all (member c.args.inside) (place_on c.args.depth h) c.requires (places_filled c.args.depth h (member c.args.inside)) c.loop-q.invariant c.in-None.ensures.steps.0 c.arrange.ensures
