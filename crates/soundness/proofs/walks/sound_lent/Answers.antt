-- The agents and the places, the touches and the row decide.
use Rattle.std.proofs.Common.{◌≡◌, ◌∙◌, sym, true, false}
use Rattle.std.specs.Option.{is_some}
use Rattle.table.specs.Cell.{cell_of}
use Rattle.table.specs.Sound.{core_sound}
use Rattle.soundness.specs.Left.{left_of}
use Rattle.soundness.proofs.TurnLaws.{sound_seen}
use Rattle.soundness.proofs.walks.sound_lent.Goals as goal
use Rattle.soundness.proofs.walks.sound_lent.Goals.{then-places_seen, else-places_seen}

-- some agent does not fit
pub returns-in_default : goal.returns-in_default
returns-in_default c =
    let core : core_sound (cell_of c.args.cell.now) ≡ false = sym c.in_default.ensures in
    let s = rw core at (sound_seen c.args.cell.now) in
    s

pub returns-then-is_some : goal.returns-then-is_some
returns-then-is_some c =
    let h = c.args.cell.now in
    let seen = c.places_seen.ensures ∙ c.in-Some.ensures in
    elim c.if-places_seen.branch [
      | then-places_seen w ↦
          let core : core_sound (cell_of h) ≡ true = sym seen ∙ w.if-places_seen.true in
          let left : is_some (left_of h.touches h.used) ≡ true = cc in
          let s = rw (core, left) at (sound_seen h) in
          c.is_row.ensures ∙ s
      | else-places_seen w ↦ absurd (cc)
    ]

pub returns-else-is_some : goal.returns-else-is_some
returns-else-is_some c =
    let h = c.args.cell.now in
    let seen = c.places_seen.ensures ∙ c.in-Some.ensures in
    elim c.if-places_seen.branch [
      | then-places_seen w ↦
          let core : core_sound (cell_of h) ≡ true = sym seen ∙ w.if-places_seen.true in
          let left : is_some (left_of h.touches h.used) ≡ false = cc in
          let s = rw (core, left) at (sound_seen h) in
          c.if-is_some.false ∙ s
      | else-places_seen w ↦
          let core : core_sound (cell_of h) ≡ false = sym seen ∙ w.if-places_seen.false in
          let s = rw core at (sound_seen h) in
          c.if-is_some.false ∙ s
    ]
