-- The test of soundness and its parts, on places, locks and agents, on touches and on the row: the only laws that open the whole test. Assumes nothing.
use Rattle.std.specs.Prelude.{◌≡◌, true, ◌≤◌, leb}
use Rattle.std.proofs.Math.Path.{ap₂}
use Rattle.std.proofs.Math.Bool.{◌&&◌}
use borrow.Author.Tests.{leb-true, le-leb}
use Rattle.order.specs.Row.{row_fits}
use Rattle.table.proofs.BaseLaws.{and_left, and_right}
use Rattle.table.specs.Cell.{State}
use Rattle.table.specs.Sound.{core_sound, touch_sum, most_touches, books_sound, sound}

module _ (c : State) where
  pub sound_core : sound c ≡ true → core_sound c ≡ true
  unfolding sound
  sound_core e = and_left (core_sound c) (books_sound c) e

  pub sound_books : sound c ≡ true → books_sound c ≡ true
  unfolding sound
  sound_books e = and_right (core_sound c) (books_sound c) e

  pub sound_touches : sound c ≡ true → touch_sum c ≤ most_touches
  unfolding books_sound
  sound_touches e = leb-true (touch_sum c) most_touches (and_left (leb (touch_sum c) most_touches) (row_fits c.land.order) (sound_books e))

  pub sound_order : sound c ≡ true → row_fits c.land.order ≡ true
  unfolding books_sound
  sound_order e = and_right (leb (touch_sum c) most_touches) (row_fits c.land.order) (sound_books e)

  pub parts_sound : core_sound c ≡ true → touch_sum c ≤ most_touches → row_fits c.land.order ≡ true → sound c ≡ true
  unfolding sound books_sound
  parts_sound e l o = ap₂ ◌&&◌ e (ap₂ ◌&&◌ (le-leb (touch_sum c) most_touches l) o)
