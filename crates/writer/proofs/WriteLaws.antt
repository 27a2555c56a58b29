-- What becomes of a trail's buffer by the number of an ask: no move, no room, or the two bytes. Assumes nothing.
use Rattle.std.specs.Prelude.{◌≡◌, true, false, ℕ, ◌<◌, ◌≤◌, length, set}
use Rattle.std.proofs.Math.Path.{refl}
use mathlib.Core.List.{List, [], ◌∷◌}
use Rattle.std.proofs.Common.{arith}
use borrow.Author.Tests.{le-leb, lt-leb}
use Rattle.meaning.specs.Codes.{place_in}
use Rattle.meaning.specs.Text.{overlay}
use Rattle.meaning.specs.Answers.{Length, Unlisted}
use Rattle.trail.specs.Written.{tells_move, told_bytes, told_answer, told_buffer}

module _ (x asked : ℕ) where
  bytes_two : tells_move asked ≡ true → told_bytes x asked ≡ x ∷ place_in asked ∷ []
  unfolding told_bytes
  bytes_two e = rw e

  bytes_none : tells_move asked ≡ false → told_bytes x asked ≡ []
  unfolding told_bytes
  bytes_none e = rw e

  -- no move: nothing is written
  pub no_move : (b : List ℕ) → tells_move asked ≡ false → (b ≡ told_buffer x asked b) × (Length 0 ≡ told_answer x asked b)
  unfolding told_buffer told_answer overlay
  no_move b e = (rw (bytes_none e, le-leb 0 (length b) (omega arith)), rw (bytes_none e, le-leb 0 (length b) (omega arith)))

  -- a move with no room for its two bytes: 12, and the buffer as it was
  pub no_room : (b : List ℕ) → tells_move asked ≡ true → length b < 2 → (b ≡ told_buffer x asked b) × (Unlisted 12 ≡ told_answer x asked b)
  unfolding told_buffer told_answer
  no_room b e l = (rw (bytes_two e, lt-leb 2 (length b) l), rw (bytes_two e, lt-leb 2 (length b) l))

  -- the two bytes at the start of a buffer
  two_over : (b : List ℕ) → 2 ≤ length b → set (set b 0 x) 1 (place_in asked) ≡ overlay (x ∷ place_in asked ∷ []) b
  unfolding overlay
  two_over [] l = absurd (omega arith)
  two_over (y ∷ []) l = absurd (omega arith)
  two_over (y ∷ z ∷ b) l = refl

  -- a move with room
  pub room : (b : List ℕ) → tells_move asked ≡ true → 2 ≤ length b
      → (set (set b 0 x) 1 (place_in asked) ≡ told_buffer x asked b) × (Length 2 ≡ told_answer x asked b)
  unfolding told_buffer told_answer
  room b e l = (rw (bytes_two e, le-leb 2 (length b) l) (two_over b l), rw (bytes_two e, le-leb 2 (length b) l))
