-- What a host writes of a run (document 02, W13: "The trail of every run of our keeper .., written at each left, opened and put"): it asks right before
-- each step, and the number that the ask answers tells the bytes. Claims (crate `claims`) says that they are the run's trail.
use Rattle.std.specs.Prelude.{ℕ, ◌%◌, Bool, ◌&&◌, ◌||◌, cond, List, [], ◌∷◌, eqb, leb, length}
use Rattle.meaning.specs.Codes.{word_number, word_in, place_in}
use Rattle.meaning.specs.Refusals.{too_long}
use Rattle.meaning.specs.Text.{overlay}
use Rattle.meaning.specs.Answers.{Listed, Length, Unlisted}
use Rattle.meaning.specs.declared.Word.TheVariants.{Left, Opened, Put}

-- a word, by its number, says a move: "at each left, opened and put"
abbrev pub word_moves : ℕ → Bool
word_moves word = eqb word (word_number Left) || (eqb word (word_number Opened) || eqb word (word_number Put))

-- the number of an ask tells a move: it is no refusal, and its word says one
abbrev pub tells_move : ℕ → Bool
tells_move asked = eqb (asked % 256) 0 && word_moves (word_in asked)

-- "two bytes for each move, the agent and the place entered or opened (255 for exit and release)": those of a step of agent x, by the number that an
-- ask answered right before it; none where that was a refusal or its word says no move
unfoldable pub told_bytes : ℕ → ℕ → List ℕ
told_bytes x asked = cond (tells_move asked) (x ∷ place_in asked ∷ []) []

-- they are written at the start of what is left of a trail's buffer: how many there are, or 12 where they are more than it has room for
unfoldable pub told_answer : ℕ → ℕ → List ℕ → Listed
unfolding told_bytes
told_answer x asked buffer = cond (leb (length (told_bytes x asked)) (length buffer)) (Length (length (told_bytes x asked))) (Unlisted too_long)

-- the buffer after it; a refusal leaves it as it was
unfoldable pub told_buffer : ℕ → ℕ → List ℕ → List ℕ
unfolding told_bytes overlay
told_buffer x asked buffer = cond (leb (length (told_bytes x asked)) (length buffer)) (overlay (told_bytes x asked) buffer) buffer
