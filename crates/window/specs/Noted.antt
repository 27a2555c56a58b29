-- The window after a step, told the number of the step's answer (`step_number`): the word in bits 8 to 15 and the number woken in bits 16 to 23, or
-- the refusal's number in bits 0 to 7.
use Rattle.std.specs.Prelude.{ℕ, ◌+◌, ◌/◌, ◌%◌, Bool, true, cond, eqb}
use Rattle.window.specs.declared.Window.{Window}
use Rattle.window.specs.Window.{refused_flag, refused_base, with_flag, with_answer, lined, made_flags}

-- a step was made
abbrev pub did_of : Window → ℕ → ℕ → Bool → Window
did_of w word woken rest = lined (with_answer w word woken (made_flags w.flags woken rest))

-- a step was refused; a number past 127 has no byte of its own
abbrev pub refused_of : Window → ℕ → Window
refused_of w number = lined (with_answer w (refused_base + number % 128) 0 (with_flag refused_flag true w.flags))

-- a step answered with this number
unfoldable pub noted_of : Window → ℕ → Bool → Window
noted_of w number rest = cond (eqb (number % 256) 0) (did_of w (number / 256 % 256) (number / 65536 % 256) rest) (refused_of w (number % 256))
