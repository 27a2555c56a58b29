-- A register window for the bonder's card (document 02, W14): eight bytes, what a command and a clear make of them.
use Rattle.std.specs.Prelude.{ℕ, ◌+◌, Bool, true, not, ◌&&◌, ◌||◌, cond, eqb, ltb, Ok, Err}
use Rattle.sets.specs.Word.{bit, has, word_of}
use Rattle.table.specs.Base.{any_below}
use Rattle.table.specs.Cell.{cell_of}
use Rattle.table.specs.Idle.{idle}
use Rattle.table.specs.declared.Cell.{Cell}
use Rattle.meaning.specs.Answers.{Answer}
use Rattle.meaning.specs.declared.Stepped.{Stepped}
use Rattle.meaning.specs.Codes.{word_number}
use Rattle.meaning.specs.Run.{step_of}
use Rattle.window.specs.declared.Window.{Window}
use Rattle.window.specs.declared.Commanded.{Commanded}

-- ---- numbers

-- "command (1 step, any other nothing)"
abbrev pub step_command : ℕ
step_command = 1

-- "Flag bit 0 is set when a step woke someone, bit 1 when all agents are asleep or done after it, bit 2 on a refusal"
abbrev pub woke_flag : ℕ
woke_flag = 0

abbrev pub rest_flag : ℕ
rest_flag = 1

abbrev pub refused_flag : ℕ
refused_flag = 2

-- "128 plus the number if refused"
abbrev pub refused_base : ℕ
refused_base = 128

-- ---- bits of a byte

-- flags once bit i is set, if b; "a set flag stays until cleared"
unfoldable pub with_flag : ℕ → Bool → ℕ → ℕ
with_flag i b flags = word_of 8 (λ j. (b && eqb j i) || has flags j)

-- "Ones written to the flags clear those bits"
unfoldable pub cleared : ℕ → ℕ → ℕ
cleared flags ones = word_of 8 (λ j. has flags j && not (has ones j))

-- "flags and mask share a bit"
unfoldable pub shares : ℕ → ℕ → Bool
shares flags mask = any_below (λ j. has flags j && has mask j) 8

-- ---- a window: "Eight bytes: command .., agent, wish, answer .., woken, flags, mask, line"

-- answer, woken and flags written anew: "A step writes answer, woken, flags and line only"
abbrev pub with_answer : Window → ℕ → ℕ → ℕ → Window
with_answer w answer woken flags = record {
  command = w.command;
  agent = w.agent;
  wish = w.wish;
  answer = answer;
  woken = woken;
  flags = flags;
  mask = w.mask;
  line = w.line;
}

-- the flags written anew
abbrev pub with_flags : Window → ℕ → Window
with_flags w flags = with_answer w w.answer w.woken flags

-- the line written anew
abbrev pub with_line : Window → ℕ → Window
with_line w line = record {
  command = w.command;
  agent = w.agent;
  wish = w.wish;
  answer = w.answer;
  woken = w.woken;
  flags = w.flags;
  mask = w.mask;
  line = line;
}

-- "the line is 1 exactly if flags and mask share a bit, else 0"
unfoldable pub lined : Window → Window
lined w = with_line w (bit (shares w.flags w.mask))

-- ---- a command

-- the flags after a step that was made, which woke so many, and after which all agents are asleep or done, or not
abbrev pub made_flags : ℕ → ℕ → Bool → ℕ
made_flags flags woken rest = with_flag rest_flag rest (with_flag woke_flag (ltb 0 woken) flags)

-- the window after a step with this answer; rest: all agents are asleep or done after it. "bit 2 on a refusal, which sets no other bit and gives
-- woken 0"
abbrev pub step_window : Window → Bool → Answer → Window
step_window w rest (Ok o) = lined (with_answer w (word_number o.word) o.woken (made_flags w.flags o.woken rest))
step_window w rest (Err number) = lined (with_answer w (refused_base + number) 0 (with_flag refused_flag true w.flags))

-- a step through the window; "a refused one leaves the cell, not the window, as it was"
abbrev pub stepped : Window → Stepped → Commanded
stepped w s = record { cell = s.cell; window = step_window w (idle (cell_of s.cell)) s.answer }

-- "command (1 step, any other nothing)"; "After every command, unknown ones too, .. the line is 1 exactly if flags and mask share a bit"
unfoldable pub command_of : Cell → Window → Commanded
command_of t w = cond (eqb w.command step_command) (stepped w (step_of t w.agent w.wish)) (record { cell = t; window = lined w })

-- ---- a clear

-- "Ones written to the flags clear those bits. After .. every clear, the line is 1 exactly if flags and mask share a bit"
unfoldable pub clear_of : Window → ℕ → Window
unfolding cleared
clear_of w ones = lined (with_flags w (cleared w.flags ones))
