-- What a command and a clear store: "A step writes answer, woken, flags and line only", and a clear the flags and the line.
-- Idea: what is the card's is kept by every command (`SessionRight`), so that storing the other four bytes gives the whole window.
-- Assumes nothing.
use Rattle.std.specs.Prelude.{◌≡◌, refl, [], ℕ}
use Rattle.std.proofs.Common.{sym, ap, ◌∙◌}
use Rattle.table.specs.declared.Cell.{Cell}
use Rattle.window.specs.declared.Window.{Window}
use Rattle.window.specs.Window.{with_answer, with_flags, with_line, lined, command_of, clear_of}
use Rattle.window.specs.Session.{CardsKept, commands, acted, session}
use Rattle.window.proofs.SessionLaws.{session_right}

-- the window w with answer, woken, flags and line of v
abbrev pub stored : Window → Window → Window
stored w v = with_line (with_answer w v.answer v.woken v.flags) v.line

-- the window w with flags and line of v
abbrev pub stored_flags : Window → Window → Window
stored_flags w v = with_line (with_flags w v.flags) v.line

-- where v has what is the card's in w, that is v
stored_kept : (w v : Window) → CardsKept w v → stored w v ≡ v
stored_kept w v k = λ j. record {
  command = sym k.command j;
  agent = sym k.agent j;
  wish = sym k.wish j;
  answer = v.answer;
  woken = v.woken;
  flags = v.flags;
  mask = sym k.mask j;
  line = v.line;
}

-- a command keeps what is the card's
command_kept : (t : Cell) (w : Window) → CardsKept w (command_of t w).window
unfolding session acted
command_kept t w = (session_right (record { cell = t; window = w }) []).kept commands refl

-- so the four bytes of the window after a command, stored, give that window
pub command_stored : (t : Cell) (w v : Window) → v ≡ (command_of t w).window → stored w v ≡ (command_of t w).window
command_stored t w v e = ap (stored w) e ∙ stored_kept w (command_of t w).window (command_kept t w)

-- and the two of the window after a clear
pub clear_stored : (w : Window) (ones : ℕ) (v : Window) → v ≡ clear_of w ones → stored_flags w v ≡ clear_of w ones
unfolding clear_of lined
clear_stored w ones v e = ap (stored_flags w) e
