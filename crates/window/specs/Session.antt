-- What is claimed of a card's session (document 02, W14): any sequence of commands and clears, the card writing its own bytes between them at will.
-- Definitions only.
use Rattle.std.specs.Prelude.{◌≡◌, Bool, true, false, not, ◌&&◌, ◌||◌, cond, List, [], ◌∷◌, ◌++◌, ℕ, ◌+◌, ◌<◌, eqb, ltb, Ok, Err}
use Rattle.sets.specs.Word.{bit, has}
use Rattle.table.specs.Cell.{cell_of}
use Rattle.table.specs.Idle.{idle}
use Rattle.meaning.specs.Answers.{Answer, Refused}
use Rattle.meaning.specs.declared.Stepped.{Stepped}
use Rattle.meaning.specs.Codes.{word_number}
use Rattle.meaning.specs.Run.{Call, step_call, step_of, run}
use Rattle.window.specs.declared.Window.{Window}
use Rattle.window.specs.declared.Commanded.{Commanded}
use Rattle.window.specs.Window.{step_command, woke_flag, rest_flag, refused_flag, refused_base, shares, lined, command_of, clear_of}

-- what is done to a window: the card writes the four bytes that are its own, gives the command that stands in the window, or writes ones to the
-- flags
pub data Act : Type 0 where
  writes : ℕ → ℕ → ℕ → ℕ → Act
  commands : Act
  clears : ℕ → Act

-- command, agent, wish and mask as the card writes them
abbrev pub written : Window → ℕ → ℕ → ℕ → ℕ → Window
written w command agent wish mask = record {
  command = command;
  agent = agent;
  wish = wish;
  answer = w.answer;
  woken = w.woken;
  flags = w.flags;
  mask = mask;
  line = w.line;
}

-- cell and window after one act
unfoldable pub acted : Commanded → Act → Commanded
acted s (writes command agent wish mask) = record { cell = s.cell; window = written s.window command agent wish mask }
acted s commands = command_of s.cell s.window
acted s (clears ones) = record { cell = s.cell; window = clear_of s.window ones }

-- and after a sequence
unfoldable pub session : Commanded → List Act → Commanded
unfolding acted
session s [] = s
session s (a ∷ acts) = session (acted s a) acts

-- "the same step calls": the step call of a command 1, by the agent and the wish that stand in the window then
abbrev pub call_of_act : Window → Act → List Call
call_of_act w commands = cond (eqb w.command step_command) (step_call w.agent w.wish ∷ []) []
call_of_act w (writes command agent wish mask) = []
call_of_act w (clears ones) = []

-- those of a sequence
unfoldable pub calls_of : Commanded → List Act → List Call
unfolding acted
calls_of s [] = []
calls_of s (a ∷ acts) = call_of_act s.window a ++ calls_of (acted s a) acts

-- "the line is 1 exactly if flags and mask share a bit, else 0"
abbrev pub LineRight : Window → Type 0
LineRight w = w.line ≡ bit (shares w.flags w.mask)

-- a command or a clear, after which the line is right
abbrev pub sets_line : Act → Bool
sets_line (writes command agent wish mask) = false
sets_line commands = true
sets_line (clears ones) = true

-- the act names flag i among the ones that it writes
abbrev pub clears_flag : ℕ → Act → Bool
clears_flag i (writes command agent wish mask) = false
clears_flag i commands = false
clears_flag i (clears ones) = has ones i

-- none of the acts does
unfoldable pub no_clear : ℕ → List Act → Bool
no_clear i [] = true
no_clear i (a ∷ acts) = cond (clears_flag i a) false (no_clear i acts)

-- the step call that the command 1 is
abbrev pub step_now : Commanded → Stepped
step_now s = step_of s.cell s.window.agent s.window.wish

-- what a step with this answer is seen for: it woke someone, it met rest, it was refused; rest: all agents are asleep or done after it
abbrev pub seen_for : Bool → Answer → ℕ → Bool
seen_for rest (Ok o) i = cond (eqb i woke_flag) (ltb 0 o.woken) (cond (eqb i rest_flag) rest false)
seen_for rest (Err number) i = eqb i refused_flag

-- the act is a step, and is seen for flag i
abbrev pub sees : ℕ → Commanded → Act → Bool
sees i s commands = eqb s.window.command step_command && seen_for (idle (cell_of (step_now s).cell)) (step_now s).answer i
sees i s (writes command agent wish mask) = false
sees i s (clears ones) = false

-- command, agent, wish and mask are as they were
pub record CardsKept (w v : Window) : Type 0 where
  pub command : v.command ≡ w.command
  pub agent : v.agent ≡ w.agent
  pub wish : v.wish ≡ w.wish
  pub mask : v.mask ≡ w.mask

-- "answer (0 looked, .. 10 done; 128 plus the number if refused), woken"; a refusal "gives woken 0"
abbrev pub Answered : Window → Answer → Type 0
Answered w (Ok o) = (w.answer ≡ word_number o.word) × (w.woken ≡ o.woken)
Answered w (Err number) = (w.answer ≡ refused_base + number) × (w.woken ≡ 0)

-- of a cell and a window, whatever they hold, and any acts
pub record SessionRight (s : Commanded) (acts : List Act) : Type 0 where
  -- "After any sequence of commands and clears the cell is the one the same step calls give"
  pub cell : (session s acts).cell ≡ run s.cell (calls_of s acts)
  -- the next act, whatever it is: after a command, an unknown one too, and a clear the line is right
  pub line : (a : Act) → sets_line a ≡ true → LineRight (acted (session s acts) a).window
  -- neither writes what is the card's
  pub kept : (a : Act) → sets_line a ≡ true → CardsKept (session s acts).window (acted (session s acts) a).window
  -- after any act a flag is set exactly if the act is a step that is seen for it, or it was set and is not cleared: no other flag is set by a step, and
  -- none but those that are named by a clear
  pub flag : (a : Act) (i : ℕ) → i < 8
      → has (acted (session s acts) a).window.flags i ≡ (sees i (session s acts) a || (has (session s acts).window.flags i && not (clears_flag i a)))
  -- a step tells its answer and the number woken
  pub answer : (session s acts).window.command ≡ step_command → Answered (acted (session s acts) commands).window (step_now (session s acts)).answer
  -- "a refused one leaves the cell, not the window, as it was"
  pub refused : (number : ℕ) → (session s acts).window.command ≡ step_command → (step_now (session s acts)).answer ≡ Refused number
      → (acted (session s acts) commands).cell ≡ (session s acts).cell
  -- "command (1 step, any other nothing)": nothing but the line is written
  pub nothing : (eqb (session s acts).window.command step_command ≡ false)
      → acted (session s acts) commands ≡ record { cell = (session s acts).cell; window = lined (session s acts).window }
  -- "a set flag stays until cleared": a flag that is set is set after any acts of which none clears it
  pub stays : (i : ℕ) → i < 8 → has s.window.flags i ≡ true → no_clear i acts ≡ true → has (session s acts).window.flags i ≡ true
  -- no step goes unseen: one that woke someone, met rest or was refused has its flag set, after any acts of which none clears it
  pub seen : (i : ℕ) → sees i s commands ≡ true → no_clear i acts ≡ true → has (session (acted s commands) acts).window.flags i ≡ true
