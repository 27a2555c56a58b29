-- What demand 1 claims of every call of the keeper (document 01, "Turned-away calls"; document 02, W3, W8, W9, W10, W12): which numbers it may be refused with,
-- when, and that a refusal changes nothing. A call more is one line more in each of these definitions. Definitions only.
use Rattle.std.specs.Prelude.{◌≡◌, ◌≢◌, ◌⊎◌, ◌↔◌, Bool, true, false, ◌&&◌, ◌||◌, List, [], ℕ, ◌+◌, ◌≤◌, ◌<◌, leb, eqb, length}
use Rattle.table.specs.Cell.{cell_of}
use Rattle.table.specs.Sound.{touch_sum, most_touches, sound}
use Rattle.table.specs.declared.Cell.{Cell}
use Rattle.meaning.specs.Answers.{Rejected, Refused, Would, Unasked, Unlisted, Untouched, Unfound, Unsound, Unknown, Uncounted}
use Rattle.meaning.specs.declared.Word.{Word}
use Rattle.meaning.specs.Refusals.{cut_short, after_end, place_too_large, not_yet_given, parent_too_large, agent_too_large, unsound_table, no_such_agent, too_long, too_many_touches}
use Rattle.meaning.specs.Refusals.{outside_language, too_many, answer_differs}
use Rattle.meaning.specs.File.{load_of}
use Rattle.meaning.specs.Run.{step_of}
use Rattle.meaning.specs.Touch.{touch_of, touches_of}
use Rattle.meaning.specs.Listing.{listing, list_answer, list_buffer}
use Rattle.meaning.specs.Codes.{check_of, idle_of, word_number}
use Rattle.meaning.specs.Limit.{ceiling_of}
use Rattle.meaning.specs.Ask.{ask_of, commit_of}
use Rattle.meaning.specs.Where.{nearest_of, common_of}
use Rattle.language.specs.Grammar.{Text, Contents, floor_typed, Belongs}
use Rattle.language.specs.Layout.{fits}
use Rattle.language.specs.Viable.{LongestViable}
use Rattle.language.specs.Read.{read_of}
use Rattle.demands.specs.FileFaults.{Fault}

-- ---- the calls

-- a call with what it is given: a table with anything in it; a file, a text, an agent and a wish, with or without word, number woken and place, a
-- buffer, a place and a number, a place and a name, two places, or a place
pub data KeeperCall : Type 0 where
  load_call : Cell → List ℕ → KeeperCall
  read_call : Cell → Text → KeeperCall
  step_call : Cell → ℕ → ℕ → KeeperCall
  ask_call : Cell → ℕ → ℕ → KeeperCall
  commit_call : Cell → ℕ → ℕ → ℕ → ℕ → ℕ → KeeperCall
  list_call : Cell → List ℕ → KeeperCall
  touch_call : Cell → ℕ → ℕ → KeeperCall
  touches_call : Cell → ℕ → KeeperCall
  nearest_call : Cell → ℕ → ℕ → KeeperCall
  common_call : Cell → ℕ → ℕ → KeeperCall
  check_call : Cell → KeeperCall
  idle_call : Cell → KeeperCall
  ceiling_call : Cell → KeeperCall

-- it is refused with a number; a load and the reading of a text answer an offset too, the other calls none (0)
pub data Refuses : KeeperCall → ℕ → ℕ → Type 0 where
  load_refused : {t : Cell} {file : List ℕ} {number offset : ℕ} → (load_of t file).verdict ≡ Rejected number offset
      → Refuses (load_call t file) number offset
  read_refused : {t : Cell} {text : Text} {number offset : ℕ} → (read_of t text).verdict ≡ Rejected number offset
      → Refuses (read_call t text) number offset
  step_refused : {t : Cell} {agent wish number : ℕ} → (step_of t agent wish).answer ≡ Refused number → Refuses (step_call t agent wish) number 0
  ask_refused : {t : Cell} {agent wish number : ℕ} → ask_of t agent wish ≡ Unasked number → Refuses (ask_call t agent wish) number 0
  commit_refused : {t : Cell} {agent wish word woken place number : ℕ} → (commit_of t agent wish word woken place).answer ≡ Refused number
      → Refuses (commit_call t agent wish word woken place) number 0
  list_refused : {t : Cell} {buffer : List ℕ} {number : ℕ} → list_answer (cell_of t) buffer ≡ Unlisted number
      → Refuses (list_call t buffer) number 0
  touch_refused : {t : Cell} {place touches number : ℕ} → (touch_of t place touches).answer ≡ Untouched number
      → Refuses (touch_call t place touches) number 0
  touches_refused : {t : Cell} {place number : ℕ} → touches_of t place ≡ Untouched number → Refuses (touches_call t place) number 0
  nearest_refused : {t : Cell} {place name number : ℕ} → nearest_of t place name ≡ Unfound number → Refuses (nearest_call t place name) number 0
  common_refused : {t : Cell} {place other number : ℕ} → common_of t place other ≡ Unfound number → Refuses (common_call t place other) number 0
  check_refused : {t : Cell} {number : ℕ} → check_of t ≡ Unsound number → Refuses (check_call t) number 0
  idle_refused : {t : Cell} {number : ℕ} → idle_of t ≡ Unknown number → Refuses (idle_call t) number 0
  ceiling_refused : {t : Cell} {number : ℕ} → ceiling_of t ≡ Uncounted number → Refuses (ceiling_call t) number 0

-- ---- the numbers

-- the numbers of a load: 1 to 9, 13 and 14
abbrev pub of_file : ℕ → Bool
of_file number = (leb cut_short number && leb number after_end) || (eqb number parent_too_large || eqb number agent_too_large)

-- the numbers of a call on one place or on two: 10, 3 and 5
abbrev pub of_place : ℕ → Bool
of_place number = eqb number unsound_table || (eqb number place_too_large || eqb number not_yet_given)

-- the numbers of each call: "Calls on a table test 10 first, then 11 or 12"; a touch call's last is 15 (document 02, W3); the reading of a
-- text has 16 and 17 (W8); a commit's last is 18 (W9)
abbrev pub may_answer : KeeperCall → ℕ → Bool
may_answer (load_call t file) number = of_file number
may_answer (read_call t text) number = eqb number outside_language || eqb number too_many
may_answer (step_call t agent wish) number = eqb number unsound_table || eqb number no_such_agent
may_answer (ask_call t agent wish) number = eqb number unsound_table || eqb number no_such_agent
may_answer (commit_call t agent wish word woken place) number = eqb number unsound_table || (eqb number no_such_agent || eqb number answer_differs)
may_answer (list_call t buffer) number = eqb number unsound_table || eqb number too_long
may_answer (touch_call t place touches) number = of_place number || eqb number too_many_touches
may_answer (touches_call t place) number = of_place number
may_answer (nearest_call t place name) number = of_place number
may_answer (common_call t place other) number = of_place number
may_answer (check_call t) number = eqb number unsound_table
may_answer (idle_call t) number = eqb number unsound_table
may_answer (ceiling_call t) number = eqb number unsound_table

-- "Each is given exactly under its condition": 10 unsound table, 11 no such agent, 12 listing longer than the buffer; a load's numbers by the
-- fault that the file's bytes have
pub data Grounds : KeeperCall → ℕ → ℕ → Type 0 where
  in_the_file : {t : Cell} {file : List ℕ} {number offset : ℕ} → Fault file number offset → Grounds (load_call t file) number offset
  -- "16 for text outside the language at the first byte that no text of it could continue (the text's length if it stops early)": the text
  -- does not belong to the language, and just so many of its bytes begin some text of it
  read_16 : {t : Cell} {text : Text} {offset : ℕ} → (Belongs text → ⊥) → LongestViable text offset
      → Grounds (read_call t text) outside_language offset
  -- "then 17, at the text's length, for too many of anything": it is the text of a tree that does not fit
  read_17 : {t : Cell} {text : Text} (tree : Contents) → floor_typed tree ≡ text → fits tree ≡ false
      → Grounds (read_call t text) too_many (length text)
  step_10 : {t : Cell} {agent wish : ℕ} → sound (cell_of t) ≡ false → Grounds (step_call t agent wish) unsound_table 0
  step_11 : {t : Cell} {agent wish : ℕ} → sound (cell_of t) ≡ true → (cell_of t).given agent ≡ false → Grounds (step_call t agent wish) no_such_agent 0
  ask_10 : {t : Cell} {agent wish : ℕ} → sound (cell_of t) ≡ false → Grounds (ask_call t agent wish) unsound_table 0
  ask_11 : {t : Cell} {agent wish : ℕ} → sound (cell_of t) ≡ true → (cell_of t).given agent ≡ false → Grounds (ask_call t agent wish) no_such_agent 0
  -- "18 if the answer would differ, after 10 and 11": an ask tells no word of this number with this number woken and this place
  commit_10 : {t : Cell} {agent wish word woken place : ℕ} → sound (cell_of t) ≡ false
      → Grounds (commit_call t agent wish word woken place) unsound_table 0
  commit_11 : {t : Cell} {agent wish word woken place : ℕ} → sound (cell_of t) ≡ true → (cell_of t).given agent ≡ false
      → Grounds (commit_call t agent wish word woken place) no_such_agent 0
  commit_18 : {t : Cell} {agent wish word woken place : ℕ} → sound (cell_of t) ≡ true → (cell_of t).given agent ≡ true
      → ((w : Word) → word_number w ≡ word → ask_of t agent wish ≢ Would w woken place)
      → Grounds (commit_call t agent wish word woken place) answer_differs 0
  list_10 : {t : Cell} {buffer : List ℕ} → sound (cell_of t) ≡ false → Grounds (list_call t buffer) unsound_table 0
  list_12 : {t : Cell} {buffer : List ℕ} → sound (cell_of t) ≡ true → length buffer < length (listing (cell_of t))
      → Grounds (list_call t buffer) too_long 0
  -- "or 3 for a place above 63 and 5 for an unused one"; "15, last in a touch call", if that call would make the table unsound
  touch_10 : {t : Cell} {place touches : ℕ} → sound (cell_of t) ≡ false → Grounds (touch_call t place touches) unsound_table 0
  touch_3 : {t : Cell} {place touches : ℕ} → sound (cell_of t) ≡ true → 64 ≤ place → Grounds (touch_call t place touches) place_too_large 0
  touch_5 : {t : Cell} {place touches : ℕ} → sound (cell_of t) ≡ true → place < 64 → (cell_of t).land.used place ≡ false
      → Grounds (touch_call t place touches) not_yet_given 0
  touch_15 : {t : Cell} {place touches : ℕ} → sound (cell_of t) ≡ true → place < 64 → (cell_of t).land.used place ≡ true
      → most_touches < touch_sum (cell_of t) + touches → Grounds (touch_call t place touches) too_many_touches 0
  touches_10 : {t : Cell} {place : ℕ} → sound (cell_of t) ≡ false → Grounds (touches_call t place) unsound_table 0
  touches_3 : {t : Cell} {place : ℕ} → sound (cell_of t) ≡ true → 64 ≤ place → Grounds (touches_call t place) place_too_large 0
  touches_5 : {t : Cell} {place : ℕ} → sound (cell_of t) ≡ true → place < 64 → (cell_of t).land.used place ≡ false
      → Grounds (touches_call t place) not_yet_given 0
  -- "After 10, a place number above 63 is 3, then an unused one is 5" (document 02, W10): of two places, either
  nearest_10 : {t : Cell} {place name : ℕ} → sound (cell_of t) ≡ false → Grounds (nearest_call t place name) unsound_table 0
  nearest_3 : {t : Cell} {place name : ℕ} → sound (cell_of t) ≡ true → 64 ≤ place → Grounds (nearest_call t place name) place_too_large 0
  nearest_5 : {t : Cell} {place name : ℕ} → sound (cell_of t) ≡ true → place < 64 → (cell_of t).land.used place ≡ false
      → Grounds (nearest_call t place name) not_yet_given 0
  common_10 : {t : Cell} {place other : ℕ} → sound (cell_of t) ≡ false → Grounds (common_call t place other) unsound_table 0
  common_3 : {t : Cell} {place other : ℕ} → sound (cell_of t) ≡ true → (64 ≤ place) ⊎ (64 ≤ other) → Grounds (common_call t place other) place_too_large 0
  common_5 : {t : Cell} {place other : ℕ} → sound (cell_of t) ≡ true → place < 64 → other < 64
      → ((cell_of t).land.used place ≡ false) ⊎ ((cell_of t).land.used other ≡ false) → Grounds (common_call t place other) not_yet_given 0
  check_10 : {t : Cell} → sound (cell_of t) ≡ false → Grounds (check_call t) unsound_table 0
  idle_10 : {t : Cell} → sound (cell_of t) ≡ false → Grounds (idle_call t) unsound_table 0
  ceiling_10 : {t : Cell} → sound (cell_of t) ≡ false → Grounds (ceiling_call t) unsound_table 0

-- ---- what a host lends

-- the table, and the bytes: the file of a load, the text that is read, the buffer of a listing
pub record Lent : Type 0 where
  pub table : Cell
  pub bytes : List ℕ

-- what a host lends to a call
abbrev pub before : KeeperCall → Lent
before (load_call t file) = record { table = t; bytes = file }
before (read_call t text) = record { table = t; bytes = text }
before (step_call t agent wish) = record { table = t; bytes = [] }
before (ask_call t agent wish) = record { table = t; bytes = [] }
before (commit_call t agent wish word woken place) = record { table = t; bytes = [] }
before (list_call t buffer) = record { table = t; bytes = buffer }
before (touch_call t place touches) = record { table = t; bytes = [] }
before (touches_call t place) = record { table = t; bytes = [] }
before (nearest_call t place name) = record { table = t; bytes = [] }
before (common_call t place other) = record { table = t; bytes = [] }
before (check_call t) = record { table = t; bytes = [] }
before (idle_call t) = record { table = t; bytes = [] }
before (ceiling_call t) = record { table = t; bytes = [] }

-- and what it has of it afterwards; an ask changes nothing, nor does a question where a place is or for the ceiling
abbrev pub after : KeeperCall → Lent
after (load_call t file) = record { table = (load_of t file).cell; bytes = file }
after (read_call t text) = record { table = (read_of t text).cell; bytes = text }
after (step_call t agent wish) = record { table = (step_of t agent wish).cell; bytes = [] }
after (ask_call t agent wish) = record { table = t; bytes = [] }
after (commit_call t agent wish word woken place) = record { table = (commit_of t agent wish word woken place).cell; bytes = [] }
after (list_call t buffer) = record { table = t; bytes = list_buffer (cell_of t) buffer }
after (touch_call t place touches) = record { table = (touch_of t place touches).cell; bytes = [] }
after (touches_call t place) = record { table = t; bytes = [] }
after (nearest_call t place name) = record { table = t; bytes = [] }
after (common_call t place other) = record { table = t; bytes = [] }
after (check_call t) = record { table = t; bytes = [] }
after (idle_call t) = record { table = t; bytes = [] }
after (ceiling_call t) = record { table = t; bytes = [] }

-- ---- the claim

-- demand 1, of a call
pub record RefusedRightly (k : KeeperCall) : Type 0 where
  -- a call is refused only with one of its numbers
  pub only : (number offset : ℕ) → Refuses k number offset → may_answer k number ≡ true
  -- the offset lies within the file or the text: at its end where the end record is missing, where a text stops early, or with 17
  pub within : (number offset : ℕ) → Refuses k number offset → offset ≤ length (before k).bytes
  -- each number exactly under its condition
  pub exactly : (number offset : ℕ) → Refuses k number offset ↔ Grounds k number offset
  -- "A refused one leaves the cell that was there": a refusal changes nothing
  pub keeps : (number offset : ℕ) → Refuses k number offset → after k ≡ before k
