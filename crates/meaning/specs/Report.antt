-- What program `walk` writes (document 01, "The listing"), from the bytes of the files `cell` and `order`.
use Rattle.std.specs.Prelude.{ℕ, zero, suc, List, [], ◌∷◌, ◌++◌, Ok, Err}
use Rattle.table.specs.Base.{tab}
use Rattle.table.specs.Cell.{State, cell_of, table_of}
use Rattle.table.specs.declared.Cell.{Cell}
use Rattle.meaning.specs.declared.Word.{Word}
use Rattle.meaning.specs.declared.Word.TheVariants.{Looked, Took, Held, Back, Slept, Left, Came, Opened, Put, Asleep, Done}
use Rattle.meaning.specs.Answers.{Answer}
use Rattle.meaning.specs.Text.{ascii, decimal}
use Rattle.meaning.specs.File.{Load, accepted, refused, load}
use Rattle.meaning.specs.Run.{step_of}
use Rattle.meaning.specs.Listing.{listing}

-- ---- lines: "Fields have one space between them and each line ends with byte 0A."

-- the words as they are written
unfoldable pub word_text : Word → List ℕ
unfolding tab
word_text Looked = ascii "looked"
word_text Took = ascii "took"
word_text Held = ascii "held"
word_text Back = ascii "back"
word_text Slept = ascii "slept"
word_text Left = ascii "left"
word_text Came = ascii "came"
word_text Opened = ascii "opened"
word_text Put = ascii "put"
word_text Asleep = ascii "asleep"
word_text Done = ascii "done"

-- "agent, answer, number woken"; "a refused step gives agent, `refused`, number"
unfoldable pub step_line : ℕ → Answer → List ℕ
unfolding word_text tab
step_line agent (Ok o) = ((((decimal agent ++ ascii " ") ++ word_text o.word) ++ ascii " ") ++ decimal o.woken) ++ ascii "\n"
step_line agent (Err number) = ((decimal agent ++ ascii " refused ") ++ decimal number) ++ ascii "\n"

-- "A refused file gives one line only, `refused`, number, offset"
unfoldable pub refused_line : ℕ → ℕ → List ℕ
unfolding tab
refused_line number offset = (((ascii "refused " ++ decimal number) ++ ascii " ") ++ decimal offset) ++ ascii "\n"

-- "first and last line a word and the listing"
unfoldable pub listing_line : List ℕ → State → List ℕ
unfolding tab
listing_line word c = ((word ++ ascii " ") ++ listing c) ++ ascii "\n"

-- ---- the report

-- a pair of the order: "agent, wish"
pub record Pair : Type 0 where
  pub agent : ℕ
  pub wish : ℕ

-- "pairs agent, wish; at most 16,384"; "An odd last byte and pairs past the limit are passed over": at most so many calls
unfoldable pub calls_in : ℕ → List ℕ → List Pair
calls_in zero order = []
calls_in (suc limit) [] = []
calls_in (suc limit) (agent ∷ []) = []
calls_in (suc limit) (agent ∷ wish ∷ order) = record { agent = agent; wish = wish } ∷ calls_in limit order

-- a line for the step call of each pair, then the last line
unfoldable pub report_run : Cell → List Pair → List ℕ
unfolding tab
report_run t [] = listing_line (ascii "end") (cell_of t)
report_run t (k ∷ calls) =
    step_line k.agent (step_of t k.agent k.wish).answer ++ report_run (step_of t k.agent k.wish).cell calls

-- the report of a load and the order's calls
unfoldable pub report_of : Load → List Pair → List ℕ
unfolding tab
report_of (accepted c) calls = listing_line (ascii "start") (cell_of (table_of c)) ++ report_run (table_of c) calls
report_of (refused number offset) calls = refused_line number offset

-- what walk writes
unfoldable pub report : List ℕ → List ℕ → List ℕ
report cell order = report_of (load cell) (calls_in 16384 order)
