-- What program `walk` writes for a typed layout (document 02, W8: "Engineers type layouts by hand"): the report of the cell that is read; or
-- the line of the refusal, the text, and a caret under the byte where it goes wrong.
use Rattle.std.specs.Prelude.{ℕ, ◌-◌, ◌&&◌, cond, List, ◌++◌, map, leb, eqb, length, get_or, take, drop, replicate}
use Rattle.table.specs.Base.{tab}
use Rattle.meaning.specs.Text.{ascii}
use Rattle.meaning.specs.File.{Load, accepted, refused}
use Rattle.meaning.specs.Report.{Pair, refused_line, calls_in, report_of}
use Rattle.language.specs.Grammar.{Text}
use Rattle.language.specs.Read.{read_text}

-- ---- the line that a file holds: the language itself has no end of a line

-- how many bytes of a file are its line: all but the end that an editor writes after a line, a last byte 10, and a byte 13 before that
unfoldable pub line_length : List ℕ → ℕ
line_length file =
    cond (eqb (get_or file (length file - 1) 0) 10)
    (cond (eqb (get_or file (length file - 2) 0) 13) (length file - 2) (length file - 1))
    (length file)

-- the text that a file holds
unfoldable pub line_of : List ℕ → Text
line_of file = take (line_length file) file

-- ---- a text that is refused, as it is shown

-- so many bytes of a text are shown at most
abbrev pub most_shown : ℕ
most_shown = 72

-- a longer text is shown from so many bytes before the offset on
abbrev pub shown_before : ℕ
shown_before = 40

-- a byte as it is shown: one that does not print, and no text of the language has, as `?`
unfoldable pub shown : ℕ → ℕ
shown b = cond (leb 32 b && leb b 126) b 63

-- the first byte that is shown of a text of this length
unfoldable pub shown_from : ℕ → ℕ → ℕ
shown_from size offset = cond (leb size most_shown) 0 (offset - shown_before)

-- the bytes that are shown
unfoldable pub window : Text → ℕ → Text
window line offset = take most_shown (drop (shown_from (length line) offset) line)

-- the caret's line: the caret stands under the byte at the offset, after a blank for each byte before it
unfoldable pub caret_line : ℕ → List ℕ
unfolding tab
caret_line before = replicate before 32 ++ ascii "^\n"

-- the text in a line of its own, and the caret's line under it
unfoldable pub pointed : Text → ℕ → List ℕ
unfolding tab
pointed line offset = (map shown (window line offset) ++ ascii "\n") ++ caret_line (offset - shown_from (length line) offset)

-- ---- the report

-- of what a text gives and the order's calls: as of a file, and after the line of a refusal the text with its caret
unfoldable pub typed_of : Text → Load → List Pair → List ℕ
typed_of line (accepted c) calls = report_of (accepted c) calls
typed_of line (refused number offset) calls = refused_line number offset ++ pointed line offset

-- what walk writes for the bytes of a file with a typed layout and of the file `order`
unfoldable pub typed_report : List ℕ → List ℕ → List ℕ
typed_report file order = typed_of (line_of file) (read_text (line_of file)) (calls_in 16384 order)
