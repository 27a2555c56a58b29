-- A typed report is not longer than the longest report, and the order's first 32,768 bytes decide it. Assumes nothing.
use Rattle.std.specs.Prelude.{◌≡◌, cond, List, ◌++◌, map, ℕ, ◌-◌, ◌≤◌, leb, length, take, drop, replicate}
use Rattle.std.proofs.Common.{ap, ◌∙◌, le_refl, arith, length-append, length-take, leb-true}
use Rattle.std.proofs.lemmas.List.{length-map, length-replicate}
use Rattle.table.specs.Base.{tab}
use Rattle.table.proofs.BaseLaws.{Told, yea, nay, told}
use Rattle.meaning.specs.Text.{ascii}
use Rattle.meaning.specs.File.{Load, accepted, refused}
use Rattle.meaning.specs.Report.{refused_line, calls_in}
use Rattle.language.specs.Grammar.{Text}
use Rattle.language.specs.Read.{read_text}
use Rattle.language.proofs.Answers.{Answers, says_too_many, outside, answers}
use Rattle.language.specs.TypedReport.{line_of, most_shown, shown_before, shown, shown_from, window, caret_line, pointed, typed_of, typed_report}
use Rattle.text.specs.Wrote.{Wrote}
use Rattle.lengths.specs.Longest.{longest_report}
use Rattle.lengths.proofs.ReportLength.{refused_length, load_longest}
use Rattle.lengths.proofs.Prefix.{calls_prefix}
use Rattle.buffers.specs.Held.{Bytes, Holds, Whole}
use Rattle.buffers.proofs.HeldLaws.{held_start, bytes_taken, fitting_whole, whole_start}

-- ---- the two lines of a refused text are short

take_most : (n : ℕ) (s : List ℕ) → length (take n s) ≤ n
take_most n s = omega (arith, length-take n s)

-- the caret stands at most 72 bytes in
caret_within : (size offset : ℕ) → offset ≤ size → offset - shown_from size offset ≤ most_shown
unfolding shown_from
caret_within size offset l = go (told (leb size most_shown))
  where
    go : Told (leb size most_shown) → offset - cond (leb size most_shown) 0 (offset - shown_before) ≤ most_shown
    go (yea t) = rw t (omega (arith, leb-true size most_shown t))
    go (nay t) = rw t (omega arith)

-- the text's line has 73 bytes at most, and the caret's 74
pub pointed_length : (line : Text) (offset : ℕ) → offset ≤ length line → length (pointed line offset) ≤ 147
unfolding pointed caret_line window tab
pointed_length line offset l = omega (
  arith,
  take_most most_shown (drop (shown_from (length line) offset) line),
  caret_within (length line) offset l,
  length-map (take most_shown (drop (shown_from (length line) offset) line)) shown,
  length-append (map shown (take most_shown (drop (shown_from (length line) offset) line))) (ascii "\n"),
  length-replicate {A = ℕ} (offset - shown_from (length line) offset) 32,
  length-append (replicate {A = ℕ} (offset - shown_from (length line) offset) 32) (ascii "^\n"),
  length-append (map shown (take most_shown (drop (shown_from (length line) offset) line)) ++ ascii "\n")
      (replicate {A = ℕ} (offset - shown_from (length line) offset) 32 ++ ascii "^\n"),
)

-- ---- the report

-- what a text answers decides; a refusal's offset is not past the text
answer_longest : (line : Text) (l : Load) → Answers line l → (order : List ℕ) → Bytes order → length (typed_of line l (calls_in 16384 order)) ≤ longest_report
unfolding typed_of
answer_longest line (accepted c) a order bytes = load_longest (accepted c) order bytes
answer_longest line (refused number offset) a order bytes =
    omega (arith, length-append (refused_line number offset) (pointed line offset), refused_length number offset, pointed_length line offset (within a))
  where
    within : {n i : ℕ} → Answers line (refused n i) → i ≤ length line
    within (says_too_many c e t) = le_refl (length line)
    within (outside i n v) = v.within

-- the typed report of an order of bytes, on every file
pub typed_longest : (file order : List ℕ) → Bytes order → length (typed_report file order) ≤ longest_report
unfolding typed_report
typed_longest file order bytes = answer_longest (line_of file) (read_text (line_of file)) (answers (line_of file)) order bytes

-- whatever follows the first 32,768 bytes of the order, the typed report is the same
pub typed_prefix : (file order : List ℕ) (d : ℕ) → 32768 ≤ d → typed_report file (take d order) ≡ typed_report file order
unfolding typed_report
typed_prefix file order d long = ap (typed_of (line_of file) (read_text (line_of file))) (calls_prefix 16384 d order (omega arith))

-- ---- the buffers

-- with room for the longest report the typed report of what was read is written whole
pub typed_whole : (file order before after : List ℕ) (n m answer : ℕ) → Bytes order → longest_report ≤ length before
    → Wrote (typed_report (take n file) (take m order)) 0 before after answer → Whole (typed_report (take n file) (take m order)) before after answer
typed_whole file order before after n m answer bytes room w = fitting_whole (typed_longest (take n file) (take m order) (bytes_taken order m bytes)) room w

-- and it is that of every order of which the buffer holds the first bytes
pub typed_orders : (file order before after : List ℕ) (n m answer : ℕ) → 32768 ≤ length order
    → Whole (typed_report (take n file) (take m order)) before after answer
    → (pairs : List ℕ) → Holds pairs order m → take answer after ≡ typed_report (take n file) pairs
typed_orders file order before after n m answer long w pairs k =
    whole_start w ∙ ap (typed_report (take n file)) (held_start pairs order m k) ∙ typed_prefix (take n file) pairs (length order) long
