-- A finding on a trail of bytes in a buffer can be told, its line fits, and the first 6,400 bytes of the cell file decide it. Assumes nothing.
use Rattle.std.specs.Prelude.{◌≡◌, refl, Bool, true, false, cond, List, ◌++◌, ℕ, ◌*◌, ◌≤◌, eqb, length, take}
use Rattle.std.proofs.Common.{ap, ap₂, ◌∙◌, arith, length-append}
use Rattle.table.specs.Base.{tab}
use Rattle.meaning.specs.Text.{ascii, decimal}
use Rattle.meaning.specs.File.{Load}
use Rattle.text.specs.Wrote.{Wrote, least}
use Rattle.lengths.specs.Longest.{deciding_bytes}
use Rattle.lengths.proofs.Parts.{digits_most}
use Rattle.lengths.proofs.FileLength.{prefix}
use Rattle.lengths.proofs.ReportLength.{refused_length}
use Rattle.trail.specs.declared.Finding.{Finding}
use Rattle.trail.specs.declared.Finding.TheVariants.{Upheld, Denied, BadFile}
use Rattle.trail.specs.Trail.{not_permitted, no_action_left, odd_byte, finding_of, finding}
use Rattle.trail.specs.Findings.{StopsFrom, by_odd_byte, by_move}
use Rattle.trail.proofs.FindingsLaws.{upheld_exactly}
use Rattle.trail.specs.AuditLine.{reason_text, move_number, audit_line}
use Rattle.buffers.specs.Held.{Holds, Whole}
use Rattle.buffers.proofs.HeldLaws.{taken, held_start, wrote_whole, whole_start}
use Rattle.auditing.specs.Counted.{Counted, longest_line}

-- ---- how many moves a finding tells

-- a denial tells no more moves than the trail has
stops_within : {file trail text : List ℕ} {moves reason : ℕ} → StopsFrom file trail text moves reason → moves * 2 ≤ length trail
stops_within (by_odd_byte c e o) = omega arith
stops_within (by_move c e o s) = omega (arith, s.count, length-append s.made s.rest, ap length s.whole)

-- so the finding on a trail that is not longer than a number of 64 bits can be told
pub counted : (file trail text : List ℕ) → length trail ≤ 18446744073709551615 → Counted (finding file trail text)
counted file trail text l = go (finding file trail text) refl
  where
    go : (f : Finding) → finding file trail text ≡ f → Counted f
    go Upheld e = tt
    go (Denied moves reason) e = omega (arith, stops_within (((upheld_exactly file trail text).denied moves reason).0 e))
    go (BadFile number offset) e = tt

-- ---- how long its line is

reason_length : (reason : ℕ) → length (reason_text reason) ≤ 14
unfolding reason_text tab
reason_length reason = go (eqb reason not_permitted) (eqb reason no_action_left) (eqb reason odd_byte)
  where
    go : (a b c : Bool) → length (cond a (ascii "not permitted") (cond b (ascii "no action left") (cond c (ascii "odd last byte") (ascii "other layout")))) ≤ 14
    go true b c = omega arith
    go false true c = omega arith
    go false false true = omega arith
    go false false false = omega arith

pub line_longest : (f : Finding) → length (audit_line f) ≤ longest_line
unfolding audit_line tab
line_longest Upheld = omega arith
line_longest (Denied moves reason) = omega (
  arith,
  digits_most 20 (move_number moves reason),
  reason_length reason,
  length-append (ascii "no ") (decimal (move_number moves reason)),
  length-append (ascii " ") (reason_text reason),
  length-append (ascii " " ++ reason_text reason) (ascii "\n"),
  length-append (ascii "no " ++ decimal (move_number moves reason)) ((ascii " " ++ reason_text reason) ++ ascii "\n"),
)
line_longest (BadFile number offset) = refused_length number offset

-- with room for the longest line it is written whole
pub line_whole : (f : Finding) (before after : List ℕ) (answer : ℕ) → longest_line ≤ length before → Wrote (audit_line f) 0 before after answer
    → Whole (audit_line f) before after answer
line_whole f before after answer room w = wrote_whole (omega (arith, line_longest f)) (omega (arith, line_longest f)) w

-- ---- what was read of the files

-- the parts of the buffers that are lent on are the bytes that were read
pub found_taken : (cell trail text : List ℕ) (n m k : ℕ) {i j h : ℕ} → i ≡ least n (length cell) → j ≡ least m (length trail) → h ≡ least k (length text)
    → finding (take i cell) (take j trail) (take h text) ≡ finding (take n cell) (take m trail) (take k text)
found_taken cell trail text n m k {i} {j} {h} p q r =
    ap₂ (λ (s t : List ℕ). finding s t (take h text)) (taken i n cell p) (taken j m trail q) ∙ ap (finding (take n cell) (take m trail)) (taken h k text r)

-- whatever follows the first 6,400 bytes of the cell file, the finding is the same
pub finding_prefix : (file trail text : List ℕ) (b : ℕ) → deciding_bytes ≤ b → finding (take b file) trail text ≡ finding file trail text
unfolding finding
finding_prefix file trail text b wide = ap (λ (l : Load). finding_of l trail text) (prefix file b wide)

-- and the line is that of every cell file of which the buffer holds the first bytes
pub files_found : (cell trail text before after : List ℕ) (n answer : ℕ) → deciding_bytes ≤ length cell
    → Whole (audit_line (finding (take n cell) trail text)) before after answer
    → (file : List ℕ) → Holds file cell n → take answer after ≡ audit_line (finding file trail text)
files_found cell trail text before after n answer wide w file h =
    whole_start w ∙ ap (λ (s : List ℕ). audit_line (finding s trail text)) (held_start file cell n h)
    ∙ ap audit_line (finding_prefix file trail text (length cell) wide)
