-- From what a writer promises to the whole text, and from the bytes that were read to the files.
use Rattle.std.specs.Prelude.{◌≡◌, refl, List, [], ◌∷◌, ◌++◌, ℕ, zero, suc, ◌+◌, ◌≤◌, ltb, drop}
use Rattle.std.proofs.Math.Path.{sym, ap}
use Rattle.std.proofs.Common.{ap₂, ◌∙◌, not-suc-le-zero, le_of_suc-le-suc, arith, lit<, length-append}
use Rattle.std.proofs.Math.ListN.{length, take}
use Rattle.std.proofs.Math.Seq.{take_all, take-append_seam}
use borrow.Author.Tests.{ltb-true, ltb-false}
use Rattle.table.proofs.BaseLaws.{Told, yea, nay, told}
use Rattle.meaning.specs.Text.{overlay}
use Rattle.meaning.specs.Report.{report}
use Rattle.text.specs.Wrote.{Wrote, least}
use Rattle.text.proofs.TextLaws.{capped_low}
use Rattle.lengths.specs.Longest.{deciding_bytes, longest_report}
use Rattle.lengths.proofs.ReportLength.{report_longest}
use Rattle.lengths.proofs.Prefix.{report_prefix}
use Rattle.buffers.specs.Held.{Bytes, Holds, Whole}

-- n elements, or all where there are fewer
pub taken : (i n : ℕ) (s : List ℕ) → i ≡ least n (length s) → take i s ≡ take n s
unfolding least
taken i n s e = go (told (ltb n (length s)))
  where
    go : Told (ltb n (length s)) → take i s ≡ take n s
    go (yea q) = let r : i ≡ n = e ∙ rw q in ap (λ (k : ℕ). take k s) r
    go (nay q) = let r : i ≡ length s = e ∙ rw q in take_all i s (omega arith) ∙ sym (take_all n s (ltb-false n (length s) q))

-- the bytes that were read are the file's first, as many as the buffer has room for
pub held_start : (file buffer : List ℕ) (n : ℕ) → Holds file buffer n → take n buffer ≡ take (length buffer) file
held_start file buffer n h = h.bytes ∙ go (told (ltb (length file) (length buffer)))
  where
    go : Told (ltb (length file) (length buffer)) → take n file ≡ take (length buffer) file
    go (yea e) = let q : n ≡ length file = h.count ∙ unfold least in rw e in
        take_all n file (omega arith) ∙ sym (take_all (length buffer) file (omega (arith, ltb-true (length file) (length buffer) e)))
    go (nay e) = let q : n ≡ length buffer = h.count ∙ unfold least in rw e in ap (λ (k : ℕ). take k file) q

-- the first of some bytes are bytes
pub bytes_taken : (s : List ℕ) (m : ℕ) → Bytes s → Bytes (take m s)
bytes_taken s zero b j = lit< tt
bytes_taken [] (suc m) b j = lit< tt
bytes_taken (x ∷ s) (suc m) b zero = b zero
bytes_taken (x ∷ s) (suc m) b (suc j) = bytes_taken s m (λ k. b (suc k)) j

-- a text that fits is written whole, and what follows is as it was
over_fits : (t b : List ℕ) → length t ≤ length b → overlay t b ≡ t ++ drop (length t) b
unfolding overlay
over_fits [] b l = refl
over_fits (x ∷ t) [] l = absurd (not-suc-le-zero l)
over_fits (x ∷ t) (y ∷ b) l = ap (λ (s : List ℕ). x ∷ s) (over_fits t b (le_of_suc-le-suc l))

-- so the whole text stands at the buffer's start
pub wrote_whole : {text before after : List ℕ} {answer : ℕ} → length text ≤ length before → length text ≤ 18446744073709551615
    → Wrote text 0 before after answer → Whole text before after answer
wrote_whole {text} {before} {after} {answer} fits low w = record {
  count = count;
  bytes = w.text ∙ over_fits text before fits ∙ ap (λ (k : ℕ). text ++ drop k before) (sym count);
}
  where
    count : answer ≡ length text
    count = w.count ∙ capped_low (0 + length text) (omega arith) ∙ omega arith

-- with room for the longest report a text that is not longer is written whole
pub fitting_whole : {text before after : List ℕ} {answer : ℕ} → length text ≤ longest_report → longest_report ≤ length before
    → Wrote text 0 before after answer → Whole text before after answer
fitting_whole short room w = wrote_whole (omega arith) (omega arith) w

-- what stands whole at a buffer's start is what is found there
pub whole_start : {text before after : List ℕ} {answer : ℕ} → Whole text before after answer → take answer after ≡ text
whole_start {text} {before} {after} {answer} w = ap₂ take w.count w.bytes ∙ take-append_seam text (drop answer before)

-- so the report of what was read is
pub read_whole : (cell order before after : List ℕ) (n m answer : ℕ) → Bytes order → longest_report ≤ length before
    → Wrote (report (take n cell) (take m order)) 0 before after answer → Whole (report (take n cell) (take m order)) before after answer
read_whole cell order before after n m answer bytes room w =
    fitting_whole (report_longest (take n cell) (take m order) (bytes_taken order m bytes)) room w

-- and it is the report of every cell file and every order of which the buffers hold the first bytes
pub files_whole : (cell order before after : List ℕ) (n m answer : ℕ) → deciding_bytes ≤ length cell → 32768 ≤ length order
    → Whole (report (take n cell) (take m order)) before after answer
    → (file pairs : List ℕ) → Holds file cell n → Holds pairs order m → take answer after ≡ report file pairs
files_whole cell order before after n m answer wide long w file pairs h k =
    whole_start w ∙ ap₂ report (held_start file cell n h) (held_start pairs order m k) ∙ report_prefix file pairs (length cell) (length order) wide long

-- the answer counts bytes of the buffer
pub whole_within : (text before after : List ℕ) (answer : ℕ) → Whole text before after answer → answer ≤ length after
whole_within text before after answer w = omega (arith, w.count, ap length w.bytes ∙ length-append text (drop answer before))
