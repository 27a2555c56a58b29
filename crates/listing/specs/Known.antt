-- The listing call where it is told whether the table is sound: `list_answer` and `list_buffer` are the cases where it was told the truth.
use Rattle.std.specs.Prelude.{Bool, cond, List, ℕ, leb, length}
use Rattle.table.specs.Cell.{State}
use Rattle.meaning.specs.Refusals.{unsound_table, too_long}
use Rattle.meaning.specs.Text.{overlay}
use Rattle.meaning.specs.Listing.{listing}
use Rattle.meaning.specs.Answers.{Listed, Length, Unlisted}

-- refused by 10, then by 12, else the length
unfoldable pub known_answer : Bool → State → List ℕ → Listed
known_answer known c buffer =
    cond known (cond (leb (length (listing c)) (length buffer)) (Length (length (listing c))) (Unlisted too_long)) (Unlisted unsound_table)

-- a refusal leaves the whole buffer
unfoldable pub known_buffer : Bool → State → List ℕ → List ℕ
known_buffer known c buffer = cond known (cond (leb (length (listing c)) (length buffer)) (overlay (listing c) buffer) buffer) buffer
