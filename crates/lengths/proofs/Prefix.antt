-- A report is decided by the first 6,400 bytes of the cell file and the first 32,768 bytes of the order, which are its 16,384 pairs. Assumes nothing.
use Rattle.std.specs.Prelude.{◌≡◌, refl, List, [], ◌∷◌, ℕ, zero, suc, ◌*◌, ◌≤◌, take}
use Rattle.std.proofs.Common.{ap, ap₂, arith}
use Rattle.meaning.specs.Report.{Pair, calls_in, report_of, report}
use Rattle.lengths.specs.Longest.{deciding_bytes}
use Rattle.lengths.proofs.FileLength.{prefix}

-- whatever follows two bytes for each call, the calls are the same
pub calls_prefix : (limit b : ℕ) (order : List ℕ) → 2 * limit ≤ b → calls_in limit (take b order) ≡ calls_in limit order
unfolding calls_in
calls_prefix zero b order l = refl
calls_prefix (suc limit) zero order l = absurd (omega arith)
calls_prefix (suc limit) (suc zero) order l = absurd (omega arith)
calls_prefix (suc limit) (suc (suc b)) [] l = refl
calls_prefix (suc limit) (suc (suc b)) (agent ∷ []) l = refl
calls_prefix (suc limit) (suc (suc b)) (agent ∷ wish ∷ order) l =
    ap (λ (calls : List Pair). record { agent = agent; wish = wish } ∷ calls) (calls_prefix limit b order (omega arith))

-- whatever follows the first 6,400 bytes of the cell file and the first 32,768 of the order, the report is the same
pub report_prefix : (cell order : List ℕ) (b d : ℕ) → deciding_bytes ≤ b → 32768 ≤ d → report (take b cell) (take d order) ≡ report cell order
unfolding report
report_prefix cell order b d wide long = ap₂ report_of (prefix cell b wide) (calls_prefix 16384 d order (omega arith))
