-- A load is refused with one of its numbers and at an offset within the file.
-- Idea: both are read off the fault for which it is refused.
use Rattle.std.specs.Prelude.{◌≡◌, refl, Bool, true, ◌&&◌, List, [], ◌∷◌, ℕ, ◌≤◌, length}
use Rattle.std.proofs.Common.{le_refl, arith}
use Rattle.table.proofs.BaseLaws.{and_left, and_right}
use Rattle.demands.specs.FileFaults.{Test, test, Decides, it_holds, a_later_one, Fault, in_a_record, no_end, after_the_end}
use Rattle.demands.proofs.FileFaultLaws.{reached_within}
use Rattle.demands.specs.Refusals.{of_file}

-- every number of a row of tests is one of a load
unfoldable all_of_file : List Test → Bool
all_of_file [] = true
all_of_file (test number holds ∷ rest) = of_file number && all_of_file rest

-- and so is the one that decides
decides_of_file : {row : List Test} {number : ℕ} → all_of_file row ≡ true → Decides row number → of_file number ≡ true
unfolding all_of_file
decides_of_file a (it_holds {number} {holds} {rest} e) = and_left (of_file number) (all_of_file rest) a
decides_of_file a (a_later_one {number} {other} {holds} {rest} e d) = decides_of_file (and_right (of_file other) (all_of_file rest) a) d

-- a fault has one of a load's numbers
pub fault_number : {s : List ℕ} {number offset : ℕ} → Fault s number offset → of_file number ≡ true
unfolding all_of_file
fault_number (in_a_record r l d) = decides_of_file refl d
fault_number (no_end l r) = refl
fault_number (after_the_end r k l) = refl

-- and lies within the file, a missing end at its length
pub fault_within : {s : List ℕ} {number offset : ℕ} → Fault s number offset → offset ≤ length s
fault_within {s} (in_a_record r l d) = reached_within s r
fault_within {s} (no_end l r) = le_refl (length s)
fault_within (after_the_end r k l) = omega arith
