-- Numbers by the bits of one word: the smallest unused one, and a row with one that is too large. Assumes nothing.
use Rattle.std.specs.Prelude.{◌&&◌, List, ◌≡◌, refl, Bool, true, false, ℕ, ◌^◌, ◌<◌}
use Rattle.std.proofs.Common.{sym, ap, ◌∙◌, lit<}
use Rattle.std.proofs.Math.Bool.{not, xor}
use Rattle.std.specs.Int.Bits.{bit_xor}
use Rattle.std.proofs.lemmas.Nat.{xor_lt}
use Rattle.std.specs.Int.Count.{count_trailing_zeros}
use Rattle.sets.specs.Word.{has}
use Rattle.sets.proofs.WordLaws.{has_xor, lowest_ext, trailing_has}
use Rattle.order.proofs.RowLawsGather.{all_bits, all_has}
use Rattle.table.specs.Cell.{fresh_number}
use Rattle.order.specs.Row.{all_small, row_fits, has_all}

-- by the word of the numbers in use: it is as many as the zeros below the lowest one of the word of all the others
pub fresh_word : (w : ℕ) → w < 2 ^ 64 → count_trailing_zeros 64 (bit_xor w all_bits) ≡ fresh_number (has w)
unfolding fresh_number xor
fresh_word w h =
    trailing_has 64 (bit_xor w all_bits) (xor_lt 64 w all_bits h (lit< tt))
    ∙ lowest_ext 64 _ _ (λ q l. has_xor w all_bits q ∙ ap (λ (b : Bool). xor b (has w q)) (all_has q l) ∙ other (has w q))
  where
    other : (b : Bool) → xor true b ≡ not b
    other true = refl
    other false = refl

-- a number that is too large is in no such row
pub large_none : (order : List ℕ) → all_small order ≡ false → false ≡ row_fits order
unfolding row_fits
large_none order e = sym (ap (λ (b : Bool). b && has_all 64 order) e)
