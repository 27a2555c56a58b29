-- The smallest unused number: it is unused and every smaller one is in use; where there is none every number is. Assumes nothing.
use Rattle.std.specs.Prelude.{◌≡◌, refl, Bool, true, false, ℕ, ◌-◌, ◌%◌, ◌^◌, ◌≤◌, ◌<◌, ltb}
use Rattle.std.proofs.Common.{ap, ◌∙◌, arith, lit<}
use Rattle.std.proofs.Math.Bool.{not, xor}
use borrow.Author.Tests.{not-true, ltb-true, ltb-false}
use Rattle.std.specs.Int.Bits.{bit_xor, xor_add_and}
use Rattle.std.proofs.lemmas.Nat.{xor_lt, and_mask}
use Rattle.std.specs.Int.Count.{count_trailing_zeros}
use Rattle.sets.specs.Word.{has}
use Rattle.sets.proofs.WordLaws.{has_xor, lowest_ext, lowest_le, trailing_has}
use Rattle.order.proofs.RowLawsGather.{all_bits, all_has}
use Rattle.sets.proofs.WalkLaws.{lowest_below, lowest_found}
use Rattle.table.proofs.BaseLaws.{Told, yea, nay, told, clash}
use Rattle.table.specs.Cell.{fresh_number}

not_false : (b : Bool) → not b ≡ false → b ≡ true
not_false true e = refl
not_false false e = clash refl e

module _ (used : ℕ → Bool) where
  -- it is 64 at most
  pub fresh_most : fresh_number used ≤ 64
  unfolding fresh_number
  fresh_most = lowest_le 64 (λ q. not (used q))

  -- it is unused
  pub fresh_unused : fresh_number used < 64 → used (fresh_number used) ≡ false
  unfolding fresh_number
  fresh_unused l = not-true (used (fresh_number used)) (lowest_found 64 (λ q. not (used q)) l)

  -- every smaller one is in use
  pub fresh_least : (q : ℕ) → q < fresh_number used → used q ≡ true
  unfolding fresh_number
  fresh_least q l = not_false (used q) (lowest_below 64 (λ r. not (used r)) q l)

  -- where there is none, every number is in use
  pub fresh_none : 64 ≤ fresh_number used → (q : ℕ) → q < 64 → used q ≡ true
  fresh_none l q s = fresh_least q (omega arith)

  -- and where every number is in use there is none
  pub none_fresh : ((q : ℕ) → q < 64 → used q ≡ true) → 64 ≤ fresh_number used
  none_fresh all = go (told (ltb (fresh_number used) 64))
    where
      go : Told (ltb (fresh_number used) 64) → 64 ≤ fresh_number used
      go (yea e) = let l = ltb-true (fresh_number used) 64 e in clash (all (fresh_number used) l) (fresh_unused l)
      go (nay e) = ltb-false (fresh_number used) 64 e

-- the word of all the others
others : (w : ℕ) → w < 2 ^ 64 → all_bits - w ≡ bit_xor w all_bits
others w h = let m : w % 2 ^ 64 ≡ w = omega arith in omega (arith, xor_add_and w all_bits, and_mask w 64 ∙ m)

-- by the word of the numbers in use: it is as many as the zeros below the lowest one of the word of all the others
pub fresh_word : (w : ℕ) → w < 2 ^ 64 → count_trailing_zeros 64 (all_bits - w) ≡ fresh_number (has w)
unfolding fresh_number xor
fresh_word w h =
    ap (count_trailing_zeros 64) (others w h)
    ∙ trailing_has 64 (bit_xor w all_bits) (xor_lt 64 w all_bits h (lit< tt))
    ∙ lowest_ext 64 _ _ (λ q l. has_xor w all_bits q ∙ ap (λ (b : Bool). xor b (has w q)) (all_has q l) ∙ other (has w q))
  where
    other : (b : Bool) → xor true b ≡ not b
    other true = refl
    other false = refl
