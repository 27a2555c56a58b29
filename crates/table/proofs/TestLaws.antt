-- A walk over a set that tests each member. Assumes nothing.
-- Idea: where the test holds of what is no member, all members below a number pass just where all numbers below it do.
use Rattle.std.specs.Prelude.{◌≡◌, Bool, true, false, ◌&&◌, ℕ, ◌+◌, ◌<◌, None, Some}
use Rattle.std.proofs.Common.{sym, ap, ◌∙◌, subst}
use Rattle.sets.specs.Set.{removed}
use Rattle.sets.proofs.WalkLaws.{rest_end, rest_lt, rest_from, rest_skip, rest_more, Turn, turn_of}
use Rattle.sets.specs.Walk.{Rest, lowest_in, TakesLowest}
use Rattle.sets.specs.declared.Set.{Set}
use Rattle.table.specs.Base.{all_below}
use Rattle.table.proofs.BaseLaws.{all_none, all_more, all_rest, all_no}

-- what is left are the members of g from i on, and all below i pass
pub record Tested (g P : ℕ → Bool) (rest : Set) : Type 0 where
  pub i : ℕ
  pub left : Rest g i rest
  pub fit : all_below P i ≡ true

abbrev pub tested_start : (g P : ℕ → Bool) (s : Set) → Rest g 0 s → Tested g P s
tested_start g P s r = record { i = 0; left = r; fit = sym (all_none P) }

module _ (g P : ℕ → Bool) (skip : (j : ℕ) → g j ≡ false → P j ≡ true) {rest : Set} (t : Tested g P rest) where
  -- where nothing is left, all pass
  pub tested_end : rest.bits ≡ 0 → all_below P 64 ≡ true
  tested_end e = sym (all_rest P t.i 64 t.left.end (λ j h l. skip j (rest_end t.left e j h l))) ∙ t.fit

  module _ (k : 0 < rest.bits) where
    -- the lowest that is left fails: not all pass
    pub tested_stop : P (lowest_in rest) ≡ false → all_below P 64 ≡ false
    tested_stop e = all_no P 64 (lowest_in rest) (rest_lt t.left k) e

    -- it passes, and is taken out
    abbrev pub tested_more : P (lowest_in rest) ≡ true → Tested g P (removed rest (lowest_in rest))
    tested_more e = record {
      i = lowest_in rest + 1;
      left = rest_more t.left k;
      fit = sym (all_more P true (lowest_in rest) (sym so_far)) ∙ ap (λ (b : Bool). b && true) e;
    }
      where
        so_far : all_below P (lowest_in rest) ≡ true
        so_far = sym (all_rest P t.i (lowest_in rest) (rest_from t.left k) (λ j h l. skip j (rest_skip t.left k j h l))) ∙ t.fit

  -- a turn of a `for` over the set, which takes j: where j fails not all pass, where it passes the walk goes on; at the end all pass
  module _ {j : ℕ} {left : Set} (step : TakesLowest rest (Some j) left) where
    turn : Turn rest j left
    turn = turn_of t.left.small step

    pub tested_fail : P j ≡ false → all_below P 64 ≡ false
    tested_fail e = tested_stop turn.some (ap P (sym turn.lowest) ∙ e)

    pub tested_pass : P j ≡ true → Tested g P left
    tested_pass e = subst (Tested g P) (sym turn.left) (tested_more turn.some (ap P (sym turn.lowest) ∙ e))

  pub tested_none : {left : Set} → TakesLowest rest None left → all_below P 64 ≡ true
  tested_none step = tested_end step.0
