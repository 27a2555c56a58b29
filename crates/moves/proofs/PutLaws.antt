-- A place put under a number that is unused. Assumes nothing.
-- Idea: the set of the places in use is their test, changed at that number.
use Rattle.std.specs.Prelude.{◌≡◌, refl, ℕ, Bool, true, false, cond, ◌||◌, ◌==◌}
use Rattle.std.proofs.Common.{◌∙◌}
use Rattle.sets.specs.Set.{member, inserted}
use Rattle.sets.proofs.SetLaws.{member_inserted}
use Rattle.sets.proofs.WordLaws.{word_ext}
use Rattle.sets.specs.Word.{word_of}
use Rattle.table.specs.Base.{upd}
use Rattle.table.specs.declared.Cell.{Cell}

-- a number inserted is one that the test is changed at
pub inserted_test : (t : Cell) (q : ℕ) → word_of 64 (member (inserted t.used q)) ≡ word_of 64 (upd (member t.used) q true)
unfolding upd
inserted_test t q = word_ext 64 _ _ (λ j l. member_inserted t.used q j l ∙ either (j == q) (member t.used j))
  where
    either : (a b : Bool) → (a || b) ≡ cond a true b
    either true b = refl
    either false b = refl
