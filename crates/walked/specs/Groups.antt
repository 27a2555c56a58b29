-- For each number the members of a set whose key it is, as a word.
use Rattle.std.specs.Prelude.{◌&&◌, cond, List, ℕ, eqb, ltb, get_or, set}
use Rattle.sets.specs.Word.{word_of}
use Rattle.sets.specs.Set.{member, inserted}
use Rattle.sets.specs.declared.Set.{Set}
use Rattle.table.specs.Base.{tab}

-- for each number below 64, the word of the members whose key it is
unfoldable pub grouped_of : Set → List ℕ → List ℕ
grouped_of s keys = tab (λ p. word_of 64 (λ x. member s x && eqb (get_or keys x 0) p)) 64 0

-- words with x put into that of p; a p that is not below 64 has none
unfoldable pub filed : List ℕ → ℕ → ℕ → List ℕ
filed words p x = cond (ltb p 64) (set words p (inserted (record { bits = get_or words p 0 }) x).bits) words
