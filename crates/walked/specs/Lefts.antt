-- What the touches leave of their bound (document 02, W3), where it is told apart whether they are within it.
use Rattle.std.specs.Prelude.{ℕ, ◌-◌, Bool, List, leb}
use Rattle.sets.specs.declared.Set.{Set}
use Rattle.table.specs.Sound.{most_touches}
use Rattle.soundness.specs.Left.{total_of}

-- whether the touches are within their bound, and how many may still come
pub record Left : Type 0 where
  pub fits : Bool
  pub room : ℕ

-- whether it is within its bound, and how many touches may still come: none where it is not
unfoldable pub left_of : List ℕ → Set → Left
left_of ts used = record { fits = leb (total_of ts used) most_touches; room = most_touches - total_of ts used }
