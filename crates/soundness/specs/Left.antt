-- What the touches leave of their bound (document 02, W3).
use Rattle.std.specs.Prelude.{ℕ, ◌-◌, cond, List, leb, get_or, Option, None, Some}
use Rattle.sets.specs.Set.{member}
use Rattle.sets.specs.declared.Set.{Set}
use Rattle.table.specs.Base.{sum_below}
use Rattle.table.specs.Sound.{most_touches}

-- "The sum over places in use"
abbrev pub total_of : List ℕ → Set → ℕ
total_of ts used = sum_below (λ q. cond (member used q) (get_or ts q 0) 0) 64

-- how many touches may still come, where it is within its bound
unfoldable pub left_of : List ℕ → Set → Option ℕ
left_of ts used = cond (leb (total_of ts used) most_touches) (Some (most_touches - total_of ts used)) None
