-- A claim on every member of a list. Assumes nothing.
use Rattle.std.specs.Prelude.{List, [], ◌∷◌}

-- P is so of every member
pub data Every {A : Type 0} (P : A → Type 0) : List A → Type 0 where
  every_none : Every P []
  every_more : {x : A} {rest : List A} → P x → Every P rest → Every P (x ∷ rest)
