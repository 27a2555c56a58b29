-- A claim on every member of a list. Assumes nothing.
use Rattle.std.specs.Prelude.{List, ◌++◌, ℕ, zero, suc, ◌<◌, length, get_or}
use Rattle.std.proofs.Common.{arith}
use Rattle.meaning.specs.Every.{Every, every_none, every_more}

module _ {A : Type 0} {P : A → Type 0} where
  -- of the members of two lists
  pub every_append : {l m : List A} → Every P l → Every P m → Every P (l ++ m)
  every_append every_none b = b
  every_append (every_more p a) b = every_more p (every_append a b)

  -- of the member at a position
  pub every_at : {l : List A} (d : A) → Every P l → (j : ℕ) → j < length l → P (get_or l j d)
  every_at d every_none j h = absurd (omega arith)
  every_at d (every_more p e) zero h = p
  every_at d (every_more p e) (suc j) h = every_at d e j (omega arith)

-- what follows from it
pub every_so : {A : Type 0} {P Q : A → Type 0} {l : List A} → ((x : A) → P x → Q x) → Every P l → Every Q l
every_so f every_none = every_none
every_so f (every_more {x} p e) = every_more (f x p) (every_so f e)
