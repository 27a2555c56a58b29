-- A row that a test parts: what a loop that writes each number to both parts has made.
use Rattle.std.specs.Prelude.{◌≡◌, ℕ, ◌-◌, ◌<◌, ◌≤◌, Bool, not, List, length, take}
use Rattle.order.specs.Row.{keep}
use Rattle.order.specs.declared.Parted.{Parted}

-- what a call may answer for each number is the test's answer
abbrev pub Decides : (ℕ → Bool → Type 0) → (ℕ → Bool) → Type 0
Decides answers f = (q : ℕ) (b : Bool) → q < 256 → answers q b → b ≡ f q

-- the numbers that do not pass stand at the front of the one row, those that pass at the front of the other
pub record IsParted (f : ℕ → Bool) (order : List ℕ) (p : Parted) : Type 0 where
  pub full : length p.others ≡ 64
  pub few : p.count ≤ 64
  pub rest : take p.count p.others ≡ keep (λ q. not (f q)) order
  pub those : take (64 - p.count) p.members ≡ keep f order
