-- The kinds of an action, one case for each, and which of them look at the agent's own place. Assumes nothing.
use Rattle.std.specs.Prelude.{◌≡◌, refl, true, false, ℕ, zero, suc, ◌≤◌}
use Rattle.std.proofs.Common.{arith, leb-true, leb-false, le-leb}
use Rattle.std.proofs.lemmas.Bool.{lt-leb}
use Rattle.table.specs.Cell.{enter_kind, exit_kind, open_kind, release_kind, last_kind, looks_home}

-- the kinds of document 01, and release of document 02, W11, each by its number
pub data IsKind : ℕ → Type 0 where
  enters : IsKind enter_kind
  exits : IsKind exit_kind
  opens : IsKind open_kind
  releases : IsKind release_kind

-- a number in range is one of them: the only law that tells them apart by the form of the number
pub is_kind : (kind : ℕ) → 1 ≤ kind → kind ≤ last_kind → IsKind kind
is_kind zero a b = absurd (omega arith)
is_kind (suc zero) a b = enters
is_kind (suc (suc zero)) a b = exits
is_kind (suc (suc (suc zero))) a b = opens
is_kind (suc (suc (suc (suc zero)))) a b = releases
is_kind (suc (suc (suc (suc (suc k))))) a b = absurd (omega arith)

-- the same with an equation for each
pub data Kind (kind : ℕ) : Type 0 where
  is_enter : kind ≡ enter_kind → Kind kind
  is_exit : kind ≡ exit_kind → Kind kind
  is_open : kind ≡ open_kind → Kind kind
  is_release : kind ≡ release_kind → Kind kind

by_equation : {kind : ℕ} → IsKind kind → Kind kind
by_equation enters = is_enter refl
by_equation exits = is_exit refl
by_equation opens = is_open refl
by_equation releases = is_release refl

pub kind_is : (kind : ℕ) → 1 ≤ kind → kind ≤ last_kind → Kind kind
kind_is kind a b = by_equation (is_kind kind a b)

-- what looks at its own place comes from open on, what looks at the place around it before: the test and the order, both ways
pub home_kind : (kind : ℕ) → looks_home kind ≡ true → open_kind ≤ kind
home_kind kind e = leb-true open_kind kind e

pub around_kind : (kind : ℕ) → kind ≤ last_kind → looks_home kind ≡ false → kind ≤ exit_kind
around_kind kind l e = let n = leb-false open_kind kind e in omega arith

pub kind_home : (kind : ℕ) → open_kind ≤ kind → kind ≤ last_kind → looks_home kind ≡ true
kind_home kind k l = le-leb open_kind kind k

pub kind_around : (kind : ℕ) → kind ≤ exit_kind → looks_home kind ≡ false
kind_around kind k = lt-leb open_kind kind (omega arith)
