-- A tree as a sound cell keeps it: a floor, every place leads to it, every home is in use, every unused action is in range.
use Rattle.std.specs.Prelude.{◌≡◌, List, [], ◌∷◌, true, ℕ, ◌≤◌, ◌<◌}
use Rattle.table.specs.Cell.{no_name, last_kind}
use Rattle.table.specs.declared.Action.{Action}
use Rattle.meaning.specs.Calculus.{Tree}
use Rattle.calculus.specs.Up.{Up}

-- a row of actions, each of a kind 1 to 4 and a name that is not 0
pub data Good : List Action → Type 0 where
  none : Good []
  more : {x : Action} {rest : List Action} → 1 ≤ x.kind → x.kind ≤ last_kind → 1 ≤ x.name → Good rest → Good (x ∷ rest)

-- what a sound cell says of its tree (document 01, "A table is sound when")
pub record Formed (t : Tree) : Type 0 where
  -- "Place 0 is the floor: name 0, no parent"; of its keys, "the floor's are 0" (document 02, W6)
  pub floor_parent : t.parent 0 ≡ 0
  pub floor_name : t.name 0 ≡ no_name
  pub floor_used : t.used 0 ≡ true
  -- "following parents or destinations leads each place to the floor"
  pub tree : (q : ℕ) → Up t.parent q
  -- "every parent, destination, home .. is in use"; only places 0 to 63 are
  pub parent_used : (q : ℕ) → t.used (t.parent q) ≡ true
  pub small : (q : ℕ) → t.used q ≡ true → q < 64
  pub homes : (x : ℕ) → t.used (t.home x) ≡ true
  -- "names, actions .. are in range"; only agents 0 to 63 have actions
  pub good : (x : ℕ) → Good (t.unused x)
  pub few : (x : ℕ) → 64 ≤ x → t.unused x ≡ []
