-- A cell whose numbers in use and given are below 64 keeps its tree as a table, and its given agents.
-- Idea: the tree reads a place where it is in use and an agent where it is given, and there the table holds them.
use Rattle.std.specs.Prelude.{◌≡◌, Bool, true, false, cond, ℕ, ◌≤◌, ◌<◌}
use Rattle.std.proofs.Common.{ap, arith}
use Rattle.std.proofs.Math.Path.{fun_ext}
use mathlib.Core.List.{List, []}
use Rattle.table.proofs.BaseLaws.{Told, yea, nay, told, get_d_tab}
use Rattle.table.specs.Cell.{State, cell_of, table_of, no_name, no_place, no_agent, unused}
use Rattle.table.proofs.CellLaws.{word_forth}
use Rattle.table.specs.declared.Action.{Action}
use Rattle.table.specs.declared.Agent.{Agent}
use Rattle.table.specs.declared.Name.{Name}
use Rattle.table.specs.declared.Place.{Place}
use Rattle.meaning.specs.Plain.{tree_of}

-- a test that no number from 64 on passes
fails_past : (f : ℕ → Bool) → ((j : ℕ) → f j ≡ true → j < 64) → (j : ℕ) → 64 ≤ j → f j ≡ false
fails_past f h j l = go (told (f j))
  where
    go : Told (f j) → f j ≡ false
    go (yea e) = absurd (omega (arith, h j e))
    go (nay e) = e

module _ (d : State) (small : (q : ℕ) → d.land.used q ≡ true → q < 64) (few : (x : ℕ) → d.given x ≡ true → x < 64) where
  abbrev back : State
  back = cell_of (table_of d)

  used_back : back.land.used ≡ d.land.used
  unfolding cell_of table_of
  used_back = word_forth d.land.used (fails_past d.land.used small)

  given_back : back.given ≡ d.given
  unfolding cell_of table_of
  given_back = word_forth d.given (fails_past d.given few)

  place_back : (q : ℕ) → d.land.used q ≡ true → back.land.place q ≡ d.land.place q
  unfolding cell_of table_of
  place_back q u = get_d_tab d.land.place 64 q no_place (small q u)

  pub agent_back : (x : ℕ) → d.given x ≡ true → back.agent x ≡ d.agent x
  unfolding cell_of table_of
  agent_back x g = get_d_tab d.agent 64 x no_agent (few x g)

  -- what is read of a place in use, and of an agent that is given
  reads_place : {A : Type 0} (read : Place → A) (other : A) (q : ℕ)
      → cond (back.land.used q) (read (back.land.place q)) other ≡ cond (d.land.used q) (read (d.land.place q)) other
  reads_place read other q = go (told (d.land.used q))
    where
      go : Told (d.land.used q) → cond (back.land.used q) (read (back.land.place q)) other ≡ cond (d.land.used q) (read (d.land.place q)) other
      go (yea u) = rw (ap (λ (f : ℕ → Bool). f q) used_back, u, place_back q u)
      go (nay u) = rw (ap (λ (f : ℕ → Bool). f q) used_back, u)

  reads_agent : {A : Type 0} (read : Agent → A) (other : A) (x : ℕ)
      → cond (back.given x) (read (back.agent x)) other ≡ cond (d.given x) (read (d.agent x)) other
  reads_agent read other x = go (told (d.given x))
    where
      go : Told (d.given x) → cond (back.given x) (read (back.agent x)) other ≡ cond (d.given x) (read (d.agent x)) other
      go (yea g) = rw (ap (λ (f : ℕ → Bool). f x) given_back, g, agent_back x g)
      go (nay g) = rw (ap (λ (f : ℕ → Bool). f x) given_back, g)

  -- the tree is the same
  pub tree_back : tree_of back ≡ tree_of d
  unfolding tree_of
  tree_back = λ i. record {
    used = used_back i;
    name = fun_ext (reads_place {A = Name} (λ p. p.name) no_name) i;
    parent = fun_ext (reads_place {A = ℕ} (λ p. p.parent) 0) i;
    home = fun_ext (reads_agent {A = ℕ} (λ a. a.home) 0) i;
    unused = fun_ext (reads_agent {A = List Action} unused []) i;
  }

  -- an agent that is given in the table is given in the cell
  pub given_there : (x : ℕ) → back.given x ≡ true → d.given x ≡ true
  given_there x g = rw (ap (λ (f : ℕ → Bool). f x) given_back) at g
