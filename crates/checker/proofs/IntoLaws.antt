-- The own place of an agent goes into another: two stores into the table, of one place's parent and one agent's count of used actions, make a table whose
-- tree is that after an enter or an exit.
-- Idea: the tree reads of a place its name and its parent, and of an agent its home and its unused actions; one value of these is changed in each row.
use Rattle.std.specs.Prelude.{◌≡◌, Bool, true, ℕ, ◌%◌, ◌<◌}
use Rattle.std.proofs.Math.Path.{refl, sym, ap, subst, fun_ext}
use Rattle.std.proofs.Common.{◌∙◌}
use Rattle.std.proofs.Math.Bool.{cond}
use mathlib.Core.List.{[]}
use native.Mathlib.Omega.{arith}
use Rattle.std.proofs.Math.ListN.{get_or, set}
use Rattle.table.specs.Base.{upd}
use Rattle.table.proofs.BaseLaws.{upd_same, upd_other, upd_all, set_list}
use Rattle.table.specs.Cell.{State, cell_of, table_of, no_place, no_agent, unused}
use Rattle.table.proofs.CellLaws.{made, locks_are, used_are, given_are, touches_are, is_given, agent_set}
use Rattle.table.specs.declared.Agent.{Agent}
use Rattle.table.specs.declared.Cell.{Cell}
use Rattle.meaning.specs.Calculus.{Tree, rest_of, put_into}
use Rattle.meaning.specs.Plain.{tree_of}
use Rattle.meaning.specs.Update.{with_parent, use_up, with_places, with_land, with_agent}
use Rattle.demands.proofs.Actions.{rest_unused}
use Rattle.demands.proofs.ReadingLaws.{read_name, read_parent, written, upd_self}
use Rattle.demands.proofs.SameTree.{given_home}
use Rattle.checker.specs.OnTable.{agent_at, went_into, Ready}

module _ (t : Cell) (r : Ready t) (x : ℕ) (g : (cell_of t).given x ≡ true) where
  abbrev c : State
  c = cell_of t

  abbrev own : Agent
  own = c.agent x

  abbrev tree : Tree
  tree = tree_of c

  -- its home, which is in use
  pub home_is : tree.home x ≡ own.home
  home_is = given_home c x g

  pub home_used : c.land.used own.home ≡ true
  unfolding tree_of
  home_used = subst (λ (h : ℕ). c.land.used h ≡ true) home_is (r.formed.homes x)

  -- an agent that is given is below 64
  pub few : (y : ℕ) → c.given y ≡ true → y < 64
  unfolding cell_of
  few = is_given t r.sized

  -- the agent is read at its own number
  pub agent_read : own ≡ agent_at t x
  unfolding cell_of
  agent_read = let l = few x g in let e : x ≡ x % 64 = omega arith in ap (λ (k : ℕ). get_or t.agents k no_agent) e

  -- the cell in which the own place of agent x stands in d and the next action is used up
  abbrev pub sent : ℕ → State
  sent d = with_agent (with_land c (with_places c.land (upd c.land.place own.home (with_parent (c.land.place own.home) d)))) x (use_up own)

  -- what is read of it: names, parents, homes and unused actions
  sent_names : (d : ℕ) → (tree_of (sent d)).name ≡ tree.name
  unfolding tree_of
  sent_names d = written read_name c.land c.land.used own.home _ (λ q n. refl) ∙ upd_self tree.name own.home _ refl

  sent_parents : (d : ℕ) → (tree_of (sent d)).parent ≡ upd tree.parent (tree.home x) d
  unfolding tree_of
  sent_parents d = written read_parent c.land c.land.used own.home _ (λ q n. refl)
      ∙ ap (λ (u : Bool). upd tree.parent own.home (cond u d 0)) home_used ∙ ap (λ (h : ℕ). upd tree.parent h d) (sym home_is)

  sent_homes : (d : ℕ) → (tree_of (sent d)).home ≡ tree.home
  unfolding tree_of
  sent_homes d = fun_ext (upd_all c.agent x (use_up own) (λ y a. cond (c.given y) a.home 0 ≡ tree.home y) refl (λ y _. refl))

  spent_row : cond (c.given x) (unused (use_up own)) [] ≡ rest_of (tree.unused x)
  unfolding tree_of
  spent_row = rw g (rest_unused own)

  sent_rows : (d : ℕ) → (tree_of (sent d)).unused ≡ upd tree.unused x (rest_of (tree.unused x))
  unfolding tree_of
  sent_rows d = fun_ext (upd_all c.agent x (use_up own) (λ y a. cond (c.given y) (unused a) [] ≡ upd tree.unused x (rest_of (tree.unused x)) y)
      (spent_row ∙ sym (upd_same tree.unused x (rest_of (tree.unused x)))) (λ y n. sym (upd_other tree.unused x y (rest_of (tree.unused x)) n)))

  -- its tree
  pub sent_tree : (d : ℕ) → tree_of (sent d) ≡ put_into tree x d
  unfolding tree_of put_into
  sent_tree d = λ i. record { used = c.land.used; name = sent_names d i; parent = sent_parents d i; home = sent_homes d i; unused = sent_rows d i }

  -- two stores into the table make it
  pub sent_table : (d : ℕ) → went_into t x own d ≡ table_of (sent d)
  unfolding cell_of
  sent_table d =
      let s = r.sized in
      let h : own.home < 64 = r.formed.small own.home (unfold tree_of in home_used) in
      let l : x < 64 = few x g in
      let i : own.home % 64 ≡ own.home = omega arith in
      let j : x % 64 ≡ x = omega arith in
      made (went_into t x own d) (sent d)
      (ap (λ (k : ℕ). set t.places k (with_parent (get_or t.places k no_place) d)) i ∙ set_list no_place t.places 64 own.home _ s.places h)
      (locks_are t s) (ap (λ (k : ℕ). set t.agents k (use_up own)) j ∙ agent_set t s x (use_up own) l) (used_are t s) (given_are t s) (touches_are t s) refl
