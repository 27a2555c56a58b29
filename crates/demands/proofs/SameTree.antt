-- What the tree of a cell reads of its agents: the home and the next action of each, as the cell reads them, and what a move then makes.
-- By whether the agent is given; one that is not reads as an agent of the floor without actions.
use Rattle.std.specs.Prelude.{◌≡◌, Bool, ℕ}
use Rattle.std.proofs.Math.Path.{refl, ap}
use Rattle.std.proofs.Common.{◌∙◌}
use Rattle.std.proofs.Math.Bool.{true, false, cond}
use Rattle.table.specs.Base.{tab}
use Rattle.table.specs.Cell.{State, fresh_agent, next_action, kind_of, name_of, row_end, unused, enter_kind, exit_kind, open_kind, release_kind}
use Rattle.table.specs.declared.Agent.{Agent}
use Rattle.meaning.specs.Calculus.{first_of, next_of, put_into, open_up, put_out, move}
use Rattle.meaning.specs.Plain.{tree_of}
use Rattle.demands.specs.Reading.{parent_in, agent_in}
use Rattle.demands.proofs.ReadingLaws.{agent_given}
use Rattle.demands.specs.Invariant.{Fit}
use Rattle.demands.proofs.Actions.{first_unused}

module _ (c : State) (x : ℕ) where
  -- what is read of an agent is read of the given one, or of one that is done
  either_read : {A : Type 0} (read : Agent → A) → cond (c.given x) (read (c.agent x)) (read fresh_agent) ≡ read (agent_in c x)
  unfolding agent_in
  either_read read = go (c.given x)
    where
      go : (b : Bool) → cond b (read (c.agent x)) (read fresh_agent) ≡ read (cond b (c.agent x) fresh_agent)
      go true = refl
      go false = refl

  -- the tree has the homes and the unused actions that are read of the agents
  pub tree_home : (tree_of c).home x ≡ (agent_in c x).home
  unfolding tree_of
  tree_home = either_read (λ a. a.home)

  pub tree_unused : (tree_of c).unused x ≡ unused (agent_in c x)
  unfolding tree_of unused row_end tab
  tree_unused = either_read unused

-- and of an agent that is given, as it is
module _ (c : State) (x : ℕ) (g : c.given x ≡ true) where
  -- its home
  pub given_home : (tree_of c).home x ≡ (c.agent x).home
  given_home = tree_home c x ∙ ap (λ a. a.home) (agent_given c x g)

  -- where its place stands, and where that stands
  pub given_around : (tree_of c).parent ((tree_of c).home x) ≡ parent_in c.land (c.agent x).home
  unfolding tree_of parent_in
  given_around = ap (parent_in c.land) given_home

  pub given_beyond : (p : ℕ) → parent_in c.land (c.agent x).home ≡ p
      → (tree_of c).parent ((tree_of c).parent ((tree_of c).home x)) ≡ parent_in c.land p
  unfolding tree_of parent_in
  given_beyond p e = ap (parent_in c.land) (given_around ∙ e)

module _ (c : State) (x : ℕ) (g : c.given x ≡ true) (fit : Fit (agent_in c x)) where
  -- its next action, with kind and name
  pub given_next : next_of (tree_of c) x ≡ next_action (c.agent x)
  given_next = ap first_of (tree_unused c x) ∙ first_unused (agent_in c x) fit ∙ ap next_action (agent_given c x g)

  pub given_kind : (next_of (tree_of c) x).kind ≡ kind_of (c.agent x)
  given_kind = ap (λ a. a.kind) given_next

  pub given_name : (next_of (tree_of c) x).name ≡ name_of (c.agent x)
  given_name = ap (λ a. a.name) given_next

  -- the tree that its move on m makes, by the kind of its action
  pub move_enter : (m : ℕ) → kind_of (c.agent x) ≡ enter_kind → move (tree_of c) x m ≡ put_into (tree_of c) x m
  unfolding move
  move_enter m k = rw (given_kind ∙ k)

  pub move_exit : (m : ℕ) → kind_of (c.agent x) ≡ exit_kind
      → move (tree_of c) x m ≡ put_into (tree_of c) x ((tree_of c).parent ((tree_of c).parent ((tree_of c).home x)))
  unfolding move
  move_exit m k = rw (given_kind ∙ k)

  pub move_open : (m : ℕ) → kind_of (c.agent x) ≡ open_kind → move (tree_of c) x m ≡ open_up (tree_of c) x m
  unfolding move
  move_open m k = rw (given_kind ∙ k)

  pub move_release : (m : ℕ) → kind_of (c.agent x) ≡ release_kind → move (tree_of c) x m ≡ put_out (tree_of c) x m
  unfolding move
  move_release m k = rw (given_kind ∙ k)
