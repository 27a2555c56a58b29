-- Where every place is linked, an agent that is asleep or done has no move; and where all agents are at rest, every place is linked.
-- Idea: with nothing on its way, what the calculus permits is what would fire where the sleeper would look, and it sleeps because nothing
-- does; a release is permitted only with a number unused.
use Rattle.std.specs.Prelude.{◌≡◌, true, ℕ, ◌≤◌}
use Rattle.std.proofs.Common.{sym, ap, ◌∙◌, subst}
use native.Mathlib.Omega.{arith}
use Rattle.table.proofs.BaseLaws.{clash}
use Rattle.table.specs.Cell.{State, fresh_number, kind_of, name_of, open_kind}
use Rattle.table.proofs.FreshLaws.{none_fresh}
use Rattle.table.specs.declared.Action.{Action}
use Rattle.table.specs.declared.Agent.{Agent}
use Rattle.meaning.specs.Step.{qualifies}
use Rattle.meaning.specs.Calculus.{Tree, first_of, Move}
use Rattle.meaning.specs.Plain.{tree_of}
use Rattle.calculus.proofs.MoveCases.{MoveCase, move_case, release_only, case_kind}
use Rattle.demands.specs.Reading.{agent_in}
use Rattle.demands.proofs.ReadingLaws.{agent_given}
use Rattle.demands.specs.Invariant.{Ok, ok0, ok1, ok2, ok3_move, ok3_open, ok4, ok5, ok6, ok7, ok8, Sleeper, alone, stuck, full, Sound, Inv}
use Rattle.demands.specs.Whole.{Whole}
use Rattle.demands.proofs.Actions.{first_unused, kind_small}
use Rattle.demands.proofs.Stages.{fit_given, home_given}
use Rattle.demands.proofs.SameTree.{given_kind}
use Rattle.demands.proofs.Permitted.{none_whole, looks_same, move_given, off_floor, Target, target}

-- where all agents are asleep or done, every place is linked: a place on its way has an agent at stages 4 to 6
pub all_linked : (c : State) → Sound c → ((x : ℕ) → 7 ≤ (agent_in c x).stage) → Whole c
all_linked c i rest = none_whole c i (λ y t. omega (arith, rest y, t.to))

module _ (c : State) (i : Inv c) (whole : Whole c) (a : ℕ) (rest : 7 ≤ (agent_in c a).stage) where
  -- an agent at rest with an action left sleeps for a reason
  reason : 1 ≤ kind_of (agent_in c a) → Sleeper c.land (agent_in c a)
  reason k = go (i.sound.ok a)
    where
      go : Ok c.land c.lock a (agent_in c a) → Sleeper c.land (agent_in c a)
      go (ok0 s _) = absurd (omega arith)
      go (ok1 s _) = absurd (omega arith)
      go (ok2 s _ _) = absurd (omega arith)
      go (ok3_move s _ _ _ _ _ _) = absurd (omega arith)
      go (ok3_open s _ _ _ _ _) = absurd (omega arith)
      go (ok4 s _) = absurd (omega arith)
      go (ok5 s _ _) = absurd (omega arith)
      go (ok6 s _ _ _) = absurd (omega arith)
      go (ok7 s _ _) = i.sleep a s
      go (ok8 s e) = absurd (omega (arith, subst (λ (x : Action). 1 ≤ x.kind) (sym (first_unused (agent_in c a) (i.sound.fit a)) ∙ ap first_of e) k))

  -- the calculus permits the agent nothing
  pub no_move : (u : Tree) → Move (tree_of c) a u → ⊥
  no_move u v = go (subst (Sleeper c.land) (agent_given c a g) (reason (subst (λ (x : Agent). 1 ≤ kind_of x) (sym (agent_given c a g)) some)))
    where
      m : MoveCase (tree_of c) a u
      m = move_case v

      g : c.given a ≡ true
      g = move_given c m

      b : Agent
      b = c.agent a

      some : 1 ≤ kind_of b
      some = subst (λ (k : ℕ). 1 ≤ k) (given_kind c a g (i.sound.fit a)) (case_kind m)

      fires : kind_of b ≤ open_kind → Target c i.sound a g whole u
      fires k = target c i.sound a g whole k m

      go : Sleeper c.land b → ⊥
      go (alone k _ o) = clash (whole b.home (home_given c i.sound a g) (off_floor c i.sound a g m k)) o
      go (full k _ all) =
          let r = (release_only m (given_kind c a g (i.sound.fit a) ∙ k)).0 in
          let n : 64 ≤ fresh_number (tree_of c).used = unfold tree_of in none_fresh c.land.used all in omega arith
      go (stuck k o s f) = clash
          (subst (λ (p : ℕ). qualifies c.land (kind_of b) (name_of b) b.home p (fires k).place ≡ true)
          (sym (looks_same c.land b (kind_small b (fit_given c i.sound a g)) o s)) (fires k).fits) (f (fires k).place)
