-- An agent that is not given reads as one that is done, so an agent at any other stage is given.
-- By cases on whether it is given.
use Rattle.std.specs.Prelude.{◌≡◌, ◌≢◌, true, false, ℕ}
use Rattle.std.proofs.Common.{sym, ap, subst}
use Rattle.table.proofs.BaseLaws.{Told, yea, nay, told}
use Rattle.table.specs.Cell.{State, fresh_agent}
use Rattle.table.specs.declared.Agent.{Agent}
use Rattle.demands.specs.Reading.{agent_in}
use Rattle.demands.proofs.ReadingLaws.{agent_given}

module _ (c : State) where
  -- an agent that is not given reads as one that is done
  pub agent_fresh : (x : ℕ) → c.given x ≡ false → agent_in c x ≡ fresh_agent
  unfolding agent_in
  agent_fresh x e = rw e

  -- what holds of the agents that are given, and of one that is not, holds of every agent as it is read
  pub agent_all : (P : ℕ → Agent → Type 0) → ((x : ℕ) → c.given x ≡ true → P x (c.agent x)) → ((x : ℕ) → P x fresh_agent)
      → (x : ℕ) → P x (agent_in c x)
  agent_all P h f x = go (told (c.given x))
    where
      go : Told (c.given x) → P x (agent_in c x)
      go (yea g) = subst (P x) (sym (agent_given c x g)) (h x g)
      go (nay e) = subst (P x) (sym (agent_fresh x e)) (f x)

  -- an agent at another stage than 8 is given
  pub stage_given : (x : ℕ) → (agent_in c x).stage ≢ 8 → c.given x ≡ true
  stage_given x n = go (told (c.given x))
    where
      go : Told (c.given x) → c.given x ≡ true
      go (yea e) = e
      go (nay e) = absurd (n (ap (λ (a : Agent). a.stage) (agent_fresh x e)))
