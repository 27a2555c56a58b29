-- The steps that move no place lower the rank: the agent that steps has fewer steps left, and the others as many as before.
-- Idea: what the others have left is told by their stages, by where places are linked and by what is on its way, and none of these changes.
use Rattle.std.specs.Prelude.{◌≡◌, refl, cond, ℕ, ◌≤◌, ◌<◌, eqb}
use Rattle.std.proofs.Common.{sym, subst, arith, eqb-true, le-leb}
use Rattle.std.proofs.Math.Path.{ap}
use Rattle.std.proofs.Math.Bool.{true}
use Rattle.std.proofs.Math.Nat.{le_refl}
use Rattle.sets.specs.Word.{bit}
use Rattle.table.specs.Base.{upd}
use Rattle.table.proofs.BaseLaws.{Told, yea, nay, told}
use Rattle.table.specs.Cell.{State, linked, next_action, kind_of, name_of, unused, exit_kind, open_kind, found, holding_both}
use Rattle.table.specs.declared.Agent.{Agent}
use Rattle.meaning.specs.Update.{at_stage, with_locks}
use Rattle.meaning.specs.Step.{choice, qualifies, stays, fires}
use Rattle.demands.specs.Reading.{parent_in, agent_in}
use Rattle.demands.proofs.ReadingLaws.{agent_turned}
use Rattle.demands.specs.Invariant.{Sound}
use Rattle.meaning.specs.Limit.{is_away, moves_of}
use Rattle.demands.proofs.Facts.{stays_of, stays_home, exits_fits}
use Rattle.demands.proofs.Choice.{choice_fits}
use Rattle.demands.specs.Ways.{goes_on}
use Rattle.ceiling.specs.Rank.{moves, steps_at, steps_left, steps}
use Rattle.ceiling.proofs.RankLaws.{sum_no_more, sum_fewer, Lower, settles}

module _ (c : State) (i : Sound c) (x : ℕ) (g : c.given x ≡ true) where
  -- the agent at another stage
  abbrev pub next : ℕ → ℕ → ℕ → Agent
  next stage remembered chosen = at_stage (c.agent x) stage remembered chosen

  -- the agent goes on from stage n, and some locks change
  pub settle : (n stage remembered chosen : ℕ) (lock : ℕ → ℕ) → (c.agent x).stage ≡ n → bit (is_away stage) ≤ bit (is_away n)
      → steps_at stage (stays c.land (next stage remembered chosen)) (fires c.land (next stage remembered chosen))
      < steps_at n (stays c.land (c.agent x)) (fires c.land (c.agent x))
      → Lower c (with_locks (goes_on c x stage remembered chosen) lock)
  unfolding moves steps steps_left agent_in unused
  settle n stage remembered chosen lock e w l = settles
      (sum_no_more c c' x g (agent_in c) new reads moves_of (λ y. le_refl _) (omega (arith, w, ap (λ (m : ℕ). bit (is_away m)) e)))
      (sum_fewer c c' x g (agent_in c) new reads (steps_left c.land) (λ y. le_refl _) (i.few x g)
      (subst (λ m. steps_left c.land new < steps_at m (stays c.land (c.agent x)) (fires c.land (c.agent x))) (sym e) l))
    where
      c' : State
      c' = with_locks (goes_on c x stage remembered chosen) lock

      new : Agent
      new = next stage remembered chosen

      reads : agent_in c' ≡ upd (agent_in c) x new
      reads = agent_turned c x new g

  -- ---- what the agent sees at its next stage

  -- an enter or exit that looked up stays, while its place is linked there
  pub looked_stays : linked c.land (c.agent x).home ≡ true → stays c.land (next found (parent_in c.land (c.agent x).home) 0) ≡ true
  looked_stays e = stays_of c.land (next found _ 0) (record { link = e; parent = refl })

  -- an agent that looks at its own place stays, whatever it remembers
  pub home_stays : open_kind ≤ kind_of (c.agent x) → (stage remembered chosen : ℕ) → stays c.land (next stage remembered chosen) ≡ true
  unfolding next_action
  home_stays k stage remembered chosen = stays_home c.land (next stage remembered chosen) (le-leb open_kind _ k)

  -- what was chosen fires
  pub chosen_fires : (wish q : ℕ) → choice c.land (c.agent x) wish ≡ q → q < 64
      → fires c.land (next holding_both (c.agent x).remembered (cond (eqb (kind_of (c.agent x)) exit_kind) 0 q)) ≡ true
  unfolding next_action fires
  chosen_fires wish q e s = go (told (eqb (kind_of (c.agent x)) exit_kind)) (choice_fits c.land (c.agent x) wish q e s)
    where
      go : Told (eqb (kind_of (c.agent x)) exit_kind) → qualifies c.land (kind_of (c.agent x)) (name_of (c.agent x)) (c.agent x).home (c.agent x).remembered q ≡ true
          → fires c.land (next holding_both (c.agent x).remembered (cond (eqb (kind_of (c.agent x)) exit_kind) 0 q)) ≡ true
      go (yea k) f = rw k (subst (λ r. qualifies c.land (kind_of (c.agent x)) (name_of (c.agent x)) (c.agent x).home (c.agent x).remembered r ≡ true)
          (exits_fits c.land _ _ _ _ q (eqb-true _ exit_kind k) f).0 f)
      go (nay k) f = rw k f
