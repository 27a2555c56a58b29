-- Leaving, opening, putting and coming lower the rank: the agent that steps has fewer moves before it, and no other agent has more.
-- Idea: leaving uses up an action and puts the agent on its way, opening and putting use one up, coming ends a way; others are as they were or at
-- stage 0 or 8, with the same actions.
use Rattle.std.specs.Prelude.{◌≡◌, ◌⊎◌, Bool, true, false, cond, ℕ, ◌+◌, ◌-◌, ◌≤◌, ◌<◌, length}
use Rattle.std.proofs.Common.{ap, inl, inr, le_refl, arith, ltb-true}
use Rattle.sets.specs.Word.{bit}
use Rattle.table.specs.Base.{upd}
use Rattle.table.proofs.BaseLaws.{length_tab}
use Rattle.table.specs.Cell.{Land, State, kind_of, row_end, unused, open_kind, holding, holding_both, on_way, on_way_both}
use Rattle.table.specs.declared.Agent.{Agent}
use Rattle.meaning.specs.Update.{at_stage, use_up, with_land, with_locks, with_agents, with_touches}
use Rattle.meaning.specs.Step.{rest_stage, wake, put, leave, dissolve, arrive}
use Rattle.meaning.specs.Limit.{is_away, moves_of}
use Rattle.demands.specs.Reading.{agent_in}
use Rattle.demands.proofs.ReadingLaws.{wake_agent, agent_woken, agent_dissolved}
use Rattle.demands.specs.Invariant.{Fit, Sound}
use Rattle.demands.proofs.Actions.{end_past, has_some}
use Rattle.demands.proofs.Stages.{SameOrReset, rest_stage_lem, ok_at, ok_given, fit_given, both_open}
use Rattle.demands.proofs.Frame.{roused_reset, roused_unused, rouses}
use Rattle.demands.proofs.OpeningPlaces.{linked_not_floor}
use Rattle.demands.proofs.OpeningAgents.{dissolved, dissolved_reset, unused_same}
use Rattle.ceiling.specs.Rank.{moves}
use Rattle.ceiling.proofs.RankLaws.{sum_fewer, Lower, spends}

-- ---- other agents

-- an agent that is as it was or at stage 0 or 8, with the same actions, has no more moves before it
reset_moves : (a b : Agent) → SameOrReset a b → unused b ≡ unused a → moves_of b ≤ moves_of a
reset_moves a b (inl e) u = rw e (le_refl _)
reset_moves a b (inr (inl s)) u = omega (arith, ap length u, ap (λ (m : ℕ). bit (is_away m)) s)
reset_moves a b (inr (inr s)) u = omega (arith, ap length u, ap (λ (m : ℕ). bit (is_away m)) s)

-- so when sleepers are woken
woken_moves : (p q r : ℕ) (a : Agent) → moves_of (wake_agent p q r a) ≤ moves_of a
woken_moves p q r a = reset_moves a _ (roused_reset (rouses p q r a)) (roused_unused (rouses p q r a))

-- ---- the agent that steps

-- how many actions it has left
left : (a : Agent) → length (unused a) ≡ row_end a.count - a.next
unfolding unused
left a = length_tab _ (row_end a.count - a.next) a.next

-- it is on one way at most
one_way : (b : Bool) → bit b ≤ 1
one_way true = omega arith
one_way false = omega arith

-- it uses up an action, and goes to a stage
used_up : (a : Agent) (stage : ℕ) → Fit a → 1 ≤ kind_of a → moves_of (at_stage (use_up a) stage 0 0) < moves_of a
used_up a stage f k =
    let e = has_some a k in
    let l = ltb-true a.next a.count e in
    omega (
      arith,
      left a,
      left (at_stage (use_up a) stage 0 0),
      one_way (is_away stage),
      end_past a.count a.next l (omega (arith, f.few)),
      ap (λ (b : Bool). cond b (a.next + 1) a.next) e,
    )

-- its place has come
has_come : (a : Agent) → a.stage ≡ on_way_both → moves_of (at_stage a (rest_stage a) 0 0) < moves_of a
unfolding unused
has_come a s = go (rest_stage_lem a)
  where
    go : (rest_stage a ≡ 0) ⊎ (rest_stage a ≡ 8) → moves_of (at_stage a (rest_stage a) 0 0) < moves_of a
    go (inl e) = omega (arith, ap (λ (m : ℕ). bit (is_away m)) s, ap (λ (m : ℕ). bit (is_away m)) e)
    go (inr e) = omega (arith, ap (λ (m : ℕ). bit (is_away m)) s, ap (λ (m : ℕ). bit (is_away m)) e)

module _ (c : State) (i : Sound c) (x : ℕ) (g : c.given x ≡ true) where
  -- fewer moves before it, and no more before the others
  spend : {c' : State} (woke : ℕ → Agent) (new : Agent) → agent_in c' ≡ upd woke x new → ((y : ℕ) → moves_of (woke y) ≤ moves_of (agent_in c y))
      → moves_of new < moves_of (c.agent x) → Lower c c'
  unfolding moves
  spend {c'} woke new reads others l = spends (sum_fewer c c' x g woke new reads moves_of others (i.few x g) l)

  -- so where sleepers are woken, whatever becomes of locks, places and touches
  woken_spends : (p q r : ℕ) (new : Agent) (lock : ℕ → ℕ) (l : Land) (touches : ℕ → ℕ) → moves_of new < moves_of (c.agent x)
      → Lower c (with_touches (with_land (with_locks (with_agents c (upd (wake c p q r) x new)) lock) l) touches)
  unfolding agent_in
  woken_spends p q r new lock l touches = spend _ new (agent_woken c p q r x new g) (λ y. woken_moves p q r (agent_in c y))

  -- the agent, with an action used up
  spent : (stage : ℕ) → 1 ≤ kind_of (c.agent x) → moves_of (at_stage (use_up (c.agent x)) stage 0 0) < moves_of (c.agent x)
  spent stage k = used_up (c.agent x) stage (fit_given c i x g) k

  -- an enter or exit leaves
  pub leave_spends : (d : ℕ) → (c.agent x).stage ≡ holding_both → Lower c (leave c x (c.agent x) d).cell
  unfolding leave
  leave_spends d s = woken_spends _ _ _ _ _ _ c.touches (spent on_way (ok_at 3 s (ok_given c i x g)).0.some)

  -- an opener opens
  pub open_spends : (c.agent x).stage ≡ holding_both → kind_of (c.agent x) ≡ open_kind
      → Lower c (dissolve c x (c.agent x) (c.agent x).remembered (c.agent x).chosen).cell
  unfolding dissolve agent_in
  open_spends s k = spend _ _ (agent_dissolved c _ _ x _ g (linked_not_floor i.places (both_open c i x g s k).under.link))
      (λ y. let d = dissolved _ _ (agent_in c y) in reset_moves (agent_in c y) _ (dissolved_reset d) (unused_same d))
      (spent _ (ok_at 3 s (ok_given c i x g)).0.some)

  -- a release agent puts a place
  pub put_spends : (q : ℕ) → (c.agent x).stage ≡ holding → Lower c (put c x (c.agent x) q).cell
  unfolding put
  put_spends q s = woken_spends _ _ _ _ _ _ _ (spent _ (ok_at 2 s (ok_given c i x g)).0.some)

  -- a place comes
  pub come_spends : (d : ℕ) → (c.agent x).stage ≡ on_way_both → Lower c (arrive c x (c.agent x) d).cell
  unfolding arrive
  come_spends d s = woken_spends _ _ _ _ _ _ c.touches (has_come (c.agent x) s)
