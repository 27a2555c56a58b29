-- A cell in which one agent at most is between looking and resting, and what its steps leave of that.
-- In a sound cell the stages of the agents tell which locks are held and what is on its way; a step leaves another agent as it was, or at
-- stage 0 or 8.
use Rattle.std.specs.Prelude.{◌≡◌, ◌⊎◌, true, false, ℕ, ◌≤◌}
use Rattle.std.proofs.Common.{sym, subst, inl, inr, arith}
use Rattle.table.proofs.BaseLaws.{clash}
use Rattle.table.specs.Cell.{Land, State, none, travels, found, asleep}
use Rattle.table.specs.declared.Agent.{Agent}
use Rattle.meaning.specs.Step.{rest_stage}
use Rattle.meaning.specs.Run.{settled}
use Rattle.demands.specs.Reading.{agent_in}
use Rattle.demands.specs.Invariant.{Has, Ok, ok0, ok1, ok2, ok3_move, ok3_open, ok4, ok5, ok6, ok7, ok8, Holds, Kept, free, kept, Sound}
use Rattle.demands.proofs.Facts.{travels_of, settled_of, settled_at}
use Rattle.demands.specs.Whole.{Whole}
use Rattle.demands.proofs.Stages.{rest_stage_lem, SameOrReset, holds_between}
use Rattle.demands.proofs.Permitted.{none_whole}

-- a stage of an agent that holds nothing and is not on its way: looking, found, asleep or done
abbrev pub Low : ℕ → Type 0
Low s = (s ≤ found) ⊎ (asleep ≤ s)

-- such a stage is none of 2 to 6
pub low_not : {s : ℕ} → Low s → 2 ≤ s → s ≤ 6 → ⊥
low_not (inl l) lo hi = omega arith
low_not (inr l) lo hi = omega arith

-- so such an agent holds nothing
pub low_holds : {l : Land} {a : Agent} {q : ℕ} → Low a.stage → Holds l a q → ⊥
low_holds w h = low_not w (holds_between h).0 (holds_between h).1

-- the stage after opened or came is one
pub rest_low : (a : Agent) → Low (rest_stage a)
rest_low a = go (rest_stage_lem a)
  where
    go : (rest_stage a ≡ 0) ⊎ (rest_stage a ≡ 8) → Low (rest_stage a)
    go (inl e) = inl (omega arith)
    go (inr e) = inr (omega arith)

-- ---- settled is: every agent is at such a stage

module _ (c : State) (i : Sound c) where
  -- in a settled cell no agent is at a stage that holds a lock or is on its way
  pub settled_low : settled c ≡ true → (y : ℕ) → Low (agent_in c y).stage
  settled_low e y = go (i.ok y)
    where
      at : (q : ℕ) → c.land.used q ≡ true → (c.lock q ≡ none) × (travels c.land q ≡ false)
      at q u = settled_at c e q (i.places.small q u) u

      held : {q : ℕ} → c.land.used q ≡ true → Has c.lock q y → Low (agent_in c y).stage
      held {q} u h = absurd (omega (arith, h.small, h.by, (at q u).0))

      go : Ok c.land c.lock y (agent_in c y) → Low (agent_in c y).stage
      go (ok0 s _) = inl (omega arith)
      go (ok1 s _) = inl (omega arith)
      go (ok2 s r h) = held r.known h
      go (ok3_move s r _ h _ _ _) = held r.known h
      go (ok3_open s r _ h _ _) = held r.known h
      go (ok4 s v) = clash (travels_of c.land _ (i.homes y) v.placed v.loose) (at _ (i.homes y)).1
      go (ok5 s v h) = held (i.homes y) h
      go (ok6 s v h _) = held (i.homes y) h
      go (ok7 s _ _) = inr (omega arith)
      go (ok8 s _) = inr (omega arith)

  module _ (low : (y : ℕ) → Low (agent_in c y).stage) where
    -- with nobody on its way, every place is linked
    pub low_whole : Whole c
    low_whole = none_whole c i (λ y t. low_not (low y) (omega (arith, t.from)) t.to)

    -- and with nobody holding a lock, the cell is settled
    pub low_settled : settled c ≡ true
    low_settled = settled_of c (λ q _ u. lock_free q (i.locks q u)) low_whole
      where
        lock_free : (q : ℕ) → Kept c.land c.lock (agent_in c) q → c.lock q ≡ none
        lock_free q (free f) = f
        lock_free q (kept y h r) = absurd (low_holds (low y) r)

-- ---- the others

-- another agent's step leaves an agent at such a stage at one
pub low_after : {a b : Agent} → SameOrReset a b → Low a.stage → Low b.stage
low_after (inl e) l = subst (λ (v : Agent). Low v.stage) (sym e) l
low_after (inr (inl e)) l = inl (omega arith)
low_after (inr (inr e)) l = inr (omega arith)
