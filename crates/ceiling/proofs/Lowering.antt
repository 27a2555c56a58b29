-- Every step leaves the cell as it was and answers held, asleep or done, or lowers its rank and answers another word.
-- By the ways a step can go, from every sound cell.
use Rattle.std.specs.Prelude.{◌≡◌, Bool, true, false, cond}
use Prim.Native.Nat.{ℕ, ◌<◌, zero-le}
use Rattle.std.proofs.Common.{le_refl, arith}
use Rattle.table.specs.Cell.{State, none, next_action, looking, found, holding, holding_both, on_way, on_way_own, on_way_both, asleep}
use Rattle.meaning.specs.Step.{Outcome, still, stays, put, leave, dissolve, arrive}
use Rattle.demands.specs.Invariant.{Sound}
use Rattle.demands.proofs.Facts.{stays_home}
use Rattle.demands.specs.Ways.{Way, is_done, is_asleep, held_first, held_second, held_own, held_destination, looks_up, looks_at_home}
use Rattle.demands.specs.Ways.{sleeps_alone, takes_first, goes_back, sleeps_stuck, takes_second, puts, sleeps_full, gives_up}
use Rattle.demands.specs.Ways.{enters, exits, opens, takes_own, takes_destination, comes}
use Rattle.ceiling.specs.Ceiling.{is_change}
use Rattle.ceiling.specs.Rank.{steps_at}
use Rattle.ceiling.proofs.RankLaws.{Lower}
use Rattle.ceiling.proofs.Settling.{settle, looked_stays, home_stays, chosen_fires}
use Rattle.ceiling.proofs.Spending.{leave_spends, open_spends, put_spends, come_spends}

-- the cell after a step, by whether its word says that it changed: the same, or one of lower rank
pub data SameOrLower (c : State) : Bool → State → Type 0 where
  same : SameOrLower c false c
  lower : {c' : State} → Lower c c' → SameOrLower c true c'

-- ---- the steps left at a stage, and at the next

-- looked: from stage 0 to 1, where the agent stays
looked : {stays : Bool} → stays ≡ true → cond stays 2 5 < 3
looked e = rw e (omega arith)

-- took: from stage 1 to 2, whether it stays or not
took_first : (stays : Bool) → cond stays 1 4 < cond stays 2 5
took_first true = omega arith
took_first false = omega arith

-- back: from stage 2 to 0, where it does not stay
went_back : {stays : Bool} → stays ≡ false → 3 < cond stays 1 4
went_back e = rw e (omega arith)

-- slept: from stage 2, where it stays
slept : {stays : Bool} → stays ≡ true → 0 < cond stays 1 4
slept e = rw e (omega arith)

-- took: from stage 2 to 3, where it stays and what it chose fires
took_second : {stays fires : Bool} → stays ≡ true → fires ≡ true → cond fires 0 4 < cond stays 1 4
took_second e f = rw (e, f) (omega arith)

-- back: from stage 3 to 0, where what it chose does not fire
gave_up : {fires : Bool} → fires ≡ false → 3 < cond fires 0 4
gave_up e = rw e (omega arith)

-- ---- the ways

module _ (c : State) (i : Sound c) (x : ℕ) (g : c.given x ≡ true) where
  -- every way a step can go
  pub way_lowers : {wish : ℕ} {o : Outcome} → Way c x wish o → SameOrLower c (is_change o.word) o.cell
  unfolding still put leave dissolve arrive steps_at stays next_action
  way_lowers (is_done _) = same
  way_lowers (is_asleep _) = same
  way_lowers (held_first _ _) = same
  way_lowers (held_second _ _ _ _ _) = same
  way_lowers (held_own _ _) = same
  way_lowers (held_destination _ _) = same
  way_lowers (looks_up s _ e) = lower (settle c i x g looking found _ 0 _ s zero-le (looked (looked_stays c i x g e)))
  way_lowers (looks_at_home s k) = lower (settle c i x g looking found _ 0 _ s zero-le (looked (home_stays c i x g k found _ 0)))
  way_lowers (sleeps_alone s _ _) = lower (settle c i x g looking asleep (c.agent x).home 0 _ s zero-le (omega arith))
  way_lowers (takes_first s _) = lower (settle c i x g found holding _ 0 _ s zero-le (took_first (stays c.land (c.agent x))))
  way_lowers (goes_back s e) = lower (settle c i x g holding looking 0 0 _ s zero-le (went_back e))
  way_lowers (sleeps_stuck s _ e _) = lower (settle c i x g holding asleep _ 0 _ s zero-le (slept e))
  way_lowers {wish} (takes_second q s _ e f l _) =
      lower (settle c i x g holding holding_both _ _ _ s zero-le (took_second e (chosen_fires c i x g wish q f l)))
  way_lowers (puts q s _ _ _) = lower (put_spends c i x g q s)
  way_lowers (sleeps_full s k _) = lower (settle c i x g holding asleep none 0 _ s zero-le (slept (stays_home c.land (c.agent x) (rw k))))
  way_lowers (gives_up s e) = lower (settle c i x g holding_both looking 0 0 _ s zero-le (gave_up e))
  way_lowers (enters s _ _) = lower (leave_spends c i x g _ s)
  way_lowers (exits s _ _) = lower (leave_spends c i x g _ s)
  way_lowers (opens s k _) = lower (open_spends c i x g s k)
  way_lowers (takes_own s _) = lower (settle c i x g on_way on_way_own 0 0 _ s (le_refl 1) (omega arith))
  way_lowers (takes_destination s _) = lower (settle c i x g on_way_own on_way_both 0 0 _ s (le_refl 1) (omega arith))
  way_lowers (comes s) = lower (come_spends c i x g _ s)
