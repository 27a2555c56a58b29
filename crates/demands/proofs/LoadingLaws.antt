-- Every accepted load gives a cell that is sound and settled, one tree, and that is read back from its table.
-- Idea: a fresh cell has nothing held and nothing on its way, so each rule of the invariant that speaks of these holds for want of any.
use Rattle.std.specs.Prelude.{◌≡◌, refl, ◌⊎◌, List, true, ℕ, ◌^◌, ◌≤◌}
use Rattle.std.proofs.Common.{inl, inr, arith}
use Rattle.table.proofs.BaseLaws.{Told, yea, nay, told, clash}
use Rattle.table.proofs.SumLaws.{sum_most}
use Rattle.table.specs.Cell.{State, fresh_agent, cell_of, table_of}
use Rattle.table.proofs.CellLaws.{forth}
use Rattle.table.specs.Sound.{leads, touches_at, touch_sum, most_touches, sound}
use Rattle.meaning.specs.File.{accepted, load}
use Rattle.meaning.specs.Run.{settled}
use Rattle.demands.specs.Reading.{agent_in}
use Rattle.demands.specs.Invariant.{Fit, Ok, ok0, ok8, free, Sound, Inv}
use Rattle.demands.proofs.Facts.{below_64, settled_of}
use Rattle.demands.proofs.Stages.{not_between}
use Rattle.demands.proofs.Actions.{unused_none}
use Rattle.demands.specs.Fresh.{Starts, looks, without, Fresh}
use Rattle.demands.proofs.GivenLaws.{agent_all}
use Rattle.demands.proofs.SoundTestActions.{fit_empty}
use Rattle.demands.proofs.SoundTest.{sound_true, leads_all}
use Rattle.demands.proofs.LoadingFile.{accepted_fresh}

-- ---- a fresh cell

module _ (c : State) (f : Fresh c) where
  -- every agent is at the start of its row or done
  pub fresh_starts : (x : ℕ) → Starts (agent_in c x)
  fresh_starts = agent_all c (λ _ a. Starts a) (λ x g. (f.agents x g).starts) (λ x. without refl (unused_none fresh_agent refl))

  -- so none is on its way, and none sleeps
  pub fresh_stage : (x : ℕ) → ((agent_in c x).stage ≡ 0) ⊎ ((agent_in c x).stage ≡ 8)
  fresh_stage x = go (fresh_starts x)
    where
      go : Starts (agent_in c x) → ((agent_in c x).stage ≡ 0) ⊎ ((agent_in c x).stage ≡ 8)
      go (looks s k) = inl s
      go (without s e) = inr s

  fresh_ok : (x : ℕ) → Ok c.land c.lock x (agent_in c x)
  fresh_ok x = go (fresh_starts x)
    where
      go : Starts (agent_in c x) → Ok c.land c.lock x (agent_in c x)
      go (looks s k) = ok0 s k
      go (without s e) = ok8 s e

  -- 64 four-byte numbers stay below the bound
  pub fresh_touches : touch_sum c ≤ most_touches
  unfolding touch_sum
  fresh_touches = let m = sum_most (touches_at c) 64 (2 ^ 32) (λ q _. few q (told (c.land.used q))) in omega (arith, m)
    where
      few : (q : ℕ) → Told (c.land.used q) → touches_at c q ≤ 2 ^ 32
      few q (yea u) = let l = f.touches q in rw u (omega arith)
      few q (nay u) = rw u (omega arith)

  fresh_sound : Sound c
  fresh_sound = record {
    places = f.places;
    homes = agent_all c (λ _ a. c.land.used a.home ≡ true) f.homes (λ x. f.places.floor_used);
    fit = agent_all c (λ _ a. Fit a) (λ x g. (f.agents x g).fit) (λ x. fit_empty fresh_agent refl refl);
    few = below_64 c.given f.bounds.given;
    ok = fresh_ok;
    locks = λ q u. free (f.free q (f.places.small q u));
    mover = λ q u z e. clash (f.whole q u z) e;
    touched = fresh_touches;
    single = λ x y t v e. absurd (not_between (fresh_stage x) (omega (arith, t.from)) (omega (arith, t.to)));
  }

  -- a fresh cell has the invariant
  pub fresh_inv : Inv c
  fresh_inv = record { sound = fresh_sound; sleep = λ x s. absurd (not_between (fresh_stage x) (omega arith) (omega arith)) }

  -- "A cell is settled when no lock is held and nothing is on its way"
  pub fresh_settled : settled c ≡ true
  fresh_settled = settled_of c (λ q l _. f.free q l) f.whole

  -- it is the cell of its table
  pub fresh_forth : cell_of (table_of c) ≡ c
  fresh_forth = forth c f.bounds

-- ---- an accepted load

module _ (s : List ℕ) (c : State) (e : load s ≡ accepted c) where
  -- it has the invariant
  pub accepted_inv : Inv c
  accepted_inv = fresh_inv c (accepted_fresh s c e)

  -- it is sound
  pub accepted_sound : sound c ≡ true
  accepted_sound = sound_true c accepted_inv.sound

  -- no load passes the bound of touches
  pub accepted_touches : touch_sum c ≤ most_touches
  accepted_touches = fresh_touches c (accepted_fresh s c e)

  -- it is settled
  pub accepted_settled : settled c ≡ true
  accepted_settled = fresh_settled c (accepted_fresh s c e)

  -- it is one tree
  pub accepted_tree : (q : ℕ) → leads c q ≡ true
  accepted_tree = leads_all c accepted_inv.sound
