-- "A cell is settled when no lock is held and nothing is on its way", said place by place, and agent by agent of a sound cell.
use Rattle.std.specs.Prelude.{◌≡◌, ◌≢◌, ◌↔◌, ◌⊎◌, ◌&&◌, ℕ, ◌<◌, eqb}
use Rattle.std.proofs.Common.{subst, inl, inr, arith}
use Rattle.std.proofs.Math.Bool.{true, false, not, cond}
use borrow.Author.Tests.{eqb-true, eq-eqb, ne_eqb}
use Rattle.table.proofs.BaseLaws.{Told, yea, nay, told, eq?, clash, all_yes}
use Rattle.table.specs.Cell.{Land, State, none, travels, looking, found, asleep, done}
use Rattle.table.specs.declared.Agent.{Agent}
use Rattle.meaning.specs.Run.{settled}
use Rattle.demands.proofs.ReadingLaws.{agent_given}
use Rattle.demands.specs.Invariant.{Ok, ok0, ok1, ok2, ok3_move, ok3_open, ok4, ok5, ok6, ok7, ok8, Sound}
use Rattle.demands.proofs.Facts.{settled_at}
use Rattle.demands.proofs.GivenLaws.{agent_all}
use Rattle.demands.proofs.TwoAlone.{Low, low_not, settled_low, low_settled}

-- no place in use is locked (64 is nobody), and none but the floor is on its way: each is linked (0)
pub record Settled (c : State) : Type 0 where
  pub unlocked : (q : ℕ) → q < 64 → c.land.used q ≡ true → c.lock q ≡ 64
  pub linked : (q : ℕ) → q < 64 → c.land.used q ≡ true → q ≢ 0 → (c.land.place q).way ≡ 0

module _ (c : State) where
  -- the test says no less
  settled_holds : settled c ≡ true → Settled c
  unfolding travels
  settled_holds e = record { unlocked = λ q l u. (settled_at c e q l u).0; linked = λ q l u n. way q u n (settled_at c e q l u).1 }
    where
      way : (q : ℕ) → c.land.used q ≡ true → q ≢ 0 → travels c.land q ≡ false → (c.land.place q).way ≡ 0
      way q u n t = go (told (eqb (c.land.place q).way 0))
        where
          go : Told (eqb (c.land.place q).way 0) → (c.land.place q).way ≡ 0
          go (yea z) = eqb-true _ _ z
          go (nay z) = clash (rw (u, ne_eqb q 0 n, z)) t

  -- and no more
  settled_true : Settled c → settled c ≡ true
  unfolding settled travels
  settled_true s = all_yes _ 64 (λ q l. go q l (told (c.land.used q)) (eq? q 0))
    where
      go : (q : ℕ) → q < 64 → Told (c.land.used q) → (q ≡ 0) ⊎ (q ≢ 0)
          → cond (c.land.used q) (eqb (c.lock q) none && not (travels c.land q)) true ≡ true
      go q l (yea u) (inl z) = rw (u, eq-eqb (c.lock q) none (s.unlocked q l u), eq-eqb q 0 z)
      go q l (yea u) (inr n) =
          rw (u, eq-eqb (c.lock q) none (s.unlocked q l u), ne_eqb q 0 n, eq-eqb (c.land.place q).way 0 (s.linked q l u n))
      go q l (nay u) _ = rw u

  -- the test is true exactly if it is so
  pub settled_means : (settled c ≡ true) ↔ Settled c
  settled_means = (settled_holds, settled_true)

-- ---- by the agents of a sound cell

-- the stages of an agent that holds no lock and whose place is not on its way
pub data HoldsNothing (stage : ℕ) : Type 0 where
  is_looking : stage ≡ looking → HoldsNothing stage
  is_found : stage ≡ found → HoldsNothing stage
  is_asleep : stage ≡ asleep → HoldsNothing stage
  is_done : stage ≡ done → HoldsNothing stage

nothing_low : {s : ℕ} → HoldsNothing s → Low s
nothing_low (is_looking e) = inl (omega arith)
nothing_low (is_found e) = inl (omega arith)
nothing_low (is_asleep e) = inr (omega arith)
nothing_low (is_done e) = inr (omega arith)

low_nothing : {l : Land} {lock : ℕ → ℕ} {x : ℕ} {a : Agent} → Ok l lock x a → Low a.stage → HoldsNothing a.stage
low_nothing (ok0 s _) w = is_looking s
low_nothing (ok1 s _) w = is_found s
low_nothing (ok2 s _ _) w = absurd (low_not w (omega arith) (omega arith))
low_nothing (ok3_move s _ _ _ _ _ _) w = absurd (low_not w (omega arith) (omega arith))
low_nothing (ok3_open s _ _ _ _ _) w = absurd (low_not w (omega arith) (omega arith))
low_nothing (ok4 s _) w = absurd (low_not w (omega arith) (omega arith))
low_nothing (ok5 s _ _) w = absurd (low_not w (omega arith) (omega arith))
low_nothing (ok6 s _ _ _) w = absurd (low_not w (omega arith) (omega arith))
low_nothing (ok7 s _ _) w = is_asleep s
low_nothing (ok8 s _) w = is_done s

-- a sound cell is settled exactly if every agent is looking, found, asleep or done
pub settled_stages : (c : State) → Sound c → (settled c ≡ true) ↔ ((x : ℕ) → c.given x ≡ true → HoldsNothing (c.agent x).stage)
settled_stages c i = (
  λ e x g. subst (λ (a : Agent). HoldsNothing a.stage) (agent_given c x g) (low_nothing (i.ok x) (settled_low c i e x)),
  λ h. low_settled c i (agent_all c (λ _ a. Low a.stage) (λ x g. nothing_low (h x g)) (λ x. inr (omega arith))),
)
