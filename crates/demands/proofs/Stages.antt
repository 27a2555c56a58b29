-- What the invariant says of an agent by its stage: its facts, what it holds, and that giving back two places frees exactly its locks.
-- By cases on the constructors of Ok and Holds; all but those of the stage in question are out of range.
use Rattle.std.specs.Prelude.{◌≡◌, ◌≢◌, ◌⊎◌, [], true, ℕ, zero, suc, ◌≤◌}
use Rattle.std.proofs.Common.{sym, ap, ◌∙◌, subst, inl, inr, ⊎_elim, arith}
use Rattle.table.proofs.BaseLaws.{Told, yea, nay, told, eq?, upd_at, upd_other}
use Rattle.table.specs.Cell.{Land, State, none, has_action, next_action, kind_of, unused, enter_kind, exit_kind, open_kind, looking, done}
use Rattle.table.specs.Sound.{second_place}
use Rattle.table.specs.declared.Agent.{Agent}
use Rattle.meaning.specs.Update.{at_stage, released}
use Rattle.meaning.specs.Step.{rest_stage}
use Rattle.demands.specs.Reading.{parent_in, agent_in}
use Rattle.demands.proofs.ReadingLaws.{agent_given}
use Rattle.demands.specs.Invariant.{Under, Has, Fit, Ready, Away, SleepsOn, Travels, Sound}
use Rattle.demands.specs.Invariant.{Ok, ok0, ok1, ok2, ok3_move, ok3_open, ok4, ok5, ok6, ok7, ok8}
use Rattle.demands.specs.Invariant.{Holds, near, far, own, destination, Kept, free, kept}
use Rattle.demands.specs.NoMore.{Returned}
use Rattle.demands.proofs.GivenLaws.{stage_given}
use Rattle.demands.proofs.Actions.{kind_some, unused_none}
use Rattle.demands.proofs.Facts.{link_used, second_move, second_open}

-- ---- the facts of a stage

-- stage 3 of enter and exit, besides the remembered place
pub record BothMove (l : Land) (lock : ℕ → ℕ) (x : ℕ) (a : Agent) : Type 0 where
  pub kind : kind_of a ≤ exit_kind
  pub own : Has lock a.home x
  pub under : Under l a.home a.remembered
  pub target : kind_of a ≡ enter_kind → Under l a.chosen a.remembered

-- and of open
pub record BothOpen (l : Land) (lock : ℕ → ℕ) (x : ℕ) (a : Agent) : Type 0 where
  pub kind : kind_of a ≡ open_kind
  pub own : Has lock a.chosen x
  pub under : Under l a.chosen a.remembered

-- what Ok says at each stage; only constructors are matched, so the names stand above the clauses
abbrev pub OkAt : ℕ → Land → (ℕ → ℕ) → ℕ → Agent → Type 0
-- looking
OkAt zero l lock x a = 1 ≤ kind_of a
-- found
OkAt (suc zero) l lock x a = Ready l a
-- holding
OkAt (suc (suc zero)) l lock x a = Ready l a × Has lock a.remembered x
-- holdingBoth
OkAt (suc (suc (suc zero))) l lock x a = Ready l a × Has lock a.remembered x × (BothMove l lock x a ⊎ BothOpen l lock x a)
-- onWay
OkAt (suc (suc (suc (suc zero)))) l lock x a = Away l a
-- onWayOwn
OkAt (suc (suc (suc (suc (suc zero))))) l lock x a = Away l a × Has lock a.home x
-- onWayBoth
OkAt (suc (suc (suc (suc (suc (suc zero)))))) l lock x a = Away l a × Has lock a.home x × Has lock (parent_in l a.home) x
-- asleep
OkAt (suc (suc (suc (suc (suc (suc (suc zero))))))) l lock x a = (1 ≤ kind_of a) × SleepsOn l a
-- done
OkAt (suc (suc (suc (suc (suc (suc (suc (suc n)))))))) l lock x a = unused a ≡ []

module _ {l : Land} {lock : ℕ → ℕ} {x : ℕ} {a : Agent} where
  -- Ok as one statement by the agent's own stage
  by_stage : Ok l lock x a → OkAt a.stage l lock x a
  by_stage = go
    where
      to : (n : ℕ) → a.stage ≡ n → OkAt n l lock x a → OkAt a.stage l lock x a
      to n e t = subst (λ (m : ℕ). OkAt m l lock x a) (sym e) t

      go : Ok l lock x a → OkAt a.stage l lock x a
      go (ok0 s k) = to 0 s k
      go (ok1 s r) = to 1 s r
      go (ok2 s r h) = to 2 s (r, h)
      go (ok3_move s r k h₁ h₂ u v) = to 3 s (r, h₁, inl (record { kind = k; own = h₂; under = u; target = v }))
      go (ok3_open s r k h₁ h₂ u) = to 3 s (r, h₁, inr (record { kind = k; own = h₂; under = u }))
      go (ok4 s w) = to 4 s w
      go (ok5 s w h) = to 5 s (w, h)
      go (ok6 s w h₁ h₂) = to 6 s (w, h₁, h₂)
      go (ok7 s k u) = to 7 s (k, u)
      go (ok8 s e) = to 8 s e

  -- an agent in order at stage n has the facts of stage n
  pub ok_at : (n : ℕ) → a.stage ≡ n → Ok l lock x a → OkAt n l lock x a
  ok_at n e o = subst (λ (m : ℕ). OkAt m l lock x a) e (by_stage o)

  -- the place of an agent at stages 4 to 6 is on its way
  pub travels_away : Travels a → Ok l lock x a → Away l a
  travels_away t (ok0 s k) = absurd (omega arith)
  travels_away t (ok1 s r) = absurd (omega arith)
  travels_away t (ok2 s r h) = absurd (omega arith)
  travels_away t (ok3_move s r k h₁ h₂ v u) = absurd (omega arith)
  travels_away t (ok3_open s r k h₁ h₂ v) = absurd (omega arith)
  travels_away t (ok4 s v) = v
  travels_away t (ok5 s v h) = v
  travels_away t (ok6 s v h₁ h₂) = v
  travels_away t (ok7 s k u) = absurd (omega arith)
  travels_away t (ok8 s e) = absurd (omega arith)

-- "After opened or came", or put, "the agent is at stage 0, or 8 if no action is left"
pub rest_ok : {l : Land} {lock : ℕ → ℕ} {x : ℕ} (a : Agent) → Fit a → Ok l lock x (at_stage a (rest_stage a) 0 0)
unfolding next_action unused
rest_ok {l} {lock} {x} a f = go (told (has_action a))
  where
    go : Told (has_action a) → Ok l lock x (at_stage a (rest_stage a) 0 0)
    go (yea e) = ok0 (rw e) (kind_some a f e)
    go (nay e) = ok8 (rw e) (unused_none a e)

-- so it is at one of these two
pub rest_stage_lem : (a : Agent) → (rest_stage a ≡ 0) ⊎ (rest_stage a ≡ 8)
rest_stage_lem a = go (told (has_action a))
  where
    go : Told (has_action a) → (rest_stage a ≡ 0) ⊎ (rest_stage a ≡ 8)
    go (yea e) = inl (rw e)
    go (nay e) = inr (rw e)

-- an agent at one of these two is at none of 1 to 7
pub not_between : {s : ℕ} → (s ≡ 0) ⊎ (s ≡ 8) → 1 ≤ s → s ≤ 7 → ⊥
not_between (inl e) lo hi = omega arith
not_between (inr e) lo hi = omega arith

-- what another agent's step leaves of agent a: it is b, which is a, or looks or is done
abbrev pub SameOrReset : Agent → Agent → Type 0
SameOrReset a b = (b ≡ a) ⊎ ((b.stage ≡ looking) ⊎ (b.stage ≡ done))

-- so at stages 1 to 7 it is as it was
pub same_between : {a b : Agent} → SameOrReset a b → 1 ≤ b.stage → b.stage ≤ 7 → b ≡ a
same_between (inl e) lo hi = e
same_between (inr r) lo hi = absurd (not_between r lo hi)

-- ---- what a stage holds

module _ {l : Land} {a : Agent} {q : ℕ} where
  -- an agent that holds a place is at stages 2 to 6
  pub holds_between : Holds l a q → (2 ≤ a.stage) × (a.stage ≤ 6)
  holds_between (near lo hi e) = (lo, omega arith)
  holds_between (far s e) = (omega arith, omega arith)
  holds_between (own lo hi e) = (omega arith, hi)
  holds_between (destination s e) = (omega arith, omega arith)

  -- at 0, 1 and 4 it holds nothing, at 2 the remembered place, at 3 the second one too, at 5 its home, at 6 the destination too
  pub holds_none : a.stage ≤ 1 → Holds l a q → ⊥
  holds_none s h = omega (arith, (holds_between h).0)

  pub holds_four : a.stage ≡ 4 → Holds l a q → ⊥
  holds_four s (near lo hi e) = omega arith
  holds_four s (far lo e) = omega arith
  holds_four s (own lo hi e) = omega arith
  holds_four s (destination lo e) = omega arith

  pub holds_two : a.stage ≡ 2 → Holds l a q → q ≡ a.remembered
  holds_two s (near lo hi e) = e
  holds_two s (far lo e) = absurd (omega arith)
  holds_two s (own lo hi e) = absurd (omega arith)
  holds_two s (destination lo e) = absurd (omega arith)

  pub holds_three : a.stage ≡ 3 → Holds l a q → (q ≡ a.remembered) ⊎ (q ≡ second_place (kind_of a) a.home a.chosen)
  holds_three s (near lo hi e) = inl e
  holds_three s (far lo e) = inr e
  holds_three s (own lo hi e) = absurd (omega arith)
  holds_three s (destination lo e) = absurd (omega arith)

  pub holds_five : a.stage ≡ 5 → Holds l a q → q ≡ a.home
  holds_five s (near lo hi e) = absurd (omega arith)
  holds_five s (far lo e) = absurd (omega arith)
  holds_five s (own lo hi e) = e
  holds_five s (destination lo e) = absurd (omega arith)

  pub holds_six : a.stage ≡ 6 → Holds l a q → (q ≡ a.home) ⊎ (q ≡ parent_in l a.home)
  holds_six s (near lo hi e) = absurd (omega arith)
  holds_six s (far lo e) = absurd (omega arith)
  holds_six s (own lo hi e) = inl e
  holds_six s (destination lo e) = inr e

-- ---- an agent that is given

-- an agent that holds a place is
pub holds_given : (c : State) (x : ℕ) {q : ℕ} → Holds c.land (agent_in c x) q → c.given x ≡ true
holds_given c x h = stage_given c x (λ e. omega (arith, (holds_between h).1))

module _ (c : State) (i : Sound c) (x : ℕ) (g : c.given x ≡ true) where
  -- what is read of it is what it is
  pub ok_given : Ok c.land c.lock x (c.agent x)
  ok_given = subst (Ok c.land c.lock x) (agent_given c x g) (i.ok x)

  pub fit_given : Fit (c.agent x)
  fit_given = subst Fit (agent_given c x g) (i.fit x)

  pub home_given : c.land.used (c.agent x).home ≡ true
  home_given = subst (λ (a : Agent). c.land.used a.home ≡ true) (agent_given c x g) (i.homes x)

  -- at stage 3 it holds both places of its action
  pub both_move : (c.agent x).stage ≡ 3 → kind_of (c.agent x) ≤ exit_kind → BothMove c.land c.lock x (c.agent x)
  both_move n k = ⊎_elim (λ m. m) (λ o. absurd (omega (arith, o.kind))) (ok_at 3 n ok_given).2

  pub both_open : (c.agent x).stage ≡ 3 → kind_of (c.agent x) ≡ open_kind → BothOpen c.land c.lock x (c.agent x)
  both_open n k = ⊎_elim (λ m. absurd (omega (arith, m.kind))) (λ o. o) (ok_at 3 n ok_given).2

  -- releasing p and q gives back all of x's locks, where these are all that its stage holds
  pub returned : (p q : ℕ) → Has c.lock p x → Has c.lock q x → ((r : ℕ) → Holds c.land (c.agent x) r → (r ≡ p) ⊎ (r ≡ q))
      → Returned c x (released c.lock p q)
  returned p q hp hq all = record { others = others; ours = λ r u e. go r e (i.locks r u) }
    where
      others : (r : ℕ) → c.lock r ≢ x → released c.lock p q r ≡ c.lock r
      others r n = upd_other _ q r none (λ e. n (ap c.lock e ∙ hq.by)) ∙ upd_other c.lock p r none (λ e. n (ap c.lock e ∙ hp.by))

      gone : (r : ℕ) → (r ≡ p) ⊎ (r ≡ q) → released c.lock p q r ≡ none
      gone r (inr e) = upd_at _ q r none e
      gone r (inl e) = at (eq? r q)
        where
          at : (r ≡ q) ⊎ (r ≢ q) → released c.lock p q r ≡ none
          at (inl f) = upd_at _ q r none f
          at (inr n) = upd_other _ q r none n ∙ upd_at c.lock p r none e

      go : (r : ℕ) → c.lock r ≡ x → Kept c.land c.lock (agent_in c) r → released c.lock p q r ≡ none
      go r e (free f) = absurd (omega (arith, hp.small, sym e ∙ f))
      go r e (kept y h k) = gone r (all r (subst (λ (a : Agent). Holds c.land a r) (ap (agent_in c) (sym h.by ∙ e) ∙ agent_given c x g) k))

  -- stage 2 gives back the remembered place
  pub returned_two : (c.agent x).stage ≡ 2 → Returned c x (released c.lock (c.agent x).remembered (c.agent x).remembered)
  returned_two n = let o = ok_at 2 n ok_given in returned _ _ o.1 o.1 (λ r h. inl (holds_two n h))

  -- stage 3 the remembered and the second place
  pub returned_three : (c.agent x).stage ≡ 3
      → Returned c x (released c.lock (c.agent x).remembered (second_place (kind_of (c.agent x)) (c.agent x).home (c.agent x).chosen))
  returned_three n = let o = ok_at 3 n ok_given in returned _ _ o.1 (second o.2) (λ r h. holds_three n h)
    where
      second : BothMove c.land c.lock x (c.agent x) ⊎ BothOpen c.land c.lock x (c.agent x)
          → Has c.lock (second_place (kind_of (c.agent x)) (c.agent x).home (c.agent x).chosen) x
      second (inl m) = subst (λ (r : ℕ). Has c.lock r x) (sym (second_move _ _ _ m.kind)) m.own
      second (inr m) = subst (λ (r : ℕ). Has c.lock r x) (sym (second_open _ _ _ m.kind)) m.own

  -- which for enter and exit is its own
  pub returned_move : (c.agent x).stage ≡ 3 → kind_of (c.agent x) ≤ exit_kind
      → Returned c x (released c.lock (c.agent x).remembered (c.agent x).home)
  returned_move n k = subst (λ (q : ℕ). Returned c x (released c.lock (c.agent x).remembered q))
      (second_move (kind_of (c.agent x)) (c.agent x).home (c.agent x).chosen k) (returned_three n)

  -- the second place is in use
  pub second_used : (c.agent x).stage ≡ 3 → c.land.used (second_place (kind_of (c.agent x)) (c.agent x).home (c.agent x).chosen) ≡ true
  second_used n = go (ok_at 3 n ok_given).2
    where
      go : BothMove c.land c.lock x (c.agent x) ⊎ BothOpen c.land c.lock x (c.agent x)
          → c.land.used (second_place (kind_of (c.agent x)) (c.agent x).home (c.agent x).chosen) ≡ true
      go (inl m) = ap c.land.used (second_move _ _ _ m.kind) ∙ home_given
      go (inr m) = ap c.land.used (second_open _ _ _ m.kind) ∙ link_used c.land _ m.under.link

  -- stage 6 its home and the destination
  pub returned_six : (c.agent x).stage ≡ 6 → Returned c x (released c.lock (c.agent x).home (parent_in c.land (c.agent x).home))
  returned_six n = let o = ok_at 6 n ok_given in returned _ _ o.1 o.2 (λ r h. holds_six n h)
