-- The locks once an agent has opened a place: the two that it held are free, so is one that an agent of the opened place held at
-- stage 2, and no other changes.
-- An agent of the opened place can hold no lock at another stage: at stage 3 it would hold one of the opener's, and it is not on its way.
use Rattle.std.specs.Prelude.{◌≡◌, ◌≢◌, ◌⊎◌, ℕ, ◌≤◌, Bool, ◌&&◌}
use Rattle.std.proofs.Math.Path.{refl}
use Rattle.std.proofs.Common.{sym, ap, ◌∙◌, subst, inl, inr, arith, eq-eqb, ne_eqb}
use Rattle.std.proofs.Math.Bool.{true, false, cond}
use Rattle.std.proofs.Math.Dec.{eqb}
use Rattle.table.proofs.BaseLaws.{Told, yea, nay, told, clash, eq?, upd_at, upd_other}
use Rattle.table.specs.Cell.{State, none, linked, kind_of, open_kind}
use Rattle.table.specs.declared.Agent.{Agent}
use Rattle.meaning.specs.Update.{released}
use Rattle.meaning.specs.Step.{awaited, dissolve_land, lets_go, dissolve_lock, dissolve_agent}
use Rattle.demands.specs.Reading.{parent_in, agent_in}
use Rattle.demands.proofs.ReadingLaws.{agent_given}
use Rattle.demands.specs.Invariant.{Under, Has, Ok, ok0, ok1, ok2, ok3_move, ok3_open, ok4, ok5, ok6, ok7, ok8, Holds, near, far}
use Rattle.demands.specs.Invariant.{own, destination, Kept, free, kept, Travels, Sound}
use Rattle.demands.proofs.OpeningAgents.{dissolved, not_dissolved}
use Rattle.demands.proofs.OpeningPlaces.{used_same, used_before, away_same}
use Rattle.demands.proofs.Facts.{second_open}
use Rattle.demands.proofs.Stages.{ok_at, travels_away, holds_between, holds_three, holds_given, ok_given, both_open}

-- an opener at stage 3: it holds its home p and the place t, linked to p, that it opens, and no other
pub record Opener (c : State) (x p t : ℕ) : Type 0 where
  pub home : (c.agent x).home ≡ p
  pub first : Has c.lock p x
  pub second : Has c.lock t x
  pub under : Under c.land t p
  pub both : (q : ℕ) → Holds c.land (agent_in c x) q → (q ≡ p) ⊎ (q ≡ t)

-- an agent at stage 3 of open is one
pub opener : (c : State) → Sound c → (x : ℕ) → c.given x ≡ true → (c.agent x).stage ≡ 3 → kind_of (c.agent x) ≡ open_kind
    → Opener c x (c.agent x).remembered (c.agent x).chosen
opener c i x g s k =
    let r = ok_at 3 s (ok_given c i x g) in
    let m = both_open c i x g s k in
    record {
      home = sym (r.0.opener (omega arith));
      first = r.1;
      second = m.own;
      under = m.under;
      both = λ q h. both q (subst (λ (a : Agent). Holds c.land a q) (agent_given c x g) h);
    }
  where
    both : (q : ℕ) → Holds c.land (c.agent x) q → (q ≡ (c.agent x).remembered) ⊎ (q ≡ (c.agent x).chosen)
    both q h = subst (λ (t : ℕ). (q ≡ (c.agent x).remembered) ⊎ (q ≡ t)) (second_open _ _ _ k) (holds_three s h)

module _ {c : State} (i : Sound c) {x p t : ℕ} (o : Opener c x p t) where
  -- what another agent holds is neither p nor t
  pub others : {y q : ℕ} → y ≢ x → Has c.lock q y → (q ≢ p) × (q ≢ t)
  others n h = (λ e. n (sym h.by ∙ ap c.lock e ∙ o.first.by), λ e. n (sym h.by ∙ ap c.lock e ∙ o.second.by))

  -- an agent of t that holds a lock is at stage 2
  held_at_two : {y q : ℕ} → y ≢ x → {a : Agent} → a.home ≡ t → Ok c.land c.lock y a → Holds c.land a q → a.stage ≡ 2
  held_at_two n e (ok0 s _) h = absurd (omega (arith, (holds_between h).0))
  held_at_two n e (ok1 s _) h = absurd (omega (arith, (holds_between h).0))
  held_at_two n e (ok2 s _ _) h = s
  held_at_two n e (ok3_move _ _ _ _ h₂ _ _) h = absurd ((others n h₂).1 e)
  held_at_two n e (ok3_open _ r k h₁ _ _) h = absurd ((others n h₁).1 (r.opener (omega arith) ∙ e))
  held_at_two n e (ok4 _ v) h = clash (ap (linked c.land) e ∙ o.under.link) v.loose
  held_at_two n e (ok5 _ v _) h = clash (ap (linked c.land) e ∙ o.under.link) v.loose
  held_at_two n e (ok6 _ v _ _) h = clash (ap (linked c.land) e ∙ o.under.link) v.loose
  held_at_two n e (ok7 s _ _) h = absurd (omega (arith, (holds_between h).1))
  held_at_two n e (ok8 s _) h = absurd (omega (arith, (holds_between h).1))

  -- the locks after
  abbrev locks : ℕ → ℕ
  locks = released (dissolve_lock c t) p t

  locks_at : (q : ℕ) → q ≢ p → q ≢ t → locks q ≡ dissolve_lock c t q
  locks_at q n m = upd_other _ t q none m ∙ upd_other _ p q none n

  -- an agent elsewhere holds what it held
  pub has_same : {y q : ℕ} → y ≢ x → (c.agent y).home ≢ t → Has c.lock q y → Has locks q y
  unfolding dissolve_lock
  has_same {y} {q} n e h =
      let r = others n h in
      record { by = locks_at q r.0 r.1 ∙ rw h.by (stays (c.land.used q) (c.given y) (ne_eqb (c.agent y).home t e)); small = h.small }
    where
      stays : (u v : Bool) {b : Bool} → b ≡ false → cond (u && (v && (b && eqb (c.agent y).stage 2))) none y ≡ y
      stays true true z = rw z
      stays true false z = refl
      stays false v z = refl

  -- ---- each lock of a place

  freed : (q : ℕ) → (q ≡ p) ⊎ (q ≡ t) → locks q ≡ none
  freed q e = go (eq? q t) e
    where
      go : (q ≡ t) ⊎ (q ≢ t) → (q ≡ p) ⊎ (q ≡ t) → locks q ≡ none
      go (inl f) _ = upd_at _ t q none f
      go (inr n) (inl f) = upd_other _ t q none n ∙ upd_at (dissolve_lock c t) p q none f
      go (inr n) (inr f) = absurd (n f)

  -- one that the opener had is free
  pub own_freed : (q : ℕ) → c.land.used q ≡ true → c.lock q ≡ x → locks q ≡ none
  own_freed q u e = go (i.locks q u)
    where
      go : Kept c.land c.lock (agent_in c) q → locks q ≡ none
      go (free f) = absurd (omega (arith, o.first.small, sym e ∙ f))
      go (kept y h k) = freed q (o.both q (subst (λ (z : ℕ). Holds c.land (agent_in c z) q) (sym h.by ∙ e) k))

  -- so is one that an agent of the opened place had at stage 2
  pub moved_freed : (q : ℕ) → c.land.used q ≡ true → lets_go c t (c.lock q) ≡ true → locks q ≡ none
  unfolding dissolve_lock
  moved_freed q u e = go (eq? q p) (eq? q t)
    where
      go : (q ≡ p) ⊎ (q ≢ p) → (q ≡ t) ⊎ (q ≢ t) → locks q ≡ none
      go (inl f) _ = freed q (inl f)
      go (inr n) (inl f) = freed q (inr f)
      go (inr n) (inr m) = locks_at q n m ∙ rw (u, e)

  -- and every other is as it was
  pub others_kept : (q : ℕ) → c.lock q ≢ x → lets_go c t (c.lock q) ≡ false → locks q ≡ c.lock q
  unfolding dissolve_lock
  others_kept q n e = locks_at q (λ z. n (ap c.lock z ∙ o.first.by)) (λ z. n (ap c.lock z ∙ o.second.by)) ∙ stays (c.land.used q) e
    where
      stays : (u : Bool) {b : Bool} → b ≡ false → cond (u && b) none (c.lock q) ≡ c.lock q
      stays true z = rw z
      stays false z = refl

  -- ---- once the agents are as dissolving leaves them, and nothing was on its way to t

  module _ (w : awaited c.land t ≡ false) (agents : ℕ → Agent) (same : (y : ℕ) → y ≢ x → agents y ≡ dissolve_agent p t (agent_in c y)) where
    -- an agent elsewhere at stages 2 to 6 is as it was
    pub elsewhere_same : {y : ℕ} → y ≢ x → (agent_in c y).home ≢ t → 2 ≤ (agent_in c y).stage → (agent_in c y).stage ≤ 6 → agents y ≡ agent_in c y
    elsewhere_same {y} n e lo hi = same y n ∙ not_dissolved (dissolved p t (agent_in c y)) e (omega arith) (omega arith)

    -- a place on its way goes where it went
    pub away_kept : (y : ℕ) → Travels (agent_in c y)
        → (linked (dissolve_land c.land p t) (agent_in c y).home ≡ false)
        × (parent_in (dissolve_land c.land p t) (agent_in c y).home ≡ parent_in c.land (agent_in c y).home)
    away_kept y v = let r = travels_away v (i.ok y) in away_same i.places o.under w _ (i.homes y) r.placed r.loose

    holds_kept : (y : ℕ) {q : ℕ} → Holds c.land (agent_in c y) q → Holds (dissolve_land c.land p t) (agent_in c y) q
    holds_kept y (near a b e) = near a b e
    holds_kept y (far a e) = far a e
    holds_kept y (own a b e) = own a b e
    holds_kept y (destination a e) = destination a (e ∙ sym (away_kept y (record { from = omega arith; to = omega arith })).1)

    -- each lock of a place in use is free or kept as it was
    pub locks_kept : (q : ℕ) → (dissolve_land c.land p t).used q ≡ true → Kept (dissolve_land c.land p t) locks agents q
    unfolding dissolve_lock
    locks_kept q u = at (eq? q p)
      where
        gone : q ≢ t
        gone = used_before i.places o.under q u

        before : c.land.used q ≡ true
        before = sym (used_same i.places o.under q gone) ∙ u

        test : ℕ → Bool
        test y = c.land.used q && lets_go c t y

        go : q ≢ p → Told (test (c.lock q)) → Kept c.land c.lock (agent_in c) q → Kept (dissolve_land c.land p t) locks agents q
        go m (yea e) _ = free (locks_at q m gone ∙ rw e)
        go m (nay e) (free f) = free (locks_at q m gone ∙ rw e f)
        go m (nay e) (kept y h r) = kept y (has_same n out h)
            (subst (λ b. Holds (dissolve_land c.land p t) b q) (sym (elsewhere_same n out' (holds_between r).0 (holds_between r).1))
            (holds_kept y r))
          where
            mine : (q ≡ p) ⊎ (q ≡ t) → ⊥
            mine (inl z) = m z
            mine (inr z) = gone z

            n : y ≢ x
            n z = mine (o.both q (subst (λ v. Holds c.land (agent_in c v) q) z r))

            given : agent_in c y ≡ c.agent y
            given = agent_given c y (holds_given c y r)

            out' : (agent_in c y).home ≢ t
            out' z = clash (rw (
              h.by,
              before,
              holds_given c y r,
              eq-eqb (c.agent y).home t (ap (λ b. b.home) (sym given) ∙ z),
              eq-eqb (c.agent y).stage 2 (ap (λ b. b.stage) (sym given) ∙ held_at_two n z (i.ok y) r),
            )) e

            out : (c.agent y).home ≢ t
            out z = out' (ap (λ b. b.home) given ∙ z)

        at : (q ≡ p) ⊎ (q ≢ p) → Kept (dissolve_land c.land p t) locks agents q
        at (inl e) = free (upd_other _ t q none gone ∙ upd_at _ p q none e)
        at (inr m) = go m (told (test (c.lock q))) (i.locks q before)
