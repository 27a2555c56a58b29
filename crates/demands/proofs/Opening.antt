-- An agent that opens a place keeps the cell sound, and every sleeper that it does not wake has its reason still.
-- Another agent's places are not the opener's, so what is linked to them stays; nothing was on its way to the opened place, so nothing
-- that is on its way is turned; its agents go to stage 0 or stay done, and those that slept where something changes are woken.
use Rattle.std.specs.Prelude.{◌≡◌, ◌≢◌, ◌⊎◌, ℕ, ◌≤◌}
use Rattle.std.proofs.Math.Path.{refl, ap, subst}
use Rattle.std.proofs.Common.{sym, ◌∙◌, inl, inr, arith}
use Rattle.std.proofs.Math.Bool.{true, false}
use Rattle.table.specs.Base.{upd}
use Rattle.table.proofs.BaseLaws.{Told, yea, nay, told, clash, eq?, upd_other, upd_all}
use Rattle.table.specs.Cell.{Land, State, fresh_agent, linked, next_action, kind_of, unused, open_kind, none}
use Rattle.table.specs.Sound.{most_touches}
use Rattle.table.specs.declared.Agent.{Agent}
use Rattle.meaning.specs.Update.{at_stage, use_up, released}
use Rattle.meaning.specs.Step.{awaited, fires, dissolve, dissolve_land, dissolve_lock, dissolve_agent, rest_stage}
use Rattle.demands.specs.Reading.{parent_in, agent_in}
use Rattle.demands.proofs.ReadingLaws.{agent_given, agent_dissolved}
use Rattle.demands.specs.Invariant.{Under, Has, Fit, Ok, ok0, ok1, ok2, ok3_move, ok3_open, ok4, ok5, ok6, ok7, ok8, Kept, Travels}
use Rattle.demands.specs.Invariant.{Mover, Sound, Sleeper, Reasons}
use Rattle.demands.proofs.Facts.{not_yes, link_used, Comes, awaited_yes, awaited_some, opens_fits, fires_target, target_chosen}
use Rattle.demands.proofs.Actions.{kind_of_lem, has_some, unused_none, fit_stage, fit_used}
use Rattle.demands.proofs.Stages.{ok_at, rest_ok, rest_stage_lem, not_between, SameOrReset, same_between, ok_given, fit_given}
use Rattle.demands.proofs.Unused.{opened_untouched}
use Rattle.demands.proofs.Frame.{Recalls, finds, sleeps, holds, ok_frame, Calm, sleeper_frame}
use Rattle.demands.proofs.Change.{Keeps}
use Rattle.demands.proofs.GivenLaws.{agent_fresh}
use Rattle.demands.specs.NoMore.{Dissolved, moves, moves_done, forgets, wakes, goes_on, sleeps_on}
use Rattle.demands.proofs.OpeningAgents.{dissolved, dissolved_reset}
use Rattle.demands.proofs.OpeningAgents.{home_after, fit_same}
use Rattle.demands.proofs.OpeningPlaces.{linked_not_floor, used_same, used_before, linked_same, linked_before, name_same, parent_same}
use Rattle.demands.proofs.OpeningPlaces.{parent_up, parent_kept, places_dissolved, away_same}
use Rattle.demands.proofs.OpeningLocks.{Opener, opener, others, has_same, elsewhere_same, away_kept, locks_kept}
use Rattle.demands.proofs.OpeningTouches.{open_sum}

-- an agent of a linked place that is not done has an action left
linked_some : {l : Land} {lock : ℕ → ℕ} {x : ℕ} {a : Agent} → linked l a.home ≡ true → a.stage ≢ 8 → Ok l lock x a → 1 ≤ kind_of a
linked_some u n (ok0 s k) = k
linked_some u n (ok1 s r) = r.some
linked_some u n (ok2 s r h) = r.some
linked_some u n (ok3_move s r k h₁ h₂ v w) = r.some
linked_some u n (ok3_open s r k h₁ h₂ v) = r.some
linked_some u n (ok4 s v) = clash u v.loose
linked_some u n (ok5 s v h) = clash u v.loose
linked_some u n (ok6 s v h₁ h₂) = clash u v.loose
linked_some u n (ok7 s k e) = k
linked_some u n (ok8 s e) = absurd (n s)

module _ (c : State) (i : Sound c) (x : ℕ) (g : c.given x ≡ true) (s : (c.agent x).stage ≡ 3) (k : kind_of (c.agent x) ≡ open_kind)
    (p t : ℕ) (o : Opener c x p t) (w : awaited c.land t ≡ false) where
  abbrev before : Land
  before = c.land

  abbrev after : Land
  after = dissolve_land c.land p t

  abbrev locks : ℕ → ℕ
  locks = released (dissolve_lock c t) p t

  -- the opener after
  abbrev rested : Agent
  rested = at_stage (use_up (c.agent x)) (rest_stage (use_up (c.agent x))) 0 0

  -- all agents after
  abbrev agents : ℕ → Agent
  agents = upd (λ y. dissolve_agent p t (agent_in c y)) x rested

  agents_are : agent_in (dissolve c x (c.agent x) p t).cell ≡ agents
  unfolding agent_in dissolve
  agents_are = agent_dissolved c p t x rested g (linked_not_floor i.places o.under.link)

  others_are : (y : ℕ) → y ≢ x → agents y ≡ dissolve_agent p t (agent_in c y)
  others_are y n = upd_other _ x y rested n

  -- ---- another agent

  -- what is linked to a place that it holds stays so
  under_kept : {y : ℕ} → y ≢ x → (q r : ℕ) → Has c.lock r y → Under before q r → Under after q r
  under_kept n q r h u =
      let d = others i o n h in
      let m : q ≢ t = λ e. d.0 (sym u.parent ∙ ap (parent_in c.land) e ∙ o.under.parent) in
      record {
        link = linked_same i.places o.under q m ∙ u.link;
        parent = parent_same i.places o.under q m (λ e. d.1 (sym u.parent ∙ e)) ∙ u.parent;
      }

  -- one that lives elsewhere and is as it was keeps what its stage says
  ok_kept : {y : ℕ} → y ≢ x → (agent_in c y).home ≢ t → (Recalls c.lock y (agent_in c y) → (agent_in c y).remembered ≢ t)
      → Ok after locks y (agent_in c y)
  ok_kept {y} n h m = go (told (c.given y))
    where
      go : Told (c.given y) → Ok after locks y (agent_in c y)
      go (yea e) = ok_frame (i.homes y) (i.places.parent_used _) (λ r u. used_same i.places o.under _ (m r) ∙ u)
          (λ q _. has_same i o n (λ z. h (ap (λ (a : Agent). a.home) (agent_given c y e) ∙ z))) (under_kept n)
          (λ v _. away_kept i o w agents others_are y v) (i.ok y)
      go (nay e) = subst (Ok after locks y) (sym (agent_fresh c y e)) (ok8 refl (unused_none fresh_agent refl))

  ok_other : {y : ℕ} → y ≢ x → {a : Agent} → Dissolved p t (agent_in c y) a → Ok after locks y a
  unfolding next_action unused
  ok_other {y} n (moves h s) = ok0 refl (linked_some (ap (linked c.land) h ∙ o.under.link) s (i.ok y))
  ok_other {y} n (moves_done h s) = ok8 refl (ok_at 8 s (i.ok y))
  ok_other {y} n (forgets h s m) = ok0 refl (ok_at 1 s (i.ok y)).some
  ok_other {y} n (wakes h s m) = ok0 refl (ok_at 7 s (i.ok y)).0
  ok_other {y} n (goes_on h s m) = ok_kept n h go
    where
      go : Recalls c.lock y (agent_in c y) → (agent_in c y).remembered ≢ t
      go (finds e) = m e
      go (sleeps e) = absurd (s e)
      go (holds _ _ l) = (others i o n l).1
  ok_other {y} n (sleeps_on h s m₁ m₂ _) = ok_kept n h (λ _. m₂)

  -- it lives in a place in use
  home_other : (y : ℕ) {a : Agent} → Dissolved p t (agent_in c y) a → after.used a.home ≡ true
  home_other y {a} d = go (home_after d)
    where
      go : (((agent_in c y).home ≡ t) × (a.home ≡ p)) ⊎ (((agent_in c y).home ≢ t) × (a.home ≡ (agent_in c y).home)) → after.used a.home ≡ true
      go (inl e) = ap after.used e.1 ∙ parent_kept i.places o.under
      go (inr e) = ap after.used e.1 ∙ used_same i.places o.under _ e.0 ∙ i.homes y

  -- ---- the opener

  fit_opener : Fit (use_up (c.agent x))
  fit_opener = fit_used (c.agent x) (fit_given c i x g) (has_some (c.agent x) (omega arith))

  rested_up : 1 ≤ rest_stage (use_up (c.agent x)) → rest_stage (use_up (c.agent x)) ≤ 7 → ⊥
  rested_up = not_between (rest_stage_lem (use_up (c.agent x)))

  -- ---- who is on its way

  -- an agent on its way was so before
  went : (y : ℕ) → Travels (agents y) → agents y ≡ agent_in c y
  went = upd_all (λ y. dissolve_agent p t (agent_in c y)) x rested (λ y a. Travels a → a ≡ agent_in c y)
      (λ v. absurd (rested_up (omega (arith, v.from)) (omega (arith, v.to))))
      (λ y n v. same_between (dissolved_reset (dissolved p t (agent_in c y))) (omega (arith, v.from)) (omega (arith, v.to)))

  mover_kept : (q : ℕ) → after.used q ≡ true → q ≢ 0 → linked after q ≡ false → Mover agents q
  mover_kept q u z e =
      let n = used_before i.places o.under q u in
      let m = i.mover q (sym (used_same i.places o.under q n) ∙ u) z (sym (linked_same i.places o.under q n) ∙ e) in
      let v = m.goes in
      let r = elsewhere_same i o w agents others_are (other v) (λ h. n (sym m.lives ∙ h)) (omega arith) (omega arith) in
      record { who = m.who; lives = ap (λ (a : Agent). a.home) r ∙ m.lives; goes = subst Travels (sym r) v }
    where
      other : {y : ℕ} → Travels (agent_in c y) → y ≢ x
      other v e = let z : (agent_in c _).stage ≡ 3 = ap (λ y. (agent_in c y).stage) e ∙ ap (λ (a : Agent). a.stage) (agent_given c x g) ∙ s in
          omega (arith, v.from)

  -- ---- the cell

  -- what holds of the agents after holds of those read
  read : (P : (ℕ → Agent) → Type 0) → P agents → P (agent_in (dissolve c x (c.agent x) p t).cell)
  read P h = subst P (sym agents_are) h

  sound_opened : Sound (dissolve c x (c.agent x) p t).cell
  unfolding dissolve
  sound_opened = record {
    places = places_dissolved i.places o.under;
    homes = read (λ f. (y : ℕ) → after.used (f y).home ≡ true) (upd_all _ x rested (λ _ a. after.used a.home ≡ true)
        (ap after.used o.home ∙ parent_kept i.places o.under) (λ y _. home_other y (dissolved p t (agent_in c y))));
    fit = read (λ f. (y : ℕ) → Fit (f y)) (upd_all _ x rested (λ _ a. Fit a)
        (fit_stage _ _ _ _ fit_opener) (λ y _. fit_same (dissolved p t (agent_in c y)) (i.fit y)));
    few = i.few;
    ok = read (λ f. (y : ℕ) → Ok after locks y (f y)) (upd_all _ x rested (λ y a. Ok after locks y a)
        (rest_ok (use_up (c.agent x)) fit_opener) (λ y n. ok_other n (dissolved p t (agent_in c y))));
    locks = read (λ f. (q : ℕ) → after.used q ≡ true → Kept after locks f q) (locks_kept i o w agents others_are);
    mover = read (λ f. (q : ℕ) → after.used q ≡ true → q ≢ 0 → linked after q ≡ false → Mover f q) mover_kept;
    touched = subst (λ (n : ℕ). n ≤ most_touches) (sym (open_sum i o)) i.touched;
    single = read (λ f. (y z : ℕ) → Travels (f y) → Travels (f z) → (f y).home ≡ (f z).home → y ≡ z)
        (λ y z v u e. i.single y z (subst Travels (went y v) v) (subst Travels (went z u) u)
        (ap (λ (a : Agent). a.home) (sym (went y v)) ∙ e ∙ ap (λ (a : Agent). a.home) (went z u)));
  }

  -- ---- sleepers

  -- what a sleeper that is neither in t nor on p, t or no place looks at does not change
  calm : (a : Agent) → a.home ≢ t → a.remembered ≢ p → a.remembered ≢ t → a.remembered ≢ none → Calm before after a
  calm a h mp mt mn = record {
    loose = λ e _. linked_same i.places o.under _ h ∙ e;
    keeps = λ u. record {
      link = linked_same i.places o.under _ h ∙ u.link;
      parent = parent_same i.places o.under _ h (λ e. mt (sym u.parent ∙ e)) ∙ u.parent;
    };
    child = child;
    names = λ q _ e. name_same i.places o.under q (linked_before i.places o.under q e);
    up = λ e. sym (linked_same i.places o.under _ mt) ∙ e;
    awaits = λ q u e. not_yes _ (λ b. clash (awaits q u (awaited_some before q b)) e);
    full = λ e. absurd (mn e);
  }
    where
      child : (q : ℕ) → Under after q a.remembered → Under before q a.remembered
      child q u = record { link = sym (linked_same i.places o.under q n) ∙ u.link; parent = go (eq? (parent_in c.land q) t) }
        where
          n : q ≢ t
          n = linked_before i.places o.under q u.link

          go : (parent_in c.land q ≡ t) ⊎ (parent_in c.land q ≢ t) → parent_in c.land q ≡ a.remembered
          go (inl e) = absurd (mp (sym u.parent ∙ parent_up i.places o.under q n e))
          go (inr m) = sym (parent_same i.places o.under q n m) ∙ u.parent

      awaits : (q : ℕ) → Under after q a.remembered → (r : ℕ) × Comes before q r → awaited after q ≡ true
      awaits q u (r, m) =
          let e = away_same i.places o.under w r m.used m.placed m.loose in
          let n : r ≢ t = λ z. clash (ap (linked c.land) z ∙ o.under.link) m.loose in
          awaited_yes after q r (i.places.small r m.used)
          (record { used = used_same i.places o.under r n ∙ m.used; placed = m.placed; loose = e.0; parent = e.1 ∙ m.parent })

  -- a sleeper after was one before, and keeps its reason
  sleeper_kept : Reasons c → (y : ℕ) {a : Agent} → Dissolved p t (agent_in c y) a → a.stage ≡ 7 → Sleeper after a
  sleeper_kept z y (moves h s) e = absurd (omega arith)
  sleeper_kept z y (moves_done h s) e = absurd (omega arith)
  sleeper_kept z y (forgets h s m) e = absurd (omega arith)
  sleeper_kept z y (wakes h s m) e = absurd (omega arith)
  sleeper_kept z y (goes_on h s m) e = absurd (s e)
  sleeper_kept z y (sleeps_on h s m₁ m₂ m₃) e = sleeper_frame before after (agent_in c y) (kind_of_lem _ (i.fit y) (ok_at 7 s (i.ok y)).0)
      (calm (agent_in c y) h m₁ m₂ m₃) (z y s)

  sleep_opened : Reasons c → Reasons (dissolve c x (c.agent x) p t).cell
  unfolding dissolve
  sleep_opened z = read (λ f. (y : ℕ) → (f y).stage ≡ 7 → Sleeper after (f y)) (upd_all _ x rested (λ _ a. a.stage ≡ 7 → Sleeper after a)
      (λ e. absurd (rested_up (omega arith) (omega arith))) (λ y _. sleeper_kept z y (dissolved p t (agent_in c y))))

  -- other agents are as they were, or at stage 0 or 8
  others_opened : (y : ℕ) → y ≢ x → SameOrReset (agent_in c y) (agent_in (dissolve c x (c.agent x) p t).cell y)
  others_opened y n = read (λ f. SameOrReset (agent_in c y) (f y))
      (subst (SameOrReset (agent_in c y)) (sym (others_are y n)) (dissolved_reset (dissolved p t (agent_in c y))))

-- ---- the way "opens"

-- nothing is on its way to the place that an opener fires on
fires_awaited : (l : Land) (a : Agent) → kind_of a ≡ open_kind → fires l a ≡ true → awaited l a.chosen ≡ false
fires_awaited l a k f = ap (awaited l) (sym (target_chosen a (λ e. omega arith))) ∙ (opens_fits l _ _ _ _ _ k (sym (fires_target l a) ∙ f)).1

-- opening keeps a cell sound, and every sleeper its reason to sleep
pub open_keeps : (c : State) → Sound c → (x : ℕ) → c.given x ≡ true → (c.agent x).stage ≡ 3 → kind_of (c.agent x) ≡ open_kind
    → fires c.land (c.agent x) ≡ true
    → Keeps c x (dissolve c x (c.agent x) (c.agent x).remembered (c.agent x).chosen).cell
unfolding dissolve
open_keeps c i x g s k f =
    let o = opener c i x g s k in
    let w = fires_awaited c.land (c.agent x) k f in
    record {
      sound = sound_opened c i x g s k _ _ o w;
      sleep = sleep_opened c i x g s k _ _ o w;
      untouched = opened_untouched c x g _ _ (ok_at 3 s (ok_given c i x g)).0.known (link_used c.land _ o.under.link);
      touched = open_sum i o;
      others = others_opened c i x g s k _ _ o w;
    }
