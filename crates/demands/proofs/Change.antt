-- One agent changes, sleepers are woken, locks and places change around them: what such a change must satisfy to keep a cell sound,
-- and to leave every sleeper a reason to sleep. Each fact is one about the agent that steps, or one that the others keep.
use Rattle.std.specs.Prelude.{◌≡◌, ◌≢◌, ◌⊎◌, Bool}
use Rattle.std.proofs.Math.Path.{refl, sym, subst}
use Rattle.std.proofs.Common.{ap, ◌∙◌, inl, inr, arith}
use Prim.Native.Nat.{ℕ, ◌≤◌, ◌<◌}
use Rattle.std.proofs.Math.Bool.{true, false}
use Rattle.table.specs.Base.{upd}
use Rattle.table.proofs.BaseLaws.{Told, yea, nay, told, clash, eq?, upd_at, upd_other, upd_all}
use Rattle.table.specs.Cell.{Land, State, none, linked, next_action, kind_of}
use Rattle.table.proofs.KindLaws.{Kind}
use Rattle.table.specs.Sound.{touch_sum, most_touches}
use Rattle.table.specs.declared.Agent.{Agent}
use Rattle.demands.specs.Reading.{parent_in, agent_in}
use Rattle.demands.proofs.ReadingLaws.{agent_given}
use Rattle.demands.specs.Invariant.{Under, Places, Has, Fit, Away, SleepsOn, Ok, ok0, Travels, Mover, Sleeper, Sound, Reasons, Inv}
use Rattle.demands.specs.Invariant.{Holds, near, far, own, destination, Kept, free, kept}
use Rattle.demands.proofs.Actions.{fit_stage, kind_of_lem}
use Rattle.demands.proofs.Stages.{SameOrReset, same_between, ok_at, travels_away, holds_between}
use Rattle.demands.specs.NoMore.{Untouched, Returned}
use Rattle.demands.proofs.Touches.{same_sum}
use Rattle.demands.proofs.Frame.{ok_frame, Roused, woken, unchanged, roused_home, roused_reset}

-- a lock that no other agent has: it is free, or the agent that steps has it and says so by its stage
pub data Mine (l : Land) (lock : ℕ → ℕ) (x : ℕ) (a : Agent) (q : ℕ) : Type 0 where
  is_free : lock q ≡ none → Mine l lock x a q
  is_mine : Has lock q x → Holds l a q → Mine l lock x a q

-- the locks of x given back: others have theirs, and what was free or x's is free
module _ {c : State} {x : ℕ} {lock' : ℕ → ℕ} (r : Returned c x lock') where
  pub returned_has : {y q : ℕ} → y ≢ x → Has c.lock q y → Has lock' q y
  returned_has {y} {q} n h = record { by = r.others q (λ e. n (sym h.by ∙ e)) ∙ h.by; small = h.small }

  pub returned_free : {a : Agent} {q : ℕ} → x < 64 → c.land.used q ≡ true → Mine c.land c.lock x a q → lock' q ≡ none
  returned_free {a} {q} l u (is_free e) = r.others q (λ f. let z : x ≡ none = sym f ∙ e in omega arith) ∙ e
  returned_free {a} {q} l u (is_mine h k) = r.ours q u h.by

-- from c to c' agent x becomes `new`, other agents become `woke`, and those that stay asleep remember a quiet place
pub record Change (c c' : State) (x : ℕ) (quiet : ℕ → Type 0) : Type 0 where
  pub steps : c.given x ≡ true
  pub untouched : Untouched c c'
  -- no place goes out of use, and one that comes into use is linked and free, and has no touches
  pub used : (q : ℕ) → c.land.used q ≡ true → c'.land.used q ≡ true
  pub fresh : (q : ℕ) → c.land.used q ≡ false → c'.land.used q ≡ true
      → (linked c'.land q ≡ true) × (c'.lock q ≡ none) × (c'.touches q ≡ 0)
  -- touches are as they were
  pub touches : (q : ℕ) → c.land.used q ≡ true → c'.touches q ≡ c.touches q
  pub new : Agent
  pub woke : ℕ → Agent
  pub reads : agent_in c' ≡ upd woke x new
  pub roused : (y : ℕ) → Roused quiet (agent_in c y) (woke y)
  -- the places stay a tree
  pub places : Places c'.land
  -- the agent that steps stays at home and is in order
  pub home : new.home ≡ (c.agent x).home
  pub fit : Fit new
  pub ok : Ok c'.land c'.lock x new
  -- others keep their locks of places in use, what is linked under what they hold, and their way
  pub has : (y q : ℕ) → y ≢ x → c.land.used q ≡ true → Has c.lock q y → Has c'.lock q y
  pub under : (y : ℕ) → y ≢ x → (q p : ℕ) → Has c.lock p y → Under c.land q p → Under c'.land q p
  pub way : (y : ℕ) → y ≢ x → Travels (agent_in c y) → Away c.land (agent_in c y)
      → (linked c'.land (agent_in c y).home ≡ false) × (parent_in c'.land (agent_in c y).home ≡ parent_in c.land (agent_in c y).home)
  -- a lock that no other agent had is free or the agent's
  pub mine : (q : ℕ) → c.land.used q ≡ true → Mine c.land c.lock x (c.agent x) q → Mine c'.land c'.lock x new q
  -- no other place gets loose; where the agent's own is loose it travels, or it was loose by another
  pub loose : (q : ℕ) → q ≢ (c.agent x).home → linked c'.land q ≡ false → linked c.land q ≡ false
  pub own_loose : linked c'.land (c.agent x).home ≡ false
      → Travels new ⊎ ((linked c.land (c.agent x).home ≡ false) × (Travels (c.agent x) → ⊥))
  -- it travels alone
  pub lone : Travels new → (y : ℕ) → y ≢ x → Travels (agent_in c y) → (agent_in c y).home ≢ (c.agent x).home

-- ---- waking

module _ {quiet : ℕ → Type 0} {a : Agent} where
  -- it stays in order, and is as it was if it was awake
  roused_fit : {b : Agent} → Roused quiet a b → Fit a → Fit b
  roused_fit (woken s) f = fit_stage a 0 0 0 f
  roused_fit (unchanged n) f = f

  roused_awake : {b : Agent} → Roused quiet a b → a.stage ≢ 7 → b ≡ a
  roused_awake (woken s) n = absurd (n s)
  roused_awake (unchanged _) n = refl

  roused_ok : {b : Agent} {l l' : Land} {lock lock' : ℕ → ℕ} {y : ℕ} → Roused quiet a b → Ok l lock y a → Ok l' lock' y a → Ok l' lock' y b
  unfolding next_action
  roused_ok (woken s) o o' = ok0 refl (ok_at 7 s o).0
  roused_ok (unchanged n) o o' = o'

-- ---- the cell after the change

module _ {c c' : State} {x : ℕ} {quiet : ℕ → Type 0} (i : Sound c) (m : Change c c' x quiet) where
  after : ℕ → Agent
  after = upd m.woke x m.new

  -- the agent that steps reads as it is
  before : agent_in c x ≡ c.agent x
  before = agent_given c x m.steps

  own_home : (y : ℕ) → y ≡ x → (agent_in c y).home ≡ (c.agent x).home
  own_home y e = ap (λ (a : Agent). a.home) (ap (agent_in c) e ∙ before)

  same_home : (y : ℕ) → (after y).home ≡ (agent_in c y).home
  unfolding after
  same_home = upd_all m.woke x m.new (λ (y : ℕ) (b : Agent). b.home ≡ (agent_in c y).home) (m.home ∙ sym (own_home x refl))
      (λ y _. roused_home (m.roused y))

  -- agent x, and the others
  here : (y : ℕ) → y ≡ x → after y ≡ m.new
  unfolding after
  here y e = upd_at m.woke x y m.new e

  other : (y : ℕ) → y ≢ x → after y ≡ m.woke y
  unfolding after
  other y n = upd_other m.woke x y m.new n

  was : (y : ℕ) → y ≢ x → Travels (after y) → Travels (agent_in c y)
  was y n t =
      let u = subst Travels (other y n) t in
      subst Travels (same_between (roused_reset (m.roused y)) (omega (arith, u.from)) (omega (arith, u.to))) u

  kept_awake : (y : ℕ) → y ≢ x → (agent_in c y).stage ≢ 7 → after y ≡ agent_in c y
  kept_awake y n a = other y n ∙ roused_awake (m.roused y) a

  -- each fact of a sound cell, of the agents after
  others_ok : (y : ℕ) → y ≢ x → Ok c'.land c'.lock y (m.woke y)
  others_ok y n = roused_ok (m.roused y) (i.ok y)
      (ok_frame (i.homes y) (i.places.parent_used _) (λ _ u. m.used _ u) (λ q. m.has y q n) (m.under y n) (m.way y n) (i.ok y))

  locks_kept : (q : ℕ) → c'.land.used q ≡ true → Kept c'.land c'.lock after q
  locks_kept q u = at_use (told (c.land.used q))
    where
      mine : Mine c'.land c'.lock x m.new q → Kept c'.land c'.lock after q
      mine (is_free e) = free e
      mine (is_mine h k) = kept x h (subst (λ (b : Agent). Holds c'.land b q) (sym (here x refl)) k)

      holds : (y : ℕ) → y ≢ x → Holds c.land (agent_in c y) q → Holds c'.land (agent_in c y) q
      holds y n (near lo hi e) = near lo hi e
      holds y n (far lo e) = far lo e
      holds y n (own lo hi e) = own lo hi e
      holds y n (destination lo e) =
          let t : Travels (agent_in c y) = record { from = omega arith; to = omega arith } in
          destination lo (e ∙ sym (m.way y n t (travels_away t (i.ok y))).1)

      go : c.land.used q ≡ true → Kept c.land c.lock (agent_in c) q → Kept c'.land c'.lock after q
      go v (free e) = mine (m.mine q v (is_free e))
      go v (kept y h k) = at (eq? y x)
        where
          at : (y ≡ x) ⊎ (y ≢ x) → Kept c'.land c'.lock after q
          at (inl e) = mine (m.mine q v (is_mine (subst (Has c.lock q) e h)
              (subst (λ (a : Agent). Holds c.land a q) (ap (agent_in c) e ∙ before) k)))
          at (inr n) = kept y (m.has y q n v h) (subst (λ (b : Agent). Holds c'.land b q)
              (sym (kept_awake y n (λ e. omega (arith, (holds_between k).1)))) (holds y n k))

      at_use : Told (c.land.used q) → Kept c'.land c'.lock after q
      at_use (yea v) = go v (i.locks q v)
      at_use (nay v) = free (m.fresh q v u).1

  moved : (q : ℕ) → c'.land.used q ≡ true → q ≢ 0 → linked c'.land q ≡ false → Mover after q
  moved q u z b = go (eq? q (c.agent x).home)
    where
      was_used : Told (c.land.used q) → c.land.used q ≡ true
      was_used (yea v) = v
      was_used (nay v) = clash (m.fresh q v u).0 b

      mine : Travels m.new → Travels (after x)
      mine t = subst Travels (sym (here x refl)) t

      old : linked c.land q ≡ false → ((y : ℕ) → y ≡ x → Travels (agent_in c y) → (agent_in c y).home ≢ q) → Mover after q
      old l not_x =
          let w = i.mover q (was_used (told (c.land.used q))) z l in
          let n : w.who ≢ x = λ e. not_x w.who e w.goes w.lives in
          let a : (agent_in c w.who).stage ≢ 7 = λ e. let t = w.goes.to in omega arith in
          record { who = w.who; lives = same_home w.who ∙ w.lives; goes = subst Travels (sym (kept_awake w.who n a)) w.goes }

      ours : q ≡ (c.agent x).home → Travels m.new ⊎ ((linked c.land (c.agent x).home ≡ false) × (Travels (c.agent x) → ⊥)) → Mover after q
      ours e (inl t) = record { who = x; lives = same_home x ∙ own_home x refl ∙ sym e; goes = mine t }
      ours e (inr r) = old (ap (linked c.land) e ∙ r.0) (λ y f t h. r.1 (subst Travels (ap (agent_in c) f ∙ before) t))

      go : (q ≡ (c.agent x).home) ⊎ (q ≢ (c.agent x).home) → Mover after q
      go (inl e) = ours e (m.own_loose (subst (λ (r : ℕ). linked c'.land r ≡ false) e b))
      go (inr n) = old (m.loose q n b) (λ y f t h. n (sym h ∙ own_home y f))

  single : (y z : ℕ) → Travels (after y) → Travels (after z) → (after y).home ≡ (after z).home → y ≡ z
  single y z t u e = go (eq? y x) (eq? z x)
    where
      e' : (agent_in c y).home ≡ (agent_in c z).home
      e' = sym (same_home y) ∙ e ∙ same_home z

      mine : (w : ℕ) → w ≡ x → Travels (after w) → Travels m.new
      mine w f v = subst Travels (here w f) v

      go : (y ≡ x) ⊎ (y ≢ x) → (z ≡ x) ⊎ (z ≢ x) → y ≡ z
      go (inl p) (inl q) = p ∙ sym q
      go (inl p) (inr n) = absurd (m.lone (mine y p t) z n (was z n u) (sym e' ∙ own_home y p))
      go (inr n) (inl q) = absurd (m.lone (mine z q u) y n (was y n t) (e' ∙ own_home z q))
      go (inr n) (inr k) = i.single y z (was y n t) (was z k u) e'

  -- what holds of the agents after the change holds of those read
  read : (P : (ℕ → Agent) → Type 0) → P after → P (agent_in c')
  unfolding after
  read P p = subst P (sym m.reads) p

  -- the sum of the touches stays
  changed_sum : touch_sum c' ≡ touch_sum c
  changed_sum = same_sum c c' m.used m.touches (λ q u v. (m.fresh q u v).2)

  -- the cell stays sound
  changed_sound : Sound c'
  unfolding after
  changed_sound = record {
    places = m.places;
    homes = read (λ f. (y : ℕ) → c'.land.used (f y).home ≡ true)
        (λ y. m.used _ (ap c.land.used (same_home y) ∙ i.homes y));
    fit = read (λ f. (y : ℕ) → Fit (f y))
        (upd_all m.woke x m.new (λ (y : ℕ) (b : Agent). Fit b) m.fit (λ y _. roused_fit (m.roused y) (i.fit y)));
    few = λ y g. i.few y (sym (ap (λ (f : ℕ → Bool). f y) m.untouched.given) ∙ g);
    ok = read (λ f. (y : ℕ) → Ok c'.land c'.lock y (f y)) (upd_all m.woke x m.new (Ok c'.land c'.lock) m.ok others_ok);
    locks = read (λ f. (q : ℕ) → c'.land.used q ≡ true → Kept c'.land c'.lock f q) locks_kept;
    mover = read (λ f. (q : ℕ) → c'.land.used q ≡ true → q ≢ 0 → linked c'.land q ≡ false → Mover f q) moved;
    touched = subst (λ (n : ℕ). n ≤ most_touches) (sym changed_sum) i.touched;
    single = read (λ f. (y z : ℕ) → Travels (f y) → Travels (f z) → (f y).home ≡ (f z).home → y ≡ z) single;
  }

  -- sleepers that are not woken keep their reason, and the agent has one if it sleeps now
  changed_sleep : (m.new.stage ≡ 7 → Sleeper c'.land m.new)
      → ((a : Agent) → Kind (kind_of a) → c.land.used a.home ≡ true → SleepsOn c.land a → quiet a.remembered
      → Sleeper c.land a → Sleeper c'.land a)
      → Reasons c → Reasons c'
  unfolding after
  changed_sleep mine calm old = read (λ f. (y : ℕ) → (f y).stage ≡ 7 → Sleeper c'.land (f y))
      (upd_all m.woke x m.new (λ (y : ℕ) (b : Agent). b.stage ≡ 7 → Sleeper c'.land b) mine (λ y _. go y (m.roused y)))
    where
      go : (y : ℕ) → {b : Agent} → Roused quiet (agent_in c y) b → b.stage ≡ 7 → Sleeper c'.land b
      go y (woken e) z = absurd (omega arith)
      go y (unchanged q) z =
          let o = ok_at 7 z (i.ok y) in
          calm (agent_in c y) (kind_of_lem _ (i.fit y) o.0) (i.homes y) o.1 (q z) (old y z)

  -- other agents are as they were, or woken
  changed_others : (y : ℕ) → y ≢ x → SameOrReset (agent_in c y) (agent_in c' y)
  changed_others y n = read (λ f. SameOrReset (agent_in c y) (f y))
      (subst (SameOrReset (agent_in c y)) (sym (other y n)) (roused_reset (m.roused y)))

-- ---- a step keeps the cell

-- after a step of agent x the cell is sound, and its sleepers have a reason if those before had one; what is not in use is as it was,
-- the sum of the touches too, and every other agent is as it was, or at stage 0 or 8
pub record Keeps (c : State) (x : ℕ) (c' : State) : Type 0 where
  pub sound : Sound c'
  pub sleep : Reasons c → Reasons c'
  pub untouched : Untouched c c'
  pub touched : touch_sum c' ≡ touch_sum c
  pub others : (y : ℕ) → y ≢ x → SameOrReset (agent_in c y) (agent_in c' y)

-- so it keeps the invariant
pub keeps_inv : {c c' : State} {x : ℕ} → Keeps c x c' → Inv c → Inv c'
keeps_inv k i = record { sound = k.sound; sleep = k.sleep i.sleep }

-- a change keeps the cell, where the agent has a reason if it sleeps now and the others keep theirs on a quiet place
pub keeps : {c c' : State} {x : ℕ} {quiet : ℕ → Type 0} → Sound c → (m : Change c c' x quiet) → (m.new.stage ≡ 7 → Sleeper c'.land m.new)
    → ((a : Agent) → Kind (kind_of a) → c.land.used a.home ≡ true → SleepsOn c.land a → quiet a.remembered
    → Sleeper c.land a → Sleeper c'.land a)
    → Keeps c x c'
keeps i m mine calm = record {
  sound = changed_sound i m;
  sleep = changed_sleep i m mine calm;
  untouched = m.untouched;
  touched = changed_sum i m;
  others = changed_others i m;
}
