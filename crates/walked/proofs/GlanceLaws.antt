-- The walk over the agents, turn by turn, comes to what soundness asks of them. Assumes nothing.
-- Idea: before each turn all agents so far fit, which is `Passed`, or the table is not sound and the walk is at its end.
use Rattle.std.specs.Prelude.{◌≡◌, ◌≢◌, ◌⊎◌, ◌&&◌, cond, ℕ, ◌+◌, ◌%◌, ◌≤◌, ◌<◌, eqb, get_or}
use Rattle.std.proofs.Math.Path.{refl}
use Rattle.std.proofs.Common.{sym, ap, ◌∙◌, subst, inr, pos_of_ne-zero, arith}
use Rattle.std.proofs.Math.Logic.{inl}
use Rattle.std.proofs.Math.Bool.{Bool, true, false}
use Rattle.order.specs.Row.{row_fits}
use Rattle.sets.specs.Word.{has}
use Rattle.sets.proofs.WordLaws.{has_none}
use Rattle.sets.specs.Set.{member, inserted, removed}
use Rattle.sets.proofs.WalkLaws.{rest_lt, removed_less, lowest_found}
use Rattle.sets.specs.Walk.{lowest_in}
use Rattle.sets.specs.declared.Set.{Set}
use Rattle.table.proofs.BaseLaws.{Told, yea, nay, told, clash, eq?}
use Rattle.lent.proofs.Words.{Words}
use Rattle.table.specs.Cell.{no_place, no_agent, cell_of, has_action, kind_of}
use Rattle.table.specs.Sound.{actions_fit, remembers, first_held, second_held, second_held_in, going_from, agent_fits, core_sound, books_sound, touch_sum, sound}
use Rattle.table.specs.declared.Agent.{Agent}
use Rattle.table.specs.declared.Place.{Place}
use Rattle.table.specs.declared.Cell.{Cell}
use Rattle.soundness.specs.Pass.{quiet, quiet_fits, busy_fits, lands_fit}
use Rattle.soundness.proofs.AgentLaws.{home_out, row_out, second_same, busy_same, quiet_same}
use Rattle.soundness.proofs.PassLaws.{Passed, passed_are, passed_start, passed_stop, passed_twice, passed_quiet, passed_busy}
use Rattle.soundness.proofs.SoundLaws.{lands_same}
use Rattle.walked.specs.Lefts.{left_of}
use Rattle.walked.specs.Glances.{Walk, Sight, standing_at, stopped_of, start_of, still_with, busy_with, glance_of, second_of, passed_of, busy_of, Walked, tell_of}

-- ---- what an agent says by itself

module _ (used : Set) (a : Agent) where
  pub glance_out : member used a.home ≡ false → glance_of used a ≡ still_with false
  unfolding glance_of
  glance_out h = rw h

  module _ (h : member used a.home ≡ true) where
    pub glance_row : actions_fit a ≡ false → glance_of used a ≡ still_with false
    unfolding glance_of
    glance_row r = rw (h, r)

    module _ (r : actions_fit a ≡ true) where
      pub glance_still : quiet a.stage ≡ true → glance_of used a ≡ still_with (quiet_fits a.stage (has_action a) (remembers (member used) a) (eqb a.remembered a.home) (kind_of a))
      unfolding glance_of
      glance_still q = rw (h, r, q)

      pub glance_busy : quiet a.stage ≡ false → glance_of used a ≡ busy_with a
      unfolding glance_of
      glance_busy q = rw (h, r, q)

-- what is read for it is below 64
module _ (used : Set) (a : Agent) where
  by_glance : (P : Sight → Type 0) → ((b : Bool) → P (still_with b)) → P (busy_with a) → P (glance_of used a)
  unfolding glance_of
  by_glance P s b = go (member used a.home) (actions_fit a) (quiet a.stage)
    where
      Q : Bool
      Q = quiet_fits a.stage (has_action a) (remembers (member used) a) (eqb a.remembered a.home) (kind_of a)

      go : (h r q : Bool) → P (cond h (cond r (cond q (still_with Q) (busy_with a)) (still_with false)) (still_with false))
      go true true true = s Q
      go true true false = b
      go true false q = s false
      go false r q = s false

  pub glance_home : (glance_of used a).home < 64
  glance_home = by_glance (λ g. g.home < 64) (λ b. omega arith) (omega arith)

  pub glance_chosen : (glance_of used a).chosen < 64
  glance_chosen = by_glance (λ g. g.chosen < 64) (λ b. omega arith) (omega arith)

  pub glance_first : (glance_of used a).first < 64
  glance_first = by_glance (λ g. g.first < 64) (λ b. omega arith) (omega arith)

-- ---- what holds before each turn

pub record On (c : Cell) (w : Walk) : Type 0 where
  pub used : w.used ≡ c.used
  pub fit : w.fit ≡ true
  pub at : w.at ≡ lowest_in w.rest
  pub passed : Passed c w.claimed w.going w.rest

pub record Off (c : Cell) (w : Walk) : Type 0 where
  pub at : w.at ≡ 64
  pub fit : w.fit ≡ false
  pub why : false ≡ core_sound (cell_of c)

abbrev pub Reaches : Cell → Walk → Type 0
Reaches c w = On c w ⊎ Off c w

-- what gets less with each turn
abbrev pub left : Walk → ℕ
left w = cond w.fit (w.rest.bits + 1) 0

-- what a busy agent makes of the walk, the places and locks that it names being read
abbrev pub turn_busy : Cell → Walk → Agent → Sight → Walk
turn_busy c w a g =
    busy_of w a g.kind (get_or c.places g.home no_place) (get_or c.places g.chosen no_place) (get_or c.locks g.first 0)
    (get_or c.locks (second_of a g.kind (get_or c.places g.home no_place)) 0)

module _ (c : Cell) (z : Words c) where
  pub start_reaches : Reaches c (start_of c.used c.given)
  start_reaches = inl (record { used = refl; fit = refl; at = refl; passed = passed_start c z.given })

  module _ (w : Walk) where
    -- ---- where the walk is on, and an agent is left
    module _ (o : On c w) (l : lowest_in w.rest < 64) where
      abbrev x : ℕ
      x = lowest_in w.rest

      abbrev a : Agent
      a = get_or c.agents x no_agent

      k : 0 < w.rest.bits
      k = pos_of_ne-zero (λ e. clash (lowest_found 64 (member w.rest) l) (ap (λ (n : ℕ). has n x) e ∙ has_none x))

      is_left : left w ≡ w.rest.bits + 1
      is_left = ap (λ (b : Bool). cond b (w.rest.bits + 1) 0) o.fit

      less_stopped : 0 < left w
      less_stopped = subst (λ (n : ℕ). 0 < n) (sym is_left) (omega arith)

      less_standing : (removed w.rest (lowest_in w.rest)).bits + 1 < left w
      less_standing = subst (λ (n : ℕ). (removed w.rest (lowest_in w.rest)).bits + 1 < n) (sym is_left)
          (let h = removed_less w.rest o.passed.tested.left.small k in omega (arith, h))

      stops : agent_fits (cell_of c) x a ≡ false → Reaches c (stopped_of w)
      stops e = inr (record { at = refl; fit = refl; why = passed_stop c w.claimed w.going w.rest o.passed k e })

      still_by : (b : Bool) → agent_fits (cell_of c) x a ≡ b → quiet a.stage ≡ true → Reaches c (passed_of w b)
      unfolding passed_of
      still_by true f q = inl (record { used = o.used; fit = refl; at = refl; passed = passed_quiet c w.claimed w.going w.rest o.passed k f q })
      still_by false f q = stops f

      unfit_by : agent_fits (cell_of c) x a ≡ false → Reaches c (passed_of w false)
      unfolding passed_of
      unfit_by f = stops f

      still_on : (glance_of c.used a).busy ≡ false → Reaches c (passed_of w (glance_of c.used a).fit)
      still_on e = home (told (member c.used a.home))
        where
          To : Sight → Type 0
          To g = Reaches c (passed_of w g.fit)

          stage : (h : member c.used a.home ≡ true) (r : actions_fit a ≡ true) → Told (quiet a.stage) → To (glance_of c.used a)
          stage h r (yea q) = subst To (sym (glance_still c.used a h r q)) (still_by _ (sym (quiet_same c z x a h r (kind_of a) refl q)) q)
          stage h r (nay q) = clash (ap (λ (g : Sight). g.busy) (glance_busy c.used a h r q)) e

          row : (h : member c.used a.home ≡ true) → Told (actions_fit a) → To (glance_of c.used a)
          row h (yea r) = stage h r (told (quiet a.stage))
          row h (nay r) = subst To (sym (glance_row c.used a h r)) (unfit_by (row_out c z x a r))

          home : Told (member c.used a.home) → To (glance_of c.used a)
          home (yea h) = row h (told (actions_fit a))
          home (nay h) = subst To (sym (glance_out c.used a h)) (unfit_by (home_out c z x a h))

      -- ---- it is busy
      module _ (h : member c.used a.home ≡ true) (r : actions_fit a ≡ true) (q : quiet a.stage ≡ false) where
        abbrev home : Place
        home = get_or c.places (a.home % 64) no_place

        abbrev second : ℕ
        second = second_held a (kind_of a) home.parent

        second_is : second ≡ second_held_in (cell_of c) a
        second_is = second_same c z x a h r (kind_of a) refl

        tested : busy_fits (member w.used a.remembered) (has w.used.bits) w.at a (kind_of a) home (get_or c.places (a.chosen % 64) no_place)
            (first_held a) (get_or c.locks (first_held a % 64) 0) second (get_or c.locks (second % 64) 0) ≡ agent_fits (cell_of c) x a
        tested =
            ap (λ (n : ℕ). busy_fits (member w.used a.remembered) (has w.used.bits) n a (kind_of a) home (get_or c.places (a.chosen % 64) no_place)
            (first_held a) (get_or c.locks (first_held a % 64) 0) second (get_or c.locks (second % 64) 0)) o.at
            ∙ ap (λ (s : Set). busy_fits (member s a.remembered) (has s.bits) x a (kind_of a) home (get_or c.places (a.chosen % 64) no_place)
            (first_held a) (get_or c.locks (first_held a % 64) 0) second (get_or c.locks (second % 64) 0)) o.used
            ∙ busy_same c z x a h r (kind_of a) (first_held a) second q refl refl second_is

        busy_by : (m b : Bool) → member w.going (going_from a) ≡ m → agent_fits (cell_of c) x a ≡ b
            → Reaches c (cond m (stopped_of w) (cond b
            (standing_at w.used (removed w.rest (lowest_in w.rest)) (inserted (inserted w.claimed (first_held a)) second) (inserted w.going (going_from a)))
            (stopped_of w)))
        busy_by true b m f = inr (record { at = refl; fit = refl; why = passed_twice c w.claimed w.going w.rest o.passed k m })
        busy_by false true m f = inl (record {
          used = o.used;
          fit = refl;
          at = refl;
          passed = passed_are c (ap (inserted (inserted w.claimed (first_held a))) second_is) refl refl (passed_busy c w.claimed w.going w.rest o.passed k f m);
        })
        busy_by false false m f = stops f

        busy_so : Reaches c (turn_busy c w a (busy_with a))
        unfolding busy_of
        busy_so = busy_by _ _ refl (sym tested)

      busy_on : (glance_of c.used a).busy ≡ true → Reaches c (turn_busy c w a (glance_of c.used a))
      busy_on e = home (told (member c.used a.home))
        where
          To : Sight → Type 0
          To g = Reaches c (turn_busy c w a g)

          stage : (h : member c.used a.home ≡ true) (r : actions_fit a ≡ true) → Told (quiet a.stage) → To (glance_of c.used a)
          stage h r (yea q) = clash e (ap (λ (g : Sight). g.busy) (glance_still c.used a h r q))
          stage h r (nay q) = subst To (sym (glance_busy c.used a h r q)) (busy_so h r q)

          row : (h : member c.used a.home ≡ true) → Told (actions_fit a) → To (glance_of c.used a)
          row h (yea r) = stage h r (told (quiet a.stage))
          row h (nay r) = clash e (ap (λ (g : Sight). g.busy) (glance_row c.used a h r))

          home : Told (member c.used a.home) → To (glance_of c.used a)
          home (yea h) = row h (told (actions_fit a))
          home (nay h) = clash e (ap (λ (g : Sight). g.busy) (glance_out c.used a h))

      less_passed : (b : Bool) → left (passed_of w b) < left w
      unfolding passed_of
      less_passed true = less_standing
      less_passed false = less_stopped

      less_busy : (y : Agent) (n : ℕ) (p q : Place) (i j : ℕ) → left (busy_of w y n p q i j) < left w
      unfolding busy_of
      less_busy y n p q i j = go (member w.going (going_from y))
          (busy_fits (member w.used y.remembered) (has w.used.bits) w.at y n p q (first_held y) i (second_held y n p.parent) j)
        where
          go : (m b : Bool) → left (cond m (stopped_of w) (cond b
              (standing_at w.used (removed w.rest (lowest_in w.rest)) (inserted (inserted w.claimed (first_held y)) (second_held y n p.parent)) (inserted w.going (going_from y)))
              (stopped_of w))) < left w
          go true b = less_stopped
          go false true = less_standing
          go false false = less_stopped

    -- ---- the turn of the agent that is next
    off_ends : Off c w → w.at < 64 → ⊥
    off_ends f l = let e = f.at in omega arith

    module _ (l : w.at < 64) where
      pub still_reaches : Reaches c w → (glance_of w.used (get_or c.agents w.at no_agent)).busy ≡ false → Reaches c (passed_of w (glance_of w.used (get_or c.agents w.at no_agent)).fit)
      still_reaches (inr f) e = absurd (off_ends f l)
      still_reaches (inl o) e = subst To (sym is_this) (still_on o (subst (λ (n : ℕ). n < 64) o.at l) (sym (ap (λ (g : Sight). g.busy) is_this) ∙ e))
        where
          To : Sight → Type 0
          To g = Reaches c (passed_of w g.fit)

          is_this : glance_of w.used (get_or c.agents w.at no_agent) ≡ glance_of c.used (get_or c.agents (lowest_in w.rest) no_agent)
          is_this = ap (λ (s : Set). glance_of s (get_or c.agents w.at no_agent)) o.used ∙ ap (λ (n : ℕ). glance_of c.used (get_or c.agents n no_agent)) o.at

      pub busy_reaches : Reaches c w → (glance_of w.used (get_or c.agents w.at no_agent)).busy ≡ true
          → Reaches c (turn_busy c w (get_or c.agents w.at no_agent) (glance_of w.used (get_or c.agents w.at no_agent)))
      busy_reaches (inr f) e = absurd (off_ends f l)
      busy_reaches (inl o) e = subst (λ (s : Set). Reaches c (turn_busy c w (get_or c.agents w.at no_agent) (glance_of s (get_or c.agents w.at no_agent)))) (sym o.used)
          (subst (λ (n : ℕ). Reaches c (turn_busy c w (get_or c.agents n no_agent) (glance_of c.used (get_or c.agents n no_agent)))) (sym o.at)
          (busy_on o (subst (λ (n : ℕ). n < 64) o.at l)
          (sym (ap (λ (s : Set). (glance_of s (get_or c.agents w.at no_agent)).busy) o.used ∙ ap (λ (n : ℕ). (glance_of c.used (get_or c.agents n no_agent)).busy) o.at) ∙ e)))

      pub still_less : Reaches c w → (b : Bool) → left (passed_of w b) < left w
      still_less (inr f) b = absurd (off_ends f l)
      still_less (inl o) b = less_passed o (subst (λ (n : ℕ). n < 64) o.at l) b

      pub busy_less : Reaches c w → (y : Agent) (n : ℕ) (p q : Place) (i j : ℕ) → left (busy_of w y n p q i j) < left w
      busy_less (inr f) y n p q i j = absurd (off_ends f l)
      busy_less (inl o) y n p q i j = less_busy o (subst (λ (n : ℕ). n < 64) o.at l) y n p q i j

    -- ---- nobody is left
    pub walk_ends : Reaches c w → 64 ≤ w.at → Walked c w
    walk_ends (inr f) l = ap (λ (b : Bool). b && lands_fit c.places c.locks c.used w.claimed w.going) f.fit ∙ f.why
    walk_ends (inl o) l = ap (λ (b : Bool). b && lands_fit c.places c.locks c.used w.claimed w.going) o.fit
        ∙ lands_same c w.claimed w.going w.rest o.passed (none (eq? w.rest.bits 0))
      where
        none : (w.rest.bits ≡ 0) ⊎ (w.rest.bits ≢ 0) → w.rest.bits ≡ 0
        none (inl e) = e
        none (inr n) = absurd (let h = rest_lt o.passed.tested.left (pos_of_ne-zero n) in let e = o.at in omega arith)

-- ---- the whole

-- the places, the touches and the row decide
pub tell_sound : (c : Cell) (b : Bool) → b ≡ core_sound (cell_of c) → tell_of b (left_of c.touches c.used) c.order ≡ sound (cell_of c)
unfolding sound books_sound left_of touch_sum cell_of
tell_sound c b e = ap (λ (b : Bool). b && ((left_of c.touches c.used).fits && row_fits c.order)) e
