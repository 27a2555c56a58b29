-- What the program asks of one agent is what soundness asks of it. Assumes nothing.
-- Idea: a number in use is its own remainder by 64, so a masked read beside a test for use is the plain read.
use Rattle.std.specs.Prelude.{◌≡◌, ◌≢◌, ◌⊎◌, Bool, ◌&&◌, ◌||◌, cond, ℕ, ◌%◌, ◌≤◌, ◌<◌, ltb, leb, get_or}
use Rattle.std.proofs.Math.Path.{refl, sym, ap, ap₂}
use Rattle.std.proofs.Common.{◌∙◌, subst, inl, inr, arith, eqb-true, ne_eqb, lt-ltb, le-ltb, leb-true}
use Rattle.std.proofs.Math.Bool.{true, false}
use Rattle.std.proofs.Math.Dec.{eqb}
use Rattle.std.proofs.lemmas.Bool.{eqb-false, lt-leb}
use Rattle.sets.specs.Word.{has}
use Rattle.table.proofs.BaseLaws.{Told, yea, nay, told, clash, and_cong}
use Rattle.table.specs.Cell.{none, no_place, State, cell_of, linked_to, has_action, kind_of, asleep}
use Rattle.lent.proofs.Words.{Words, in_use}
use Rattle.table.specs.Sound.{actions_fit, remembers, stage_fits, first_held, second_held, second_held_in, lock_is, agent_fits, going_from}
use Rattle.soundness.specs.Pass.{quiet, remembers_at, quiet_fits, lock_is_at, linked_at, busy_fits}
use Rattle.table.specs.declared.Agent.{Agent}
use Rattle.table.specs.declared.Cell.{Cell}

-- ---- quiet stages

quiet_cases : (s : ℕ) → quiet s ≡ true → (s ≤ 1) ⊎ (7 ≤ s)
unfolding quiet
quiet_cases s e = go (told (leb s 1))
  where
    go : Told (leb s 1) → (s ≤ 1) ⊎ (7 ≤ s)
    go (yea t) = inl (leb-true s 1 t)
    go (nay t) = inr (leb-true 7 s (sym (ap (λ (b : Bool). b || leb 7 s) t) ∙ e))

-- a stage that is not quiet is not asleep
busy_awake : (s : ℕ) → quiet s ≡ false → s ≢ asleep
unfolding quiet
busy_awake s q e = clash (subst (λ (n : ℕ). quiet n ≡ true) (sym e) refl) q

-- an agent that is not asleep has to remember a place in use
pub awake_remembers : (s : ℕ) (known : Bool) (remembered kind : ℕ) → s ≢ asleep → remembers_at s known remembered kind ≡ known
awake_remembers s known remembered kind n = rw (ne_eqb s asleep n) (go known (eqb remembered none))
  where
    go : (known nowhere : Bool) → cond known true (nowhere && false) ≡ known
    go true nowhere = refl
    go false true = refl
    go false false = refl

-- at a quiet stage no link is asked for
quiet_stage : (s : ℕ) (some known same : Bool) (kind : ℕ) (here there : Bool) → quiet s ≡ true → quiet_fits s some known same kind ≡ stage_fits s some known same kind here there
unfolding quiet_fits stage_fits
quiet_stage s some known same kind here there e = go (quiet_cases s e) (told (eqb s 0)) (told (eqb s 7)) (told (eqb s 8))
  where
    At : ℕ → Type 0
    At n = quiet_fits n some known same kind ≡ stage_fits n some known same kind here there

    past : (s : ℕ) → 7 ≤ s → (s ≡ 7 → ⊥) → 7 < s
    past s l n = omega arith

    later : (s : ℕ) → 7 ≤ s → (s ≡ 7 → ⊥) → (s ≡ 8 → ⊥) → 8 < s
    later s l n m = let h = past s l n in omega arith

    one : (s : ℕ) → s ≤ 1 → (s ≡ 0 → ⊥) → s ≡ 1
    one s l n = omega arith

    go : (s ≤ 1) ⊎ (7 ≤ s) → Told (eqb s 0) → Told (eqb s 7) → Told (eqb s 8) → At s
    go (inl l) (yea z) a b = subst At (sym (eqb-true s 0 z)) refl
    go (inl l) (nay z) a b = subst At (sym (one s l (eqb-false s 0 z))) refl
    go (inr l) z (yea a) b = subst At (sym (eqb-true s 7 a)) refl
    go (inr l) z (nay a) (yea b) = subst At (sym (eqb-true s 8 b)) refl
    go (inr l) z (nay a) (nay b) =
        rw (
          a,
          b,
          ne_eqb s 0 (λ z. omega arith),
          ne_eqb s 1 (λ z. omega arith),
          lt-leb s 2 (omega arith),
          lt-leb s 3 (omega arith),
          lt-leb s 6 (omega arith),
          lt-leb s 7 (past s l (eqb-false s 7 a)),
          lt-leb s 8 (later s l (eqb-false s 7 a) (eqb-false s 8 b)),
        )

-- an agent at a quiet stage holds nothing and goes nowhere
pub quiet_first : (a : Agent) → quiet a.stage ≡ true → first_held a ≡ none
unfolding first_held
quiet_first a e = go (quiet_cases a.stage e)
  where
    go : (a.stage ≤ 1) ⊎ (7 ≤ a.stage) → first_held a ≡ none
    go (inl l) = rw (lt-ltb a.stage 2 (omega arith))
    go (inr l) = rw (le-ltb a.stage 2 (omega arith), lt-leb a.stage 3 (omega arith), le-ltb a.stage 5 (omega arith), lt-leb a.stage 6 (omega arith))

pub quiet_second : (c : State) (a : Agent) → quiet a.stage ≡ true → second_held_in c a ≡ none
unfolding second_held
quiet_second c a e = rw (ne_eqb a.stage 3 (not_at 3 (quiet_cases a.stage e) refl refl), ne_eqb a.stage 6 (not_at 6 (quiet_cases a.stage e) refl refl))
  where
    not_at : (k : ℕ) → (a.stage ≤ 1) ⊎ (7 ≤ a.stage) → leb 2 k ≡ true → leb k 6 ≡ true → a.stage ≡ k → ⊥
    not_at k (inl l) b d t = let p = leb-true 2 k b in omega arith
    not_at k (inr l) b d t = let p = leb-true k 6 d in omega arith

pub quiet_from : (a : Agent) → quiet a.stage ≡ true → going_from a ≡ none
unfolding going_from
quiet_from a e = go (quiet_cases a.stage e)
  where
    go : (a.stage ≤ 1) ⊎ (7 ≤ a.stage) → going_from a ≡ none
    go (inl l) = rw (lt-ltb a.stage 4 (omega arith))
    go (inr l) = rw (le-ltb a.stage 4 (omega arith), lt-leb a.stage 6 (omega arith))

-- an agent goes from its home or from nowhere
pub from_home : (a : Agent) → (going_from a ≡ none) ⊎ (going_from a ≡ a.home)
unfolding going_from
from_home a = go (ltb a.stage 4) (leb a.stage 6)
  where
    go : (b d : Bool) → (cond b none (cond d a.home none) ≡ none) ⊎ (cond b none (cond d a.home none) ≡ a.home)
    go true d = inl refl
    go false true = inr refl
    go false false = inl refl

-- ---- masked reads

module _ (c : Cell) (z : Words c) where
  abbrev u : ℕ → Bool
  u = has c.used.bits

  abbrev w : State
  w = cell_of c

  same : (q : ℕ) → u q ≡ true → q % 64 ≡ q
  same q e = let l = in_use c z q e in omega arith

  linked_same : (q p : ℕ) → linked_at (u q) (get_or c.places (q % 64) no_place) p ≡ linked_to w.land q p
  unfolding linked_at linked_to cell_of
  linked_same q p = and_cong (u q) _ _ (λ e. ap (λ (k : ℕ). eqb (get_or c.places k no_place).way 0 && eqb (get_or c.places k no_place).parent p) (same q e))

  lock_same : (x q : ℕ) → lock_is_at (u q) q (get_or c.locks (q % 64) 0) x ≡ lock_is w x q
  unfolding lock_is_at lock_is cell_of
  lock_same x q = ap (cond (eqb q none) true) (and_cong (u q) _ _ (λ e. ap (λ (k : ℕ). eqb (get_or c.locks k 0) x) (same q e)))

  -- ---- what stops the walk
  pub home_out : (x : ℕ) (a : Agent) → has c.used.bits a.home ≡ false → agent_fits (cell_of c) x a ≡ false
  unfolding agent_fits cell_of
  home_out x a e = rw e

  pub row_out : (x : ℕ) (a : Agent) → actions_fit a ≡ false → agent_fits (cell_of c) x a ≡ false
  unfolding agent_fits cell_of
  row_out x a e = rw e (never (u a.home))
    where
      never : (b : Bool) → (b && false) ≡ false
      never true = refl
      never false = refl

  -- ---- an agent whose home is in use and whose actions are in range
  module _ (x : ℕ) (a : Agent) (here : has c.used.bits a.home ≡ true) (row : actions_fit a ≡ true) where
    pub second_same : (k : ℕ) → k ≡ kind_of a → second_held a k (get_or c.places (a.home % 64) no_place).parent ≡ second_held_in (cell_of c) a
    unfolding cell_of
    second_same k e = ap₂ (second_held a) e (ap (λ (n : ℕ). (get_or c.places n no_place).parent) (same a.home here) ∙ sym (rw here))

    -- at a stage that is not quiet
    pub busy_same : (k f g : ℕ) → quiet a.stage ≡ false → k ≡ kind_of a → f ≡ first_held a → g ≡ second_held_in (cell_of c) a
        → busy_fits (u a.remembered) u x a k (get_or c.places (a.home % 64) no_place) (get_or c.places (a.chosen % 64) no_place)
        f (get_or c.locks (f % 64) 0) g (get_or c.locks (g % 64) 0) ≡ agent_fits (cell_of c) x a
    unfolding busy_fits agent_fits
    busy_same k f g q ek ef eg =
        rw (
          ek,
          ← awake_remembers a.stage (u a.remembered) a.remembered (kind_of a) (busy_awake a.stage q),
          ap (λ (b : Bool). linked_at b (get_or c.places (a.home % 64) no_place) a.remembered) (sym here) ∙ linked_same a.home a.remembered,
          linked_same a.chosen a.remembered,
          lock_same x f,
          lock_same x g,
          ef,
          eg,
        ) (unfold cell_of in sym (rw (here, row)))

    -- at a quiet stage
    pub quiet_same : (k : ℕ) → k ≡ kind_of a → quiet a.stage ≡ true
        → quiet_fits a.stage (has_action a) (remembers u a) (eqb a.remembered a.home) k ≡ agent_fits (cell_of c) x a
    unfolding agent_fits cell_of lock_is
    quiet_same k ek e =
        ap (quiet_fits a.stage (has_action a) (remembers u a) (eqb a.remembered a.home)) ek
        ∙ quiet_stage a.stage (has_action a) (remembers u a) (eqb a.remembered a.home) (kind_of a) (linked_to w.land a.home a.remembered) (linked_to w.land a.chosen a.remembered) e
        ∙ sym (rw (quiet_first a e, quiet_second w a e, here, row) (and_true _))
      where
        and_true : (b : Bool) → (b && true) ≡ b
        and_true true = refl
        and_true false = refl
