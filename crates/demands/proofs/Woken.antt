-- The number woken that a step answers is how many agents were at stage 7 before it and are at stage 0 after it.
-- By the ways of a step: most wake nobody; in the others an agent is woken exactly if it is counted, one agent at a time.
use Rattle.std.specs.Prelude.{◌≡◌, ◌≢◌, Bool, ◌&&◌, cond, ℕ, zero, suc, ◌<◌, Ok, Err}
use Rattle.std.proofs.Math.Path.{refl}
use Rattle.std.proofs.Common.{sym, ap, ◌∙◌, arith, eqb-true, ne_eqb}
use Rattle.std.proofs.Math.Bool.{true, false}
use Rattle.std.proofs.Math.Dec.{eqb}
use Rattle.sets.specs.Word.{count_of}
use Rattle.sets.proofs.WordLaws.{count_ext}
use Rattle.table.specs.Base.{upd}
use Rattle.table.proofs.BaseLaws.{Told, yea, nay, told, upd_all, get_d_tab}
use Rattle.table.specs.Bounds.{Sized}
use Rattle.table.specs.Cell.{State, none, no_agent, cell_of, table_of, looking, asleep}
use Rattle.table.proofs.CellLaws.{bounded}
use Rattle.table.specs.Sound.{sound}
use Rattle.table.specs.declared.Agent.{Agent}
use Rattle.table.specs.declared.Cell.{Cell}
use Rattle.meaning.specs.Answers.{Answer}
use Rattle.meaning.specs.Update.{at_stage}
use Rattle.meaning.specs.Step.{Outcome, still, asleep_on, wake, put, leave, dissolve_agent, woken_by, dissolve, arrive, step}
use Rattle.meaning.specs.Run.{step_of, made, turned_away}
use Rattle.meaning.specs.Ask.{commit_of}
use Rattle.meaning.proofs.AskLaws.{committed}
use Rattle.demands.specs.Invariant.{Sound}
use Rattle.demands.specs.Ways.{Way, is_done, is_asleep, held_first, held_second, held_own, held_destination, looks_up, looks_at_home}
use Rattle.demands.specs.Ways.{sleeps_alone, takes_first, goes_back, sleeps_stuck, takes_second, puts, sleeps_full, gives_up, enters, exits, opens}
use Rattle.demands.specs.Ways.{takes_own, takes_destination, comes}
use Rattle.demands.proofs.StepWays.{step_way}
use Rattle.demands.proofs.SoundTest.{sound_bounded}

-- ---- the claim

-- agent y was asleep and is looking: "Waking sets an agent to stage 0", and "The count of woken agents is of those that were at stage 7"
abbrev pub woke_up : State → State → ℕ → Bool
woke_up before after y = before.given y && (eqb (before.agent y).stage asleep && eqb (after.agent y).stage looking)

-- an outcome counts those that it woke
abbrev pub CountsWoken : State → Outcome → Type 0
CountsWoken c o = o.woken ≡ count_of 64 (woke_up c o.cell)

-- the number woken in an answer; a refusal wakes nobody
abbrev pub number_woken : Answer → ℕ
number_woken (Ok o) = o.woken
number_woken (Err number) = 0

-- ---- one agent

-- who sleeps does not look, and is at no other stage
asleep_only : (s m : ℕ) → m ≢ 7 → eqb s 7 ≡ true → eqb s m ≡ false
asleep_only s m n e = ne_eqb s m (λ d. n (sym d ∙ eqb-true s 7 e))

and_none : (b : Bool) → (b && false) ≡ false
and_none true = refl
and_none false = refl

-- an agent that is as it was is not woken
as_before : (g : Bool) (s : ℕ) → (g && (eqb s 7 && eqb s 0)) ≡ false
as_before false s = refl
as_before true s = go (told (eqb s 7))
  where
    go : Told (eqb s 7) → (eqb s 7 && eqb s 0) ≡ false
    go (yea e) = rw (e, asleep_only s 0 (λ e. absurd (omega arith)) e)
    go (nay e) = rw e

-- an agent that was not asleep is not woken
not_asleep : (g b : Bool) (s : ℕ) → s ≢ 7 → (g && (eqb s 7 && b)) ≡ false
not_asleep g b s n = rw (ne_eqb s 7 n) (and_none g)

-- where sleepers are woken: who is counted is woken, and nobody else
wake_one : (g k : Bool) (a : Agent)
    → (g && (eqb a.stage 7 && k)) ≡ (g && (eqb a.stage 7 && eqb (cond (g && (eqb a.stage 7 && k)) (at_stage a 0 0 0) a).stage 0))
wake_one false k a = refl
wake_one true k a = go k (told (eqb a.stage 7))
  where
    go : (k : Bool) → Told (eqb a.stage 7)
        → (eqb a.stage 7 && k) ≡ (eqb a.stage 7 && eqb (cond (eqb a.stage 7 && k) (at_stage a 0 0 0) a).stage 0)
    go k (nay e) = rw e
    go true (yea e) = rw e
    go false (yea e) = rw (e, asleep_only a.stage 0 (λ e. absurd (omega arith)) e)

-- where a place is opened: the same
module _ (p t : ℕ) (a : Agent) where
  open_asleep : eqb a.stage 7 ≡ true → woken_by p t a ≡ (eqb a.stage 7 && eqb (dissolve_agent p t a).stage 0)
  unfolding woken_by dissolve_agent asleep_on
  open_asleep e = go (told (eqb a.home t)) (told (eqb a.remembered p)) (told (eqb a.remembered t)) (told (eqb a.remembered none))
    where
      go : Told (eqb a.home t) → Told (eqb a.remembered p) → Told (eqb a.remembered t) → Told (eqb a.remembered none)
          → woken_by p t a ≡ (eqb a.stage 7 && eqb (dissolve_agent p t a).stage 0)
      go (yea h) _ _ _ = rw (h, e, asleep_only a.stage 8 (λ e. absurd (omega arith)) e)
      go (nay h) (yea i) _ _ = rw (h, i, e, asleep_only a.stage 1 (λ e. absurd (omega arith)) e)
      go (nay h) (nay i) (yea j) _ = rw (h, i, j, e, asleep_only a.stage 1 (λ e. absurd (omega arith)) e)
      go (nay h) (nay i) (nay j) (yea k) = rw (h, i, j, k, e, asleep_only a.stage 1 (λ e. absurd (omega arith)) e)
      go (nay h) (nay i) (nay j) (nay k) = rw (h, i, j, k, e, asleep_only a.stage 1 (λ e. absurd (omega arith)) e, asleep_only a.stage 0 (λ e. absurd (omega arith)) e)

  open_one : (g : Bool) → (g && woken_by p t a) ≡ (g && (eqb a.stage 7 && eqb (cond g (dissolve_agent p t a) a).stage 0))
  unfolding woken_by
  open_one false = refl
  open_one true = go (told (eqb a.stage 7))
    where
      go : Told (eqb a.stage 7) → woken_by p t a ≡ (eqb a.stage 7 && eqb (dissolve_agent p t a).stage 0)
      go (yea e) = open_asleep e
      go (nay e) = rw e

-- ---- all agents

-- nobody is counted where nobody is woken
count_nobody : (n : ℕ) (f : ℕ → Bool) → ((i : ℕ) → i < n → f i ≡ false) → 0 ≡ count_of n f
unfolding count_of
count_nobody zero f h = refl
count_nobody (suc n) f h = rw (h 0 (omega arith), ← count_nobody n (λ i. f (suc i)) (λ i l. h (suc i) (omega arith)))

module _ (c : State) (x : ℕ) where
  -- where agent x alone changes, which did not sleep
  one_changes : (a : Agent) → (c.agent x).stage ≢ 7 → 0 ≡ count_of 64 (λ y. c.given y && (eqb (c.agent y).stage 7 && eqb (upd c.agent x a y).stage 0))
  one_changes a n = count_nobody 64 _ (λ y _. upd_all c.agent x a
      (λ y b. (c.given y && (eqb (c.agent y).stage 7 && eqb b.stage 0)) ≡ false)
      (not_asleep (c.given x) (eqb a.stage 0) (c.agent x).stage n) (λ y _. as_before (c.given y) (c.agent y).stage) y)

  -- where others are woken: f counts them
  others_woken : (a : Agent) (f : ℕ → Bool) (h : ℕ → Agent) → (c.agent x).stage ≢ 7
      → ((y : ℕ) → f y ≡ (c.given y && (eqb (c.agent y).stage 7 && eqb (h y).stage 0)))
      → count_of 64 f ≡ count_of 64 (λ y. c.given y && (eqb (c.agent y).stage 7 && eqb (upd h x a y).stage 0))
  others_woken a f h n each = count_ext 64 _ _ (λ y _. upd_all h x a
      (λ y b. f y ≡ (c.given y && (eqb (c.agent y).stage 7 && eqb b.stage 0)))
      (each x ∙ (not_asleep (c.given x) (eqb (h x).stage 0) (c.agent x).stage n
      ∙ sym (not_asleep (c.given x) (eqb a.stage 0) (c.agent x).stage n))) (λ y _. each y) y)

  -- nothing changes
  none_changes : 0 ≡ count_of 64 (woke_up c c)
  none_changes = count_nobody 64 _ (λ y _. as_before (c.given y) (c.agent y).stage)

  -- ---- one way of a step

  awake_at : (s : ℕ) → s ≢ 7 → (c.agent x).stage ≡ s → (c.agent x).stage ≢ 7
  awake_at s n e d = n (sym e ∙ d)

  leave_counts : (d : ℕ) → (c.agent x).stage ≡ 3 → CountsWoken c (leave c x (c.agent x) d)
  unfolding leave wake asleep_on
  leave_counts d s = others_woken _ _ _ (awake_at 3 (λ e. absurd (omega arith)) s) (λ y. wake_one (c.given y) _ (c.agent y))

  put_counts : (q : ℕ) → (c.agent x).stage ≡ 2 → CountsWoken c (put c x (c.agent x) q)
  unfolding put wake asleep_on
  put_counts q s = others_woken _ _ _ (awake_at 2 (λ e. absurd (omega arith)) s) (λ y. wake_one (c.given y) _ (c.agent y))

  arrive_counts : (d : ℕ) → (c.agent x).stage ≡ 6 → CountsWoken c (arrive c x (c.agent x) d)
  unfolding arrive wake asleep_on
  arrive_counts d s = others_woken _ _ _ (awake_at 6 (λ e. absurd (omega arith)) s) (λ y. wake_one (c.given y) _ (c.agent y))

  open_counts : (p t : ℕ) → (c.agent x).stage ≡ 3 → CountsWoken c (dissolve c x (c.agent x) p t)
  unfolding dissolve
  open_counts p t s = others_woken _ _ _ (awake_at 3 (λ e. absurd (omega arith)) s) (λ y. open_one p t (c.agent y) (c.given y))

  way_counts : {wish : ℕ} {o : Outcome} → Way c x wish o → CountsWoken c o
  unfolding still
  way_counts (is_done _) = none_changes
  way_counts (is_asleep _) = none_changes
  way_counts (held_first _ _) = none_changes
  way_counts (held_second _ _ _ _ _) = none_changes
  way_counts (held_own _ _) = none_changes
  way_counts (held_destination _ _) = none_changes
  way_counts (looks_up s _ _) = one_changes _ (awake_at 0 (λ e. absurd (omega arith)) s)
  way_counts (looks_at_home s _) = one_changes _ (awake_at 0 (λ e. absurd (omega arith)) s)
  way_counts (sleeps_alone s _ _) = one_changes _ (awake_at 0 (λ e. absurd (omega arith)) s)
  way_counts (takes_first s _) = one_changes _ (awake_at 1 (λ e. absurd (omega arith)) s)
  way_counts (goes_back s _) = one_changes _ (awake_at 2 (λ e. absurd (omega arith)) s)
  way_counts (sleeps_stuck s _ _ _) = one_changes _ (awake_at 2 (λ e. absurd (omega arith)) s)
  way_counts (takes_second _ s _ _ _ _ _) = one_changes _ (awake_at 2 (λ e. absurd (omega arith)) s)
  way_counts (puts q s _ _ _) = put_counts q s
  way_counts (sleeps_full s _ _) = one_changes _ (awake_at 2 (λ e. absurd (omega arith)) s)
  way_counts (gives_up s _) = one_changes _ (awake_at 3 (λ e. absurd (omega arith)) s)
  way_counts (enters s _ _) = leave_counts _ s
  way_counts (exits s _ _) = leave_counts _ s
  way_counts (opens s _ _) = open_counts _ _ s
  way_counts (takes_own s _) = one_changes _ (awake_at 4 (λ e. absurd (omega arith)) s)
  way_counts (takes_destination s _) = one_changes _ (awake_at 5 (λ e. absurd (omega arith)) s)
  way_counts (comes s) = arrive_counts _ s

-- ---- the law

-- of every step of a given agent in a sound cell, reached or not
pub step_counts : (c : State) → Sound c → (x : ℕ) → c.given x ≡ true → (wish : ℕ) → CountsWoken c (step c x wish)
step_counts c i x g wish = way_counts c x (step_way c i x g wish)

-- an agent read back from the table of a cell
read_agent : (d : State) (y : ℕ) → y < 64 → d.agent y ≡ (cell_of (table_of d)).agent y
unfolding cell_of table_of
read_agent d y l = sym (get_d_tab d.agent 64 y no_agent l)

-- of every step call on every table, refused ones too; the table has the sizes of the struct, as every value of it has
pub woken_counted : (t : Cell) → Sized t → (x wish : ℕ)
    → number_woken (step_of t x wish).answer ≡ count_of 64 (woke_up (cell_of t) (cell_of (step_of t x wish).cell))
unfolding step_of made turned_away
woken_counted t z x wish = go (told (sound (cell_of t))) (told ((cell_of t).given x))
  where
    after : sound (cell_of t) ≡ true → (cell_of t).given x ≡ true
        → (step (cell_of t) x wish).woken ≡ count_of 64 (woke_up (cell_of t) (cell_of (table_of (step (cell_of t) x wish).cell)))
    after e g = step_counts (cell_of t) (sound_bounded (cell_of t) (bounded t z) e) x g wish ∙ count_ext 64 _ _ (λ y l.
        ap (λ (a : Agent). (cell_of t).given y && (eqb ((cell_of t).agent y).stage 7 && eqb a.stage 0)) (read_agent _ y l))

    go : Told (sound (cell_of t)) → Told ((cell_of t).given x)
        → number_woken (step_of t x wish).answer ≡ count_of 64 (woke_up (cell_of t) (cell_of (step_of t x wish).cell))
    go (yea e) (yea g) = rw (e, g) (after e g)
    go (yea e) (nay g) = rw (e, g) (none_changes (cell_of t) x)
    go (nay e) _ = rw e (none_changes (cell_of t) x)

-- of every commit likewise
pub commit_counted : (t : Cell) → Sized t → (x wish word woken place : ℕ)
    → number_woken (commit_of t x wish word woken place).answer ≡ count_of 64 (woke_up (cell_of t) (cell_of (commit_of t x wish word woken place).cell))
unfolding turned_away
commit_counted t z x wish word woken place = committed (λ s. number_woken s.answer ≡ count_of 64 (woke_up (cell_of t) (cell_of s.cell))) t x wish word woken place
    (woken_counted t z x wish) (none_changes (cell_of t) x)
