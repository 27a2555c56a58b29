-- The walk over the agents comes to what soundness asks of them. Assumes nothing.
-- Idea: before each turn all agents so far fit, which is `Passed`.
use Rattle.std.specs.Prelude.{◌≡◌, refl, Bool, Option, true, false, ◌&&◌, cond, ℕ, ◌%◌, eqb, get_or, None, Some}
use Rattle.std.specs.Option.{is_some}
use Rattle.std.proofs.Common.{sym, ap, ◌∙◌, subst}
use Rattle.order.specs.Row.{row_fits}
use Rattle.sets.specs.Word.{has, lowest_of}
use Rattle.sets.specs.Set.{member, inserted, removed}
use Rattle.sets.specs.Walk.{TakesLowest}
use Rattle.sets.specs.declared.Set.{Set}
use Rattle.lent.proofs.Words.{Words}
use Rattle.table.specs.Cell.{no_place, no_agent, cell_of, has_action, kind_of}
use Rattle.table.specs.Sound.{actions_fit, first_held, second_held, second_held_in, going_from, agent_fits, core_sound, books_sound, touch_sum, sound}
use Rattle.table.specs.declared.Agent.{Agent}
use Rattle.table.specs.declared.Cell.{Cell}
use Rattle.soundness.specs.Pass.{quiet, remembers_at, quiet_fits, busy_fits}
use Rattle.soundness.specs.Left.{left_of}
use Rattle.soundness.specs.Turn.{row_kind, kind_in, fits_of, busy_of, Walked}
use Rattle.soundness.specs.declared.turns.Busy.{Busy}
use Rattle.soundness.specs.declared.turns.Held.{Held}
use Rattle.soundness.proofs.AgentLaws.{home_out, row_out, second_same, busy_same, quiet_same}
use Rattle.soundness.proofs.LeftLaws.{left_tested}
use Rattle.soundness.proofs.PassLaws.{Passed, passed_are, passed_stop, passed_twice, passed_quiet, passed_busy}
use Rattle.soundness.proofs.RowLaws.{told_fits, told_kind, told_out}
use Rattle.soundness.proofs.SoundLaws.{lands_same}

-- nobody is left: the places decide
pub walk_ends : (c : Cell) (h : Held) (rest : Set) → Passed c h.claimed h.going rest → rest.bits ≡ 0 → Walked c (Some h)
walk_ends c h rest p e = lands_same c h.claimed h.going rest p e

-- where an agent's kind is told, its home is in use and its actions are in range
pub kind_told : (used : Set) (a : Agent) (kind : ℕ) → Some kind ≡ kind_in used a → (member used a.home ≡ true) × (Some kind ≡ row_kind a)
kind_told used a kind e = go (member used a.home) refl e
  where
    go : (b : Bool) → member used a.home ≡ b → Some kind ≡ cond b (row_kind a) None → (member used a.home ≡ true) × (Some kind ≡ row_kind a)
    go true h e = (h, e)
    go false h e = absurd (cc)

module _ (c : Cell) (z : Words c) {held : Held} {rest : Set} (p : Passed c held.claimed held.going rest) {i : ℕ} {left : Set} (s : TakesLowest rest (Some i) left) where
  abbrev a : Agent
  a = get_or c.agents i no_agent

  -- what is known of the agent of this turn is known of the lowest that is left
  lowest : (P : ℕ → Agent → Type 0) → P i a → P (lowest_of 64 (member rest)) (get_or c.agents (lowest_of 64 (member rest)) no_agent)
  lowest P x = subst (λ (n : ℕ). P n (get_or c.agents n no_agent)) s.1.0 x

  -- and what is left is left without it
  taken : (claimed going : ℕ → Set) → Passed c (claimed (lowest_of 64 (member rest))) (going (lowest_of 64 (member rest))) (removed rest (lowest_of 64 (member rest))) → Passed c (claimed i) (going i) left
  taken claimed going x =
      subst (λ (u : Set). Passed c (claimed i) (going i) u) (sym s.1.1) (subst (λ (n : ℕ). Passed c (claimed n) (going n) (removed rest n)) (sym s.1.0) x)

  stops : agent_fits (cell_of c) i a ≡ false → false ≡ core_sound (cell_of c)
  stops e = passed_stop c held.claimed held.going rest p s.0 (lowest (λ n y. agent_fits (cell_of c) n y ≡ false) e)

  pub seen_away : member c.used a.home ≡ false → false ≡ core_sound (cell_of c)
  seen_away h = stops (home_out c z i a h)

  pub seen_row : None ≡ row_kind a → false ≡ core_sound (cell_of c)
  seen_row e = stops (row_out c z i a (told_out a e))

  -- no kind is told
  pub seen_out : None ≡ kind_in c.used a → false ≡ core_sound (cell_of c)
  seen_out e = go (member c.used a.home) refl e
    where
      go : (b : Bool) → member c.used a.home ≡ b → None ≡ cond b (row_kind a) None → false ≡ core_sound (cell_of c)
      go true h e = seen_row e
      go false h e = seen_away h

  -- ---- its home is in use and its actions are in range
  module _ (h : member c.used a.home ≡ true) {kind : ℕ} (r : Some kind ≡ row_kind a) where
    fits : actions_fit a ≡ true
    fits = told_fits a kind r

    kind_is : kind ≡ kind_of a
    kind_is = told_kind a kind r

    abbrev quietly : ℕ → Bool
    quietly n = quiet_fits a.stage (has_action a) (remembers_at a.stage (member c.used a.remembered) a.remembered n) (eqb a.remembered a.home) n

    quiet_tested : quiet a.stage ≡ true → quietly kind ≡ agent_fits (cell_of c) i a
    quiet_tested q = ap quietly kind_is ∙ quiet_same c z i a h fits (kind_of a) refl q

    pub seen_restless : quiet a.stage ≡ true → quietly kind ≡ false → false ≡ core_sound (cell_of c)
    seen_restless q e = stops (sym (quiet_tested q) ∙ e)

    pub seen_quiet : quiet a.stage ≡ true → quietly kind ≡ true → Passed c held.claimed held.going left
    seen_quiet q e =
        taken (λ n. held.claimed) (λ n. held.going)
        (passed_quiet c held.claimed held.going rest p s.0 (lowest (λ n y. agent_fits (cell_of c) n y ≡ true) (sym (quiet_tested q) ∙ e)) (lowest (λ n y. quiet y.stage ≡ true) q))

    -- ---- it is busy, and read are its home, its chosen place and two locks, of numbers masked by 64
    module _ {m n j k f g : ℕ} (eh : m ≡ a.home % 64) (ec : n ≡ a.chosen % 64) (ef : f ≡ first_held a) (ej : j ≡ f % 64)
        (eg : g ≡ second_held a kind (get_or c.places m no_place).parent) (ek : k ≡ g % 64) (q : quiet a.stage ≡ false) where
      abbrev met : Busy
      met = record {
        number = i;
        agent = a;
        kind = kind;
        used = c.used;
        home = get_or c.places m no_place;
        chosen = get_or c.places n no_place;
        first_lock = get_or c.locks j 0;
        second_lock = get_or c.locks k 0;
      }

      abbrev second : ℕ
      second = second_held a kind (get_or c.places m no_place).parent

      second_is : second ≡ second_held_in (cell_of c) a
      second_is = ap (λ (x : ℕ). second_held a kind (get_or c.places x no_place).parent) eh ∙ second_same c z i a h fits kind kind_is

      busy_tested : fits_of met ≡ agent_fits (cell_of c) i a
      unfolding fits_of
      busy_tested =
          ap (λ (x : ℕ). busy_fits (member c.used a.remembered) (has c.used.bits) i a kind (get_or c.places m no_place) (get_or c.places x no_place) (first_held a) (get_or c.locks j 0) second (get_or c.locks k 0)) ec
          ∙ ap (λ (x : ℕ). busy_fits (member c.used a.remembered) (has c.used.bits) i a kind (get_or c.places m no_place) (get_or c.places (a.chosen % 64) no_place) (first_held a) (get_or c.locks x 0) second (get_or c.locks k 0))
          (ej ∙ ap (λ (x : ℕ). x % 64) ef)
          ∙ ap (λ (x : ℕ). busy_fits (member c.used a.remembered) (has c.used.bits) i a kind (get_or c.places m no_place) (get_or c.places (a.chosen % 64) no_place) (first_held a) (get_or c.locks (first_held a % 64) 0) second (get_or c.locks x 0))
          (ek ∙ ap (λ (x : ℕ). x % 64) eg)
          ∙ ap (λ (x : ℕ). busy_fits (member c.used a.remembered) (has c.used.bits) i a kind (get_or c.places x no_place) (get_or c.places (a.chosen % 64) no_place) (first_held a) (get_or c.locks (first_held a % 64) 0) second (get_or c.locks (second % 64) 0)) eh
          ∙ busy_same c z i a h fits kind (first_held a) second q kind_is refl second_is

      abbrev added : Held
      added = record { claimed = inserted (inserted held.claimed (first_held a)) second; going = inserted held.going (going_from a) }

      pub seen_unfit : None ≡ busy_of met held → false ≡ core_sound (cell_of c)
      seen_unfit e = go (fits_of met) (member held.going (going_from a)) refl refl e
        where
          go : (b d : Bool) → fits_of met ≡ b → member held.going (going_from a) ≡ d → None ≡ cond b (cond d None (Some added)) None → false ≡ core_sound (cell_of c)
          go false d t u e = stops (sym busy_tested ∙ t)
          go true true t u e = passed_twice c held.claimed held.going rest p s.0 (lowest (λ n y. member held.going (going_from y) ≡ true) u)
          go true false t u e = absurd (cc)

      pub seen_busy : (more : Held) → Some more ≡ busy_of met held → Passed c more.claimed more.going left
      seen_busy more e = go (fits_of met) (member held.going (going_from a)) refl refl e
        where
          at_end : added ≡ more → fits_of met ≡ true → member held.going (going_from a) ≡ false → Passed c more.claimed more.going left
          at_end o t u =
              subst (λ (y : Held). Passed c y.claimed y.going left) o
              (passed_are c (ap (inserted (inserted held.claimed (first_held a))) second_is) refl refl
              (taken (λ n. inserted (inserted held.claimed (first_held (get_or c.agents n no_agent))) (second_held_in (cell_of c) (get_or c.agents n no_agent)))
              (λ n. inserted held.going (going_from (get_or c.agents n no_agent)))
              (passed_busy c held.claimed held.going rest p s.0 (lowest (λ n y. agent_fits (cell_of c) n y ≡ true) (sym busy_tested ∙ t)) (lowest (λ n y. member held.going (going_from y) ≡ false) u))))

          go : (b d : Bool) → fits_of met ≡ b → member held.going (going_from a) ≡ d → Some more ≡ cond b (cond d None (Some added)) None → Passed c more.claimed more.going left
          go false d t u e = absurd (cc)
          go true true t u e = absurd (cc)
          go true false t u e = at_end (cc) t u

-- ---- the whole

-- the places, the touches and the row decide
pub sound_seen : (c : Cell) → (core_sound (cell_of c) && (is_some (left_of c.touches c.used) && row_fits c.order)) ≡ sound (cell_of c)
unfolding sound books_sound touch_sum cell_of
sound_seen c = rw left_tested
