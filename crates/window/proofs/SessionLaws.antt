-- Every session of a card is right: `session_right`.
-- Idea: one act at a time, and a command by whether it is 1; a step's window by its answer.
-- Assumes nothing.
use Rattle.std.specs.Prelude.{◌≡◌, Bool, false, not, ◌&&◌, ◌||◌, cond, List, [], ◌∷◌, ◌++◌, ℕ, ◌<◌, ltb, Ok, Err}
use Rattle.std.proofs.Math.Path.{refl, ap}
use Rattle.std.proofs.Common.{sym, ◌∙◌, subst, arith, eqb-true, eq-eqb}
use Rattle.std.proofs.Math.Bool.{true, and-true, and-false, or-true}
use Rattle.std.proofs.lemmas.Bool.{false≢true}
use Rattle.std.proofs.Math.Dec.{eqb}
use Rattle.sets.specs.Word.{has}
use Rattle.table.proofs.BaseLaws.{Told, yea, nay, told, clash}
use Rattle.table.specs.Cell.{cell_of}
use Rattle.table.specs.Sound.{sound}
use Rattle.table.specs.Idle.{idle}
use Rattle.table.specs.declared.Cell.{Cell}
use Rattle.meaning.specs.Answers.{Answer, Refused}
use Rattle.meaning.specs.Run.{Call, step_call, made, turned_away, step_of, call_of, run}
use Rattle.window.specs.declared.Window.{Window}
use Rattle.window.specs.declared.Commanded.{Commanded}
use Rattle.window.specs.Window.{step_command, woke_flag, rest_flag, refused_flag, with_flag, lined, step_window, stepped, command_of, clear_of}
use Rattle.window.specs.Session.{Act, writes, commands, clears, acted, session, call_of_act, calls_of, LineRight, sets_line, clears_flag, no_clear, step_now, seen_for, sees, CardsKept, Answered, SessionRight}
use Rattle.window.proofs.BitLaws.{has_flag, has_cleared}

-- ---- a window after a step

module _ (w : Window) (rest : Bool) where
  step_line : (answer : Answer) → LineRight (step_window w rest answer)
  unfolding lined
  step_line (Ok o) = refl
  step_line (Err number) = refl

  step_kept : (answer : Answer) → CardsKept w (step_window w rest answer)
  unfolding lined
  step_kept (Ok o) = record { command = refl; agent = refl; wish = refl; mask = refl }
  step_kept (Err number) = record { command = refl; agent = refl; wish = refl; mask = refl }

  step_answer : (answer : Answer) → Answered (step_window w rest answer) answer
  unfolding lined
  step_answer (Ok o) = (refl, refl)
  step_answer (Err number) = (refl, refl)

  -- flag i, which was h: two flags may be set, and no number is both of theirs
  two_flags : (woke h : Bool) (i : ℕ) → (rest && eqb i rest_flag || (woke && eqb i woke_flag || h)) ≡ (cond (eqb i woke_flag) woke (cond (eqb i rest_flag) rest false) || h && true)
  two_flags woke h i = go (told (eqb i woke_flag)) (told (eqb i rest_flag))
    where
      Goal : Bool → Bool → Type 0
      Goal p q = (rest && q || (woke && p || h)) ≡ (cond p woke (cond q rest false) || h && true)

      go : Told (eqb i woke_flag) → Told (eqb i rest_flag) → Goal (eqb i woke_flag) (eqb i rest_flag)
      go (yea e) (yea f) = clash f (ap (λ (n : ℕ). eqb n rest_flag) (eqb-true i woke_flag e))
      go (yea e) (nay f) = rw (e, f, and-false rest, and-true woke, and-true h)
      go (nay e) (yea f) = rw (e, f, and-true rest, and-false woke, and-true h)
      go (nay e) (nay f) = rw (e, f, and-false rest, and-false woke, and-true h)

  step_flag : (answer : Answer) (i : ℕ) → i < 8 → has (step_window w rest answer).flags i ≡ (seen_for rest answer i || has w.flags i && true)
  unfolding lined
  step_flag (Ok o) i l =
      has_flag rest_flag rest (with_flag woke_flag (ltb 0 o.woken) w.flags) i l
      ∙ ap (λ (h : Bool). rest && eqb i rest_flag || h) (has_flag woke_flag (ltb 0 o.woken) w.flags i l)
      ∙ two_flags (ltb 0 o.woken) (has w.flags i) i
  step_flag (Err number) i l = has_flag refused_flag true w.flags i l ∙ ap (λ (h : Bool). eqb i refused_flag || h) (sym (and-true (has w.flags i)))

  -- a step is seen for the flags 0 to 2 alone
  seen_small : (answer : Answer) (i : ℕ) → seen_for rest answer i ≡ true → i < 8
  seen_small (Ok o) i e = go (told (eqb i woke_flag)) (told (eqb i rest_flag)) e
    where
      go : Told (eqb i woke_flag) → Told (eqb i rest_flag) → cond (eqb i woke_flag) (ltb 0 o.woken) (cond (eqb i rest_flag) rest false) ≡ true → i < 8
      go (yea p) _ e = omega (arith, eqb-true i woke_flag p)
      go (nay p) (yea q) e = omega (arith, eqb-true i rest_flag q)
      go (nay p) (nay q) e = absurd (false≢true (sym (ap (λ (b : Bool). cond b (ltb 0 o.woken) (cond (eqb i rest_flag) rest false)) p ∙ ap (λ (b : Bool). cond b rest false) q) ∙ e))
  seen_small (Err number) i e = omega (arith, eqb-true i refused_flag e)

-- ---- one act

-- the command 1, and any other
by_step : (s : Commanded) → eqb s.window.command step_command ≡ true → acted s commands ≡ stepped s.window (step_now s)
unfolding acted command_of
by_step s e = ap (λ (b : Bool). cond b (stepped s.window (step_now s)) (record { cell = s.cell; window = lined s.window })) e

by_other : (s : Commanded) → eqb s.window.command step_command ≡ false → acted s commands ≡ record { cell = s.cell; window = lined s.window }
unfolding acted command_of
by_other s e = ap (λ (b : Bool). cond b (stepped s.window (step_now s)) (record { cell = s.cell; window = lined s.window })) e

-- so what is shown of a step's window, and of one whose line is set, is shown of a command's
module _ (P : Window → Type 0) (s : Commanded) where
  of_command : P (step_window s.window (idle (cell_of (step_now s).cell)) (step_now s).answer) → P (lined s.window) → P (acted s commands).window
  of_command p q = go (told (eqb s.window.command step_command))
    where
      go : Told (eqb s.window.command step_command) → P (acted s commands).window
      go (yea e) = subst (λ (u : Commanded). P u.window) (sym (by_step s e)) p
      go (nay e) = subst (λ (u : Commanded). P u.window) (sym (by_other s e)) q

act_line : (s : Commanded) (a : Act) → sets_line a ≡ true → LineRight (acted s a).window
unfolding acted clear_of lined
act_line s (writes command agent wish mask) e = absurd (false≢true e)
act_line s commands e = of_command LineRight s (step_line s.window _ (step_now s).answer) refl
act_line s (clears ones) e = refl

act_kept : (s : Commanded) (a : Act) → sets_line a ≡ true → CardsKept s.window (acted s a).window
unfolding acted clear_of lined
act_kept s (writes command agent wish mask) e = absurd (false≢true e)
act_kept s commands e = of_command (CardsKept s.window) s (step_kept s.window _ (step_now s).answer) (record { command = refl; agent = refl; wish = refl; mask = refl })
act_kept s (clears ones) e = record { command = refl; agent = refl; wish = refl; mask = refl }

-- flag i after an act
act_flag : (s : Commanded) (a : Act) (i : ℕ) → i < 8 → has (acted s a).window.flags i ≡ (sees i s a || (has s.window.flags i && not (clears_flag i a)))
unfolding acted clear_of lined
act_flag s (writes command agent wish mask) i l = sym (and-true (has s.window.flags i))
act_flag s commands i l = go (told (eqb s.window.command step_command))
  where
    seen : Bool
    seen = seen_for (idle (cell_of (step_now s).cell)) (step_now s).answer i

    go : Told (eqb s.window.command step_command) → has (acted s commands).window.flags i ≡ (eqb s.window.command step_command && seen || has s.window.flags i && true)
    go (yea e) = ap (λ (u : Commanded). has u.window.flags i) (by_step s e) ∙ step_flag s.window _ (step_now s).answer i l
        ∙ ap (λ (b : Bool). b && seen || has s.window.flags i && true) (sym e)
    go (nay e) = ap (λ (u : Commanded). has u.window.flags i) (by_other s e) ∙ sym (and-true (has s.window.flags i))
        ∙ ap (λ (b : Bool). b && seen || has s.window.flags i && true) (sym e)
act_flag s (clears ones) i l = has_cleared s.window.flags ones i l

-- a refused step leaves the cell
refusing : Answer → Bool
refusing (Ok o) = false
refusing (Err number) = true

refused_stays : (t : Cell) (x wish number : ℕ) → (step_of t x wish).answer ≡ Refused number → (step_of t x wish).cell ≡ t
unfolding step_of made turned_away refusing
refused_stays t x wish number h = go (told (sound (cell_of t))) (told ((cell_of t).given x))
  where
    go : Told (sound (cell_of t)) → Told ((cell_of t).given x) → (step_of t x wish).cell ≡ t
    go (yea e) (yea g) = clash (ap refusing h) (rw (e, g))
    go (yea e) (nay g) = rw (e, g)
    go (nay e) _ = rw e

-- the calls of an act, made before others
act_calls : (s : Commanded) (a : Act) (calls : List Call) → run (acted s a).cell calls ≡ run s.cell (call_of_act s.window a ++ calls)
unfolding acted run call_of
act_calls s (writes command agent wish mask) calls = refl
act_calls s commands calls = go (told (eqb s.window.command step_command))
  where
    one : List Call
    one = step_call s.window.agent s.window.wish ∷ []

    go : Told (eqb s.window.command step_command) → run (acted s commands).cell calls ≡ run s.cell (cond (eqb s.window.command step_command) one [] ++ calls)
    go (yea e) = ap (λ (u : Commanded). run u.cell calls) (by_step s e) ∙ ap (λ (b : Bool). run s.cell (cond b one [] ++ calls)) (sym e)
    go (nay e) = ap (λ (u : Commanded). run u.cell calls) (by_other s e) ∙ ap (λ (b : Bool). run s.cell (cond b one [] ++ calls)) (sym e)
act_calls s (clears ones) calls = refl

-- ---- any acts

session_cell : (acts : List Act) (s : Commanded) → (session s acts).cell ≡ run s.cell (calls_of s acts)
unfolding session calls_of run
session_cell [] s = refl
session_cell (a ∷ acts) s = session_cell acts (acted s a) ∙ act_calls s a (calls_of (acted s a) acts)

session_stays : (acts : List Act) (s : Commanded) (i : ℕ) → i < 8 → has s.window.flags i ≡ true → no_clear i acts ≡ true → has (session s acts).window.flags i ≡ true
unfolding session no_clear
session_stays [] s i l h e = h
session_stays (a ∷ acts) s i l h e = go (session_stays acts (acted s a) i l) (told (clears_flag i a))
  where
    go : (has (acted s a).window.flags i ≡ true → no_clear i acts ≡ true → has (session (acted s a) acts).window.flags i ≡ true) → Told (clears_flag i a)
        → has (session (acted s a) acts).window.flags i ≡ true
    go later (yea c) = absurd (false≢true (sym (ap (λ (b : Bool). cond b false (no_clear i acts)) c) ∙ e))
    go later (nay c) = later
        (act_flag s a i l ∙ ap (λ (b : Bool). sees i s a || (b && not (clears_flag i a))) h ∙ ap (λ (b : Bool). sees i s a || not b) c ∙ or-true (sees i s a))
        (sym (ap (λ (b : Bool). cond b false (no_clear i acts)) c) ∙ e)

session_seen : (acts : List Act) (s : Commanded) (i : ℕ) → sees i s commands ≡ true → no_clear i acts ≡ true → has (session (acted s commands) acts).window.flags i ≡ true
session_seen acts s i e n = session_stays acts (acted s commands) i small
    (act_flag s commands i small ∙ ap (λ (b : Bool). b || has s.window.flags i && true) e) n
  where
    small : i < 8
    small = go (told (eqb s.window.command step_command))
      where
        go : Told (eqb s.window.command step_command) → i < 8
        go (yea c) = seen_small s.window _ (step_now s).answer i (sym (ap (λ (b : Bool). b && seen_for (idle (cell_of (step_now s).cell)) (step_now s).answer i) c) ∙ e)
        go (nay c) = absurd (false≢true (sym (ap (λ (b : Bool). b && seen_for (idle (cell_of (step_now s).cell)) (step_now s).answer i) c) ∙ e))

-- of every cell and window, whatever they hold, and any acts
pub session_right : (s : Commanded) (acts : List Act) → SessionRight s acts
session_right s acts = record {
  cell = session_cell acts s;
  line = act_line (session s acts);
  kept = act_kept (session s acts);
  flag = act_flag (session s acts);
  answer = λ e. subst (λ (u : Commanded). Answered u.window (step_now (session s acts)).answer) (sym (by_step (session s acts) (eq-eqb (session s acts).window.command step_command e)))
      (step_answer (session s acts).window _ (step_now (session s acts)).answer);
  refused = λ number e f. ap (λ (u : Commanded). u.cell) (by_step (session s acts) (eq-eqb (session s acts).window.command step_command e))
      ∙ refused_stays (session s acts).cell (session s acts).window.agent (session s acts).window.wish number f;
  nothing = by_other (session s acts);
  stays = session_stays acts s;
  seen = session_seen acts s;
}
