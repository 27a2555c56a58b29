-- The trail that a host writes by an ask before each call is the trail of the run: `asked_run`, of every accepted file and every list of calls.
-- Idea: at left and opened an ask tells the chosen place of stage 3, which is the agent's pick, and none for exit and release; and its number has word
-- and place in their own bits.
use Rattle.std.proofs.Math.Path.{◌≡◌, refl, sym, ap}
use Rattle.std.proofs.Common.{ap₂, ◌∙◌, subst, eq-eqb, ne_eqb}
use Rattle.std.specs.Prelude.{◌≢◌, ◌⊎◌, Bool, false, cond, ℕ, ◌%◌, eqb, Ok, Err}
use Rattle.std.proofs.Math.Logic.{inl, inr}
use Rattle.std.proofs.Math.Bool.{true}
use mathlib.Core.List.{List, [], ◌∷◌, ◌++◌}
use native.Mathlib.Omega.{arith}
use Rattle.table.proofs.BaseLaws.{Told, yea, nay, told, clash}
use Rattle.table.specs.Bounds.{Sized}
use Rattle.table.specs.Cell.{State, cell_of, table_of, kind_of, enter_kind, exit_kind, open_kind, release_kind, holding, holding_both}
use Rattle.table.proofs.CellLaws.{sized_table}
use Rattle.table.specs.Sound.{sound}
use Rattle.table.specs.declared.Agent.{Agent}
use Rattle.table.specs.declared.Cell.{Cell}
use Rattle.meaning.specs.Answers.{Asked, Would, Unasked}
use Rattle.meaning.specs.declared.Stepped.{Stepped}
use Rattle.meaning.specs.declared.Word.{Word}
use Rattle.meaning.specs.declared.Word.TheVariants.{Looked, Took, Held, Back, Slept, Left, Came, Opened, Put, Asleep, Done}
use Rattle.meaning.specs.Ask.{told_place, ask_of}
use Rattle.meaning.proofs.AskLaws.{committed, ask_given, ask_unsound, ask_unknown, step_given}
use Rattle.meaning.specs.Calculus.{Tree, next_of}
use Rattle.meaning.specs.Codes.{none_told, word_number, word_in, place_in, ask_number}
use Rattle.meaning.specs.File.{load, accepted}
use Rattle.meaning.specs.Plain.{Plain, plain_of, plain_step, plain_run, is_move, says_move}
use Rattle.meaning.specs.Refusals.{no_such_agent, unsound_table}
use Rattle.meaning.specs.Run.{Call, step_call, touch_call, commit_call, agent_of, wish_of, step_reply, made, turned_away, step_of, call_of, run, answers}
use Rattle.meaning.specs.Step.{Outcome, choice, step, still, put, leave, dissolve, arrive}
use Rattle.demands.proofs.Always.{sized_run, inv_run}
use Rattle.demands.specs.Asking.{on_chosen, Chooses, TellsPlace, tells_chosen, tells_none}
use Rattle.demands.proofs.AskingLaws.{word_small}
use Rattle.demands.proofs.DemandThree.{fresh_same, start_inv}
use Rattle.demands.specs.Fresh.{Fresh}
use Rattle.demands.proofs.HandedLaws.{place_of, Small, asked_small}
use Rattle.demands.specs.Invariant.{Inv, Sound}
use Rattle.demands.proofs.LoadingFile.{accepted_fresh}
use Rattle.demands.proofs.LoadingLaws.{fresh_forth}
use Rattle.demands.proofs.ReadingLaws.{agent_given}
use Rattle.demands.proofs.RunKeeps.{call_made, call_refused, run_keeps}
use Rattle.demands.proofs.SamePlain.{Same}
use Rattle.demands.proofs.SameTree.{given_kind}
use Rattle.demands.proofs.SoundTest.{sound_true}
use Rattle.demands.proofs.StepWays.{step_way}
use Rattle.demands.proofs.TellingLaws.{way_tells}
use Rattle.demands.specs.Ways.{Way, is_done, is_asleep, held_first, held_second, held_own, held_destination, looks_up, looks_at_home}
use Rattle.demands.specs.Ways.{sleeps_alone, takes_first, goes_back, sleeps_stuck, takes_second, puts, sleeps_full, gives_up, enters, exits, opens}
use Rattle.demands.specs.Ways.{takes_own, takes_destination, comes}
use Rattle.trail.specs.Trail.{byte_written, written_by, trail_run}
use Rattle.trail.specs.Written.{word_moves, told_bytes}
use Rattle.claims.specs.Claims.{asked_by, trail_asked, AskedAsRun}

-- ---- the bytes by an ask's number

-- the same by value: at left, opened and put the agent and the place, 255 for none; else nothing
abbrev pub asked_bytes : ℕ → Asked → List ℕ
asked_bytes x (Ok o) = cond (is_move o.word) (x ∷ o.place ∷ []) []
asked_bytes x (Err number) = []

-- the words of a move, by their numbers
word_moves_lem : (w : Word) → word_moves (word_number w) ≡ is_move w
word_moves_lem Looked = refl
word_moves_lem Took = refl
word_moves_lem Held = refl
word_moves_lem Back = refl
word_moves_lem Slept = refl
word_moves_lem Left = refl
word_moves_lem Came = refl
word_moves_lem Opened = refl
word_moves_lem Put = refl
word_moves_lem Asleep = refl
word_moves_lem Done = refl

-- the word stands in its bits, whatever is told beside it
word_told : (x : ℕ) (w : Word) (n q : ℕ)
    → told_bytes x (ask_number (Would w n q)) ≡ cond (is_move w) (x ∷ place_in (ask_number (Would w n q)) ∷ []) []
unfolding told_bytes
word_told x w n q =
    let l = word_small w in
    let e : word_in (ask_number (Would w n q)) ≡ word_number w = omega (arith, l) in
    let z : ask_number (Would w n q) % 256 ≡ 0 = omega arith in
    rw (eq-eqb (ask_number (Would w n q) % 256) 0 z, e, word_moves_lem w)

-- so by the number of what an ask tells, where number woken and place fit into their bits
would_told : (x : ℕ) (w : Word) (n q : ℕ) → Small (Would w n q) → told_bytes x (ask_number (Would w n q)) ≡ asked_bytes x (Would w n q)
would_told x w n q m =
    word_told x w n q
    ∙ ap (λ (b : ℕ). cond (is_move w) (x ∷ b ∷ []) []) (place_of (word_number w) n q (omega (arith, word_small w)) m.0 m.1)

-- a refusal tells none
refused_told : (x number : ℕ) → number % 256 ≢ 0 → told_bytes x number ≡ []
unfolding told_bytes
refused_told x number d = rw (ne_eqb (number % 256) 0 d)

-- on every table that a host can lend
pub told_asked : (t : Cell) → Sized t → (x wish : ℕ) → told_bytes x (ask_number (ask_of t x wish)) ≡ asked_bytes x (ask_of t x wish)
told_asked t z x wish = go (told (sound (cell_of t))) (told ((cell_of t).given x))
  where
    unasked : (number : ℕ) → number % 256 ≢ 0 → ask_of t x wish ≡ Unasked number → told_bytes x (ask_number (ask_of t x wish)) ≡ asked_bytes x (ask_of t x wish)
    unasked number d e = rw e (refused_told x number d)

    go : Told (sound (cell_of t)) → Told ((cell_of t).given x) → told_bytes x (ask_number (ask_of t x wish)) ≡ asked_bytes x (ask_of t x wish)
    go (nay s) _ = unasked unsound_table (λ n. omega arith) (ask_unsound t x wish s)
    go (yea s) (nay g) = unasked no_such_agent (λ n. omega arith) (ask_unknown t x wish s g)
    go (yea s) (yea g) =
        let o : Outcome = step (cell_of t) x wish in
        let e = ask_given t x wish s g in
        let m = subst Small e (asked_small t z x wish) in
        ap (λ (a : Asked). told_bytes x (ask_number a)) e ∙ would_told x o.word o.woken (told_place (cell_of t) x wish) m ∙ ap (asked_bytes x) (sym e)

-- ---- the place that is told is the byte that is written

module _ (c : State) (i : Sound c) (x : ℕ) (g : c.given x ≡ true) (p : Plain) (m : Same c p) where
  abbrev a : Agent
  a = c.agent x

  -- the plain tree knows the agent's next action
  kind_in : (next_of p.tree x).kind ≡ kind_of a
  kind_in = ap (λ (t : Tree). (next_of t x).kind) m.tree ∙ given_kind c x g (i.fit x)

  -- at stage 3 its pick is the chosen place
  picked : a.stage ≡ holding_both → kind_of a ≢ exit_kind → p.pick x ≡ a.chosen
  picked = subst (λ (b : Agent). b.stage ≡ holding_both → kind_of b ≢ exit_kind → p.pick x ≡ b.chosen) (agent_given c x g) (m.pick x)

  -- an enter and an open write the pick
  byte_chosen : (kind_of a ≡ enter_kind) ⊎ (kind_of a ≡ open_kind) → byte_written p x ≡ p.pick x
  byte_chosen (inl k) = rw (kind_in ∙ k)
  byte_chosen (inr k) = rw (kind_in ∙ k)

  -- an exit and a release write none
  byte_none : (kind_of a ≡ exit_kind) ⊎ (kind_of a ≡ release_kind) → byte_written p x ≡ none_told
  byte_none (inl k) = rw (kind_in ∙ k)
  byte_none (inr k) = rw (kind_in ∙ k)

  module _ {wish : ℕ} {word : Word} where
    told_chosen : (kind_of a ≡ enter_kind) ⊎ (kind_of a ≡ open_kind) → kind_of a ≢ exit_kind → a.stage ≡ holding_both → Chooses c.land a word
        → {place : ℕ} → TellsPlace c.land a wish word place → place ≡ byte_written p x
    told_chosen k n s h (tells_chosen _ l) = ap (λ (j : ℕ). cond (eqb j holding) (choice c.land a wish) a.chosen) s ∙ sym (byte_chosen k ∙ picked s n)
    told_chosen k n s h (tells_none d) = absurd (d h)

    told_none : (kind_of a ≡ exit_kind) ⊎ (kind_of a ≡ release_kind) → {place : ℕ} → TellsPlace c.land a wish word place → place ≡ byte_written p x
    told_none k (tells_chosen h l) = absurd (other k h.kind)
      where
        other : (kind_of a ≡ exit_kind) ⊎ (kind_of a ≡ release_kind) → (kind_of a ≡ enter_kind) ⊎ (kind_of a ≡ open_kind) → ⊥
        other (inl k) (inl h) = omega arith
        other (inl k) (inr h) = omega arith
        other (inr k) (inl h) = omega arith
        other (inr k) (inr h) = omega arith
    told_none k (tells_none d) = sym (byte_none k)

  -- so by every way of a step whose word says a move
  pub way_written : {wish : ℕ} {o : Outcome} {place : ℕ} → Way c x wish o → is_move o.word ≡ true → TellsPlace c.land a wish o.word place
      → place ≡ byte_written p x
  unfolding still put leave dissolve arrive
  way_written (is_done _) e t = clash e refl
  way_written (is_asleep _) e t = clash e refl
  way_written (held_first _ _) e t = clash e refl
  way_written (held_second _ _ _ _ _) e t = clash e refl
  way_written (held_own _ _) e t = clash e refl
  way_written (held_destination _ _) e t = clash e refl
  way_written (looks_up _ _ _) e t = clash e refl
  way_written (looks_at_home _ _) e t = clash e refl
  way_written (sleeps_alone _ _ _) e t = clash e refl
  way_written (takes_first _ _) e t = clash e refl
  way_written (goes_back _ _) e t = clash e refl
  way_written (sleeps_stuck _ _ _ _) e t = clash e refl
  way_written (takes_second _ _ _ _ _ _ _) e t = clash e refl
  way_written (puts q s k _ _) e t = told_none (inr k) t
  way_written (sleeps_full _ _ _) e t = clash e refl
  way_written (gives_up _ _) e t = clash e refl
  way_written (enters s k f) e t = told_chosen (inl k) (λ z. omega arith) s (record { kind = inl k; fires = on_chosen s f; not_back = unlike }) t
    where
      unlike : Left ≢ Back
      unlike z = let n : ◌≡◌ {A = ℕ} 0 1 = cc in omega arith
  way_written (exits s k f) e t = told_none (inl k) t
  way_written (opens s k f) e t = told_chosen (inr k) (λ z. omega arith) s (record { kind = inr k; fires = on_chosen s f; not_back = unlike }) t
    where
      unlike : Opened ≢ Back
      unlike z = let n : ◌≡◌ {A = ℕ} 0 1 = cc in omega arith
  way_written (takes_own _ _) e t = clash e refl
  way_written (takes_destination _ _) e t = clash e refl
  way_written (comes _) e t = clash e refl

-- ---- one call

module _ (t : Cell) (z : Sized t) (i : Inv (cell_of t)) (p : Plain) (m : Same (cell_of t) p) where
  -- a step call whose answer says a move
  step_asked : (x wish : ℕ) → says_move (step_reply (step_of t x wish).answer) ≡ true → asked_bytes x (ask_of t x wish) ≡ x ∷ byte_written p x ∷ []
  unfolding made turned_away
  step_asked x wish e = go (told ((cell_of t).given x))
    where
      go : Told ((cell_of t).given x) → asked_bytes x (ask_of t x wish) ≡ x ∷ byte_written p x ∷ []
      go (yea g) =
          let c : State = cell_of t in
          let o : Outcome = step c x wish in
          let w : is_move o.word ≡ true = sym (ap (λ (r : Stepped). says_move (step_reply r.answer)) (call_made t i x wish g)) ∙ e in
          let q = way_written c i.sound x g p m (step_way c i.sound x g wish) w (way_tells c i.sound x g (step_way c i.sound x g wish)) in
          ap (asked_bytes x) (ask_given t x wish (sound_true c i.sound) g) ∙ rw w (ap (λ (b : ℕ). x ∷ b ∷ []) q)
      go (nay g) = clash e (ap (λ (r : Stepped). says_move (step_reply r.answer)) (call_refused t i x wish g))

  -- any call whose reply says a move
  moving_asked : (k : Call) → says_move (call_of t k).reply ≡ true → asked_bytes (agent_of k) (ask_of t (agent_of k) (wish_of k)) ≡ agent_of k ∷ byte_written p (agent_of k) ∷ []
  unfolding call_of turned_away
  moving_asked (step_call x wish) e = step_asked x wish e
  moving_asked (touch_call q n) e = clash e refl
  moving_asked (commit_call x wish word woken place) e =
      committed (λ (s : Stepped). says_move (step_reply s.answer) ≡ true → asked_bytes x (ask_of t x wish) ≡ x ∷ byte_written p x ∷ [])
      t x wish word woken place (step_asked x wish) (λ f. clash f refl) e

  -- what is written by an ask is what is written beside the plain tree
  call_asked : (k : Call) → asked_by t k ≡ written_by p k (call_of t k).reply
  call_asked k = go (told (says_move (call_of t k).reply))
    where
      go : Told (says_move (call_of t k).reply) → asked_by t k ≡ written_by p k (call_of t k).reply
      go (yea e) = rw e (told_asked t z (agent_of k) (wish_of k) ∙ moving_asked k e)
      go (nay e) = rw e

-- ---- a run

run_asked : (calls : List Call) (t : Cell) → Sized t → Inv (cell_of t) → (p : Plain) → Same (cell_of t) p → trail_asked t calls ≡ trail_run p calls (answers t calls)
unfolding trail_asked trail_run answers run plain_run
run_asked [] t z i p m = refl
run_asked (k ∷ calls) t z i p m = ap₂ ◌++◌ (call_asked t z i p m k)
    (run_asked calls (call_of t k).cell (sized_run t (k ∷ []) z) (inv_run t (k ∷ []) z i) (plain_step p k (call_of t k).reply) (run_keeps (k ∷ []) t z i p m).same)

-- from a cell as a load leaves it
pub fresh_asked : (c : State) → Fresh c → (calls : List Call) → AskedAsRun c calls
fresh_asked c f calls =
    run_asked calls (table_of c) (sized_table c) (start_inv c f calls) (plain_of c) (subst (λ (d : State). Same d (plain_of c)) (sym (fresh_forth c f)) (fresh_same c f))

-- so from every accepted file
pub asked_run : (file : List ℕ) (c : State) → load file ≡ accepted c → (calls : List Call) → AskedAsRun c calls
asked_run file c e = fresh_asked c (accepted_fresh file c e)

-- ---- a step call

-- of a step call the ask's number alone tells what is written, whatever the table
pub asked_step : (t : Cell) (x wish : ℕ) → asked_by t (step_call x wish) ≡ told_bytes x (ask_number (ask_of t x wish))
unfolding call_of
asked_step t x wish = go (told (sound (cell_of t))) (told ((cell_of t).given x))
  where
    silent : (s : Bool) → cond {A = List ℕ} s [] [] ≡ []
    silent true = refl
    silent false = refl

    unasked : (number : ℕ) → number % 256 ≢ 0 → ask_of t x wish ≡ Unasked number
        → cond (says_move (step_reply (step_of t x wish).answer)) (told_bytes x (ask_number (ask_of t x wish))) [] ≡ told_bytes x (ask_number (ask_of t x wish))
    unasked number d e = rw (e, refused_told x number d) (silent (says_move (step_reply (step_of t x wish).answer)))

    once : (b : Bool) (s : List ℕ) → cond b (cond b s []) [] ≡ cond b s []
    once true s = refl
    once false s = refl

    go : Told (sound (cell_of t)) → Told ((cell_of t).given x)
        → cond (says_move (step_reply (step_of t x wish).answer)) (told_bytes x (ask_number (ask_of t x wish))) [] ≡ told_bytes x (ask_number (ask_of t x wish))
    go (nay s) _ = unasked unsound_table (λ n. omega arith) (ask_unsound t x wish s)
    go (yea s) (nay g) = unasked no_such_agent (λ n. omega arith) (ask_unknown t x wish s g)
    go (yea s) (yea g) =
        let c : State = cell_of t in
        let w : Word = (step c x wish).word in
        let n : ℕ = ask_number (Would w (step c x wish).woken (told_place c x wish)) in
        rw (ask_given t x wish s g, step_given t x wish s g, word_told x w (step c x wish).woken (told_place c x wish))
        (unfold made in once (is_move w) (x ∷ place_in n ∷ []))
