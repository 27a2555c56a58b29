-- What is told of the decision is what the step would give; and the decision carried out if that is still so is a commit.
-- Idea: the place is read off the change that the stage decides; word and number woken are those of the change, carried out.
use Rattle.std.specs.Prelude.{◌≡◌, Bool, true, false, ◌&&◌, ℕ, ◌<◌, ltb, leb, Option, Some, None}
use Rattle.std.proofs.Math.Path.{refl, sym, ap, ap₂}
use Rattle.std.proofs.Common.{◌∙◌, eqb-true}
use Rattle.std.proofs.Math.Bool.{cond}
use Rattle.std.proofs.Math.Dec.{eqb}
use Rattle.std.proofs.Math.ListN.{get_or}
use Rattle.sets.specs.Set.{member}
use Rattle.table.proofs.BaseLaws.{Told, yea, nay, told, clash}
use Rattle.table.specs.Bounds.{Sized}
use Rattle.table.specs.Cell.{Land, State, none, no_agent, cell_of, land_of, kind_of, linked, fresh_number, exit_kind, open_kind, release_kind, looks_home, chooses}
use Rattle.table.specs.Cell.{looking, found, holding, holding_both, on_way, on_way_own, on_way_both, asleep}
use Rattle.table.proofs.CellLaws.{is_given}
use Rattle.table.specs.Sound.{sound}
use Rattle.table.specs.declared.Agent.{Agent}
use Rattle.table.specs.declared.Cell.{Cell}
use Rattle.soundness.specs.Seen.{seen_of}
use Rattle.meaning.specs.Answers.{Did, Asked, Would}
use Rattle.meaning.specs.declared.Stepped.{Stepped}
use Rattle.meaning.specs.Refusals.{answer_differs}
use Rattle.meaning.specs.Step.{Outcome, choice, fires, stays, still, turn, take, release, leave, arrive, dissolve, put, step_at, step}
use Rattle.meaning.specs.Run.{made, turned_away, step_of}
use Rattle.meaning.specs.Ask.{none_told, choice_told, told_at, told_place, would, ask_of, agrees, hands_back, commit_of, handed_of}
use Rattle.moves.specs.Motions.{shifted, woken_in}
use Rattle.moves.specs.declared.Motion.{Motion}
use Rattle.moves.specs.declared.Motion.TheVariants.{Leave, Arrive, Dissolve, Put}
use Rattle.stages.specs.Changes.{looks, locks_second, puts_or_sleeps, holds, acts, travels, carried, change_at}
use Rattle.stages.proofs.ChangeLaws.{step_carried}
use Rattle.stages.specs.declared.Change.{Change}
use Rattle.stages.specs.declared.Change.TheVariants.{Still, Turn, Take, Release, Move}
use Rattle.step.specs.Decided.{told_by, locked_choice, motion_choice, motion_word, settling, change_in, settling_in, decided, agent_at, carried_out, carried_by}
use Rattle.step.proofs.CarryLaws.{index, lock_read, decided_step}
use Rattle.step.specs.declared.Decision.{Decision}
use Rattle.asking.specs.Asked.{woken_by, tell_of, asked_of, made_if, say_of, goes_on, only_if, moved_if, settled_if, carried_if}

-- ---- the chosen place

-- what chooses no place tells none
none_told_lem : (b : Bool) → ◌≡◌ {A = ℕ} (cond b none_told none_told) none_told
none_told_lem true = refl
none_told_lem false = refl

-- the place that a change of agent a chooses, whatever its kind
abbrev chosen_by : Change → Agent → ℕ
chosen_by (Still w) a = none_told
chosen_by (Turn stage remembered w) a = none_told
chosen_by (Take q stage remembered chosen) a = locked_choice stage chosen
chosen_by (Release p q stage remembered w) a = none_told
chosen_by (Move m) a = motion_choice m a

-- what is told of the decision is told of it, held or not
settled_told : (k : Change) (x : ℕ) (a : Agent) (lock : ℕ) → (settling k x a lock).chosen ≡ told_by a (chosen_by k a)
settled_told (Still w) x a lock = sym (none_told_lem (chooses (kind_of a)))
settled_told (Turn stage remembered w) x a lock = sym (none_told_lem (chooses (kind_of a)))
settled_told (Take q stage remembered chosen) x a lock = go (told (ltb q 64 && eqb lock none))
  where
    go : Told (ltb q 64 && eqb lock none) → (settling (Take q stage remembered chosen) x a lock).chosen ≡ told_by a (locked_choice stage chosen)
    go (yea e) = rw e
    go (nay e) = rw e
settled_told (Release p q stage remembered w) x a lock = sym (none_told_lem (chooses (kind_of a)))
settled_told (Move m) x a lock = refl

-- a kind of action that chooses is not exit, and not release
chooses_not : (other : ℕ) → chooses other ≡ false → (kind : ℕ) → chooses kind ≡ true → eqb kind other ≡ false
chooses_not other n kind c = go (told (eqb kind other))
  where
    go : Told (eqb kind other) → eqb kind other ≡ false
    go (yea e) = clash c (ap chooses (eqb-true kind other e) ∙ n)
    go (nay e) = e

module _ (l : Land) (a : Agent) where
  -- what is told of a change
  abbrev tells : Change → ℕ
  tells k = told_by a (chosen_by k a)

  -- neither of two changes tells a place
  quiet : (b : Bool) (r s : Change) → tells r ≡ none_told → tells s ≡ none_told → tells (cond b r s) ≡ none_told
  quiet true r s e f = e
  quiet false r s e f = f

  abbrev silent : ◌≡◌ {A = ℕ} (told_by a none_told) none_told
  silent = none_told_lem (chooses (kind_of a))

  second_told : (q : ℕ) → tells (locks_second a q) ≡ told_by a (choice_told q)
  unfolding locks_second
  second_told q = go (told (ltb q 64)) (told (chooses (kind_of a)))
    where
      go : Told (ltb q 64) → Told (chooses (kind_of a)) → tells (locks_second a q) ≡ told_by a (choice_told q)
      go (yea e) (yea k) = rw (e, k, chooses_not exit_kind refl (kind_of a) k)
      go (yea e) (nay k) = rw (e, k)
      go (nay e) _ = rw e

  put_told : (q : ℕ) → tells (puts_or_sleeps a q) ≡ none_told
  unfolding puts_or_sleeps
  put_told q = quiet (ltb q 64) _ _ silent silent

  held_told : (wish : ℕ) → tells (holds l a wish) ≡ told_by a (cond (stays l a) (choice_told (choice l a wish)) none_told)
  unfolding holds
  held_told wish = go (told (stays l a)) (told (chooses (kind_of a))) (told (eqb (kind_of a) release_kind))
    where
      go : Told (stays l a) → Told (chooses (kind_of a)) → Told (eqb (kind_of a) release_kind)
          → tells (holds l a wish) ≡ told_by a (cond (stays l a) (choice_told (choice l a wish)) none_told)
      go (yea e) (yea k) _ = rw (e, chooses_not release_kind refl (kind_of a) k) (second_told (choice l a wish))
      go (yea e) (nay k) (yea r) = rw (e, r) (put_told (fresh_number l.used) ∙ sym (rw k))
      go (yea e) (nay k) (nay r) = rw (e, r) (second_told (choice l a wish))
      go (nay e) _ _ = rw e

  acted_told : tells (acts l a) ≡ told_by a (cond (fires l a) a.chosen none_told)
  unfolding acts
  acted_told = go (told (fires l a)) (told (eqb (kind_of a) open_kind))
    where
      go : Told (fires l a) → Told (eqb (kind_of a) open_kind) → tells (acts l a) ≡ told_by a (cond (fires l a) a.chosen none_told)
      go (yea e) (yea k) = rw (e, k)
      go (yea e) (nay k) = rw (e, k)
      go (nay e) _ = rw e

  looked_told : tells (looks l a) ≡ none_told
  unfolding looks
  looked_told = quiet (looks_home (kind_of a)) _ _ silent (quiet (linked l a.home) _ _ silent silent)

  travelled_told : tells (travels l a) ≡ none_told
  unfolding travels
  travelled_told = quiet (eqb a.stage on_way) _ _ silent (quiet (eqb a.stage on_way_own) _ _ silent silent)

  -- what the change of a stage tells is the chosen place
  change_told : (stage wish : ℕ) → tells (change_at stage l a wish) ≡ told_at stage l a wish
  unfolding change_at told_at
  change_told stage wish = go (told (eqb stage looking)) (told (eqb stage found)) (told (eqb stage holding)) (told (eqb stage holding_both))
    where
      go : Told (eqb stage looking) → Told (eqb stage found) → Told (eqb stage holding) → Told (eqb stage holding_both)
          → tells (change_at stage l a wish) ≡ told_at stage l a wish
      go (yea s) _ (yea t) _ = clash t (ap (λ (n : ℕ). eqb n holding) (eqb-true stage looking s))
      go (yea s) _ (nay _) (yea t) = clash t (ap (λ (n : ℕ). eqb n holding_both) (eqb-true stage looking s))
      go (yea s) _ (nay t) (nay u) = rw (s, t, u) (looked_told ∙ sym silent)
      go (nay s) (yea r) (yea t) _ = clash t (ap (λ (n : ℕ). eqb n holding) (eqb-true stage found r))
      go (nay s) (yea r) (nay _) (yea t) = clash t (ap (λ (n : ℕ). eqb n holding_both) (eqb-true stage found r))
      go (nay s) (yea r) (nay t) (nay u) = rw (s, r, t, u)
      go (nay s) (nay r) (yea t) _ = rw (s, r, t) (held_told wish)
      go (nay s) (nay r) (nay t) (yea u) = rw (s, r, t, u) acted_told
      go (nay s) (nay r) (nay t) (nay u) =
          rw (s, r, t, u) (quiet (leb stage on_way_both) _ _ travelled_told (quiet (eqb stage asleep) _ _ silent silent) ∙ sym silent)

-- ---- word and number woken

-- the word of a motion
motion_told : (c : State) (x : ℕ) (a : Agent) (m : Motion) (place : ℕ) → Would (motion_word m) (woken_in c a m) place ≡ would (shifted c x a m) place
unfolding leave arrive dissolve put
motion_told c x a (Leave d) place = refl
motion_told c x a (Arrive d) place = refl
motion_told c x a Dissolve place = refl
motion_told c x a (Put q) place = refl

-- what a motion answers
pub motion_answer : (c : State) (x : ℕ) (a : Agent) (m : Motion) → (made (shifted c x a m)).answer ≡ Did (motion_word m) (woken_in c a m)
unfolding made leave arrive dissolve put
motion_answer c x a (Leave d) = refl
motion_answer c x a (Arrive d) = refl
motion_answer c x a Dissolve = refl
motion_answer c x a (Put q) = refl

-- word and number woken of the decision are those of the change, carried out
change_answered : (k : Change) (t : Cell) → Sized t → (x : ℕ) (a : Agent) (place : ℕ)
    → tell_of (settling_in t x a k).answer (woken_by (cell_of t) a (settling_in t x a k)) place ≡ would (carried (cell_of t) x a k) place
unfolding still turn take release cell_of
change_answered (Still w) t z x a place = refl
change_answered (Turn stage remembered w) t z x a place = refl
change_answered (Take q stage remembered chosen) t z x a place = go (told (eqb (get_or t.locks q 0) none))
  where
    go : Told (eqb (get_or t.locks q 0) none)
        → tell_of (settling_in t x a (Take q stage remembered chosen)).answer (woken_by (cell_of t) a (settling_in t x a (Take q stage remembered chosen))) place
        ≡ would (carried (cell_of t) x a (Take q stage remembered chosen)) place
    go (yea e) = rw (lock_read t.locks q z.locks, e)
    go (nay e) = rw (lock_read t.locks q z.locks, e)
change_answered (Release p q stage remembered w) t z x a place = refl
change_answered (Move m) t z x a place = motion_told (cell_of t) x a m place

-- ---- ask and commit

-- what is told with the number woken is told of the decision
pub told_of : (t : Cell) (a : Agent) (d : Decision) (n : ℕ) (r : Asked) → r ≡ tell_of d.answer n d.chosen → n ≡ woken_by (cell_of t) a d → r ≡ asked_of t a d
unfolding asked_of
told_of t a d n r e f = e ∙ ap (λ (k : ℕ). tell_of d.answer k d.chosen) f

module _ (t : Cell) (z : Sized t) (x wish : ℕ) where
  abbrev a : Agent
  a = agent_at t x

  abbrev change : Change
  change = change_in t a wish

  abbrev decision : Decision
  decision = decided (seen_of t x) t x wish

  -- the place, of an agent that is given
  place_told : member t.given x ≡ true → (settling_in t x a change).chosen ≡ told_place (cell_of t) x wish
  unfolding cell_of
  place_told g =
      let low : x < 64 = is_given t z x g in
      let read : a ≡ get_or t.agents x no_agent = ap (λ (n : ℕ). get_or t.agents n no_agent) (index x low) in
      settled_told change x a _ ∙ change_told (land_of t.places t.used t.order) a a.stage wish
      ∙ ap (λ (b : Agent). told_at b.stage (cell_of t).land b wish) read

  -- of an agent that is given, on a sound table
  told_step : member t.given x ≡ true → asked_of t a (settling_in t x a change) ≡ would (step (cell_of t) x wish) (told_place (cell_of t) x wish)
  unfolding asked_of step cell_of
  told_step g =
      let low : x < 64 = is_given t z x g in
      let read : a ≡ get_or t.agents x no_agent = ap (λ (n : ℕ). get_or t.agents n no_agent) (index x low) in
      ap (tell_of (settling_in t x a change).answer (woken_by (cell_of t) a (settling_in t x a change))) (place_told g)
      ∙ change_answered change t z x a _
      ∙ ap (λ (o : Outcome). would o (told_place (cell_of t) x wish)) (step_carried (cell_of t) x a a.stage wish ∙ ap (λ (b : Agent). step_at b.stage (cell_of t) x b wish) read)

  -- what is told of what is decided of a table is the ask
  pub decided_ask : asked_of t a decision ≡ ask_of t x wish
  unfolding decided ask_of cell_of asked_of
  decided_ask = go (told (sound (cell_of t))) (told (member t.given x))
    where
      go : Told (sound (cell_of t)) → Told (member t.given x) → asked_of t a decision ≡ ask_of t x wish
      go (nay s) _ = rw s
      go (yea s) (nay g) = rw (s, g)
      go (yea s) (yea g) = rw (s, g) (told_step g)

  -- the decision carried out if what is told passes a test: the step if an ask would pass it, 18 if not
  made_step : (passes : Asked → Bool) → made_if (passes (asked_of t a decision)) t x decision ≡ cond (passes (ask_of t x wish)) (step_of t x wish) (turned_away t answer_differs)
  unfolding made_if
  made_step passes = ap₂ (λ (b : Asked) (s : Stepped). cond (passes b) s (turned_away t answer_differs)) decided_ask (decided_step t z x wish)

  -- so a commit, of the three
  pub made_commit : (word woken place : ℕ) → made_if (agrees (asked_of t a decision) word woken place) t x decision ≡ commit_of t x wish word woken place
  unfolding commit_of
  made_commit word woken place = made_step (λ b. agrees b word woken place)

  -- and of the number of an ask
  pub made_handed : (n : ℕ) → made_if (hands_back (asked_of t a decision) n) t x decision ≡ handed_of t x wish n
  unfolding handed_of
  made_handed n = made_step (λ b. hands_back b n)

  -- what the step answers, with the place, is the ask
  said_ask : say_of (step_of t x wish).answer decision.chosen ≡ ask_of t x wish
  unfolding decided step_of made turned_away ask_of cell_of
  said_ask = go (told (sound (cell_of t))) (told (member t.given x))
    where
      go : Told (sound (cell_of t)) → Told (member t.given x) → say_of (step_of t x wish).answer decision.chosen ≡ ask_of t x wish
      go (nay s) _ = rw s
      go (yea s) (nay g) = rw (s, g)
      go (yea s) (yea g) = rw (s, g) (ap (would (step (cell_of t) x wish)) (place_told g))

  -- the decision carried out, whatever it answers, is the step; and if it answers as an ask of this number told, the commit of that number
  pub carried_any : (n : ℕ) → carried_if t x decision true n ≡ step_of t x wish
  unfolding carried_if
  carried_any n = decided_step t z x wish

  pub carried_handed : (n : ℕ) → carried_if t x decision false n ≡ handed_of t x wish n
  unfolding carried_if handed_of
  carried_handed n =
      ap (λ (s : Stepped). cond (hands_back (say_of s.answer decision.chosen) n) s (turned_away t answer_differs)) (decided_step t z x wish)
      ∙ ap (λ (b : Asked). cond (hands_back b n) (step_of t x wish) (turned_away t answer_differs)) said_ask

-- where a place moves, the motion is what is carried out; where none does, the agent and the locks
module _ (t : Cell) (x : ℕ) (d : Decision) (any : Bool) (n : ℕ) where
  -- by how a place moves, if one does
  abbrev by_motion : Option Motion → Stepped
  by_motion o = only_if t d any n (carried_by t x d o)

  pub carried_moved : (m : Motion) → d.motion ≡ Some m → moved_if t x d m any n ≡ carried_if t x d any n
  unfolding moved_if carried_if carried_out
  carried_moved m e = sym (ap by_motion e)

  pub carried_settled : d.motion ≡ None → settled_if t x d any n ≡ carried_if t x d any n
  unfolding settled_if carried_if carried_out
  carried_settled e = sym (ap by_motion e)

-- a step r, which is s, that goes on by the test y, and one that does not
module _ (t : Cell) (d : Decision) (any : Bool) (n : ℕ) (s r : Stepped) (e : r ≡ s) (y : Bool) (e' : y ≡ goes_on any r.answer d.chosen n) where
  abbrev made_by : Bool → Stepped
  made_by w = cond w s (turned_away t answer_differs)

  test : goes_on any s.answer d.chosen n ≡ y
  test = sym (ap (λ (q : Stepped). goes_on any q.answer d.chosen n) e) ∙ sym e'

  pub only_goes : y ≡ true → r ≡ only_if t d any n s
  only_goes h = e ∙ sym (ap made_by (test ∙ h))

  pub only_differs : y ≡ false → turned_away t answer_differs ≡ only_if t d any n s
  only_differs h = sym (ap made_by (test ∙ h))
