-- Ask, then commit, of every sound table and every agent that is given; and that a commit that goes through is a step call.
-- Idea: an ask tells the step's own word and number woken; a commit is the step call or is refused, by one test.
use Rattle.std.specs.Prelude.{◌≡◌, refl, ◌≢◌, true, List, [], ◌∷◌, ℕ, ◌≤◌, ◌<◌, Ok, Err}
use Rattle.std.proofs.Common.{sym, ◌∙◌, arith}
use Rattle.std.proofs.Math.Path.{ap, subst}
use Rattle.table.proofs.BaseLaws.{Told, yea, nay, told, clash}
use Rattle.table.specs.Bounds.{Sized}
use Rattle.table.specs.Cell.{State, cell_of, table_of}
use Rattle.table.proofs.CellLaws.{back, bounded}
use Rattle.table.specs.Sound.{sound}
use Rattle.table.specs.declared.Cell.{Cell}
use Rattle.meaning.specs.Answers.{Answer, Asked, Would}
use Rattle.meaning.specs.declared.Stepped.{Stepped}
use Rattle.meaning.specs.declared.Word.{Word}
use Rattle.meaning.specs.declared.Word.TheVariants.{Looked, Took, Held, Back, Slept, Left, Came, Opened, Put, Asleep, Done}
use Rattle.meaning.specs.Step.{Outcome, step}
use Rattle.meaning.specs.Codes.{word_number}
use Rattle.meaning.specs.Touch.{touch_of}
use Rattle.meaning.specs.Ask.{told_place, ask_of, agrees, commit_of}
use Rattle.meaning.proofs.AskLaws.{same_agrees, other_differs, ask_given, step_given, commit_through, commit_stopped}
use Rattle.meaning.specs.Run.{Call, step_call, touch_call, commit_call, step_reply, made, turned_away, step_of, call_of, run, answers}
use Rattle.meaning.specs.Plain.{Plain, plain_step, plain_run}
use Rattle.demands.specs.Invariant.{Sound}
use Rattle.demands.specs.NoMore.{ChangesBy}
use Rattle.demands.proofs.StepWays.{step_way}
use Rattle.demands.proofs.SoundTest.{sound_bounded}
use Rattle.demands.proofs.Always.{step_back}
use Rattle.demands.proofs.NoMoreLaws.{step_no_more}
use Rattle.demands.specs.Asking.{PlaceThen, is_still, AskThenCommit, as_steps, AreSteps}
use Rattle.demands.proofs.TellingLaws.{way_tells, way_then}

-- ---- the numbers of words

-- 10 is the highest
pub word_small : (w : Word) → word_number w < 11
word_small Looked = omega arith
word_small Took = omega arith
word_small Held = omega arith
word_small Back = omega arith
word_small Slept = omega arith
word_small Left = omega arith
word_small Came = omega arith
word_small Opened = omega arith
word_small Put = omega arith
word_small Asleep = omega arith
word_small Done = omega arith

-- so 11 and above are no word's
pub no_such_word : (n : ℕ) → 11 ≤ n → (w : Word) → word_number w ≢ n
no_such_word n l w f = omega (arith, word_small w)

-- ---- ask, then commit

-- a step with such a word leaves the cell as it was
still_same : (w : Word) (c d : State) (x : ℕ) → is_still w ≡ true → ChangesBy w c x d → d ≡ c
still_same Held c d x e m = m
still_same Asleep c d x e m = m
still_same Done c d x e m = m
still_same Looked c d x e m = clash e refl
still_same Took c d x e m = clash e refl
still_same Back c d x e m = clash e refl
still_same Slept c d x e m = clash e refl
still_same Left c d x e m = clash e refl
still_same Came c d x e m = clash e refl
still_same Opened c d x e m = clash e refl
still_same Put c d x e m = clash e refl

module _ (t : Cell) (z : Sized t) (x wish : ℕ) (s : sound (cell_of t) ≡ true) (g : (cell_of t).given x ≡ true) where
  abbrev c : State
  c = cell_of t

  abbrev o : Outcome
  o = step c x wish

  is_sound : Sound c
  is_sound = sound_bounded c (bounded t z) s

  -- the cell after the step call is that after the step
  after_step : cell_of (step_of t x wish).cell ≡ o.cell
  unfolding made
  after_step = ap (λ (r : Stepped). cell_of r.cell) (step_given t x wish s g) ∙ step_back t z is_sound x g wish

  still_table : is_still o.word ≡ true → (step_of t x wish).cell ≡ t
  unfolding made
  still_table e = ap (λ (r : Stepped). r.cell) (step_given t x wish s g)
      ∙ ap table_of (still_same o.word c o.cell x e (step_no_more c is_sound x g wish).changes.1) ∙ back t z

  -- whether three numbers are what is told
  told_test : (w n q : ℕ) → agrees (ask_of t x wish) w n q ≡ agrees (Would o.word o.woken (told_place c x wish)) w n q
  told_test w n q = ap (λ (a : Asked). agrees a w n q) (ask_given t x wish s g)

  goes_through : commit_of t x wish (word_number o.word) o.woken (told_place c x wish) ≡ step_of t x wish
  goes_through =
      let w : ℕ = word_number o.word in
      let q : ℕ = told_place c x wish in
      commit_through t x wish w o.woken q (told_test w o.woken q ∙ same_agrees o.word o.woken q w o.woken q refl refl refl)

  pub ask_commit : AskThenCommit t x wish
  unfolding made
  ask_commit = record {
    word = o.word;
    woken = o.woken;
    place = told_place c x wish;
    asked = ask_given t x wish s g;
    answered = ap (λ (r : Stepped). r.answer) (step_given t x wish s g);
    tells = way_tells c is_sound x g (step_way c is_sound x g wish);
    place_then = subst (λ (d : State). PlaceThen o.word c x d (told_place c x wish)) (sym after_step) (way_then c is_sound x g (step_way c is_sound x g wish));
    through = goes_through;
    differs = λ w n q d. commit_stopped t x wish w n q (told_test w n q
        ∙ other_differs o.word o.woken (told_place c x wish) w n q (λ a b e. d (sym a) (sym b) (sym e)));
    no_word = λ w n q d. commit_stopped t x wish w n q (told_test w n q
        ∙ other_differs o.word o.woken (told_place c x wish) w n q (λ a b e. d o.word a));
    still = λ e. ap (λ (r : Stepped). r.cell) goes_through ∙ still_table e;
  }

-- ---- a commit that goes through is a step call

-- the same table
run_steps : (t : Cell) (calls : List Call) → run t calls ≡ run t (as_steps t calls)
unfolding run as_steps call_of commit_of turned_away
run_steps t [] = refl
run_steps t (step_call x wish ∷ calls) = run_steps (step_of t x wish).cell calls
run_steps t (touch_call q n ∷ calls) = run_steps (touch_of t q n).cell calls
run_steps t (commit_call x wish word woken place ∷ calls) =
    go (told (agrees (ask_of t x wish) word woken place)) (run_steps (step_of t x wish).cell calls) (run_steps t calls)
  where
    go : Told (agrees (ask_of t x wish) word woken place)
        → run (step_of t x wish).cell calls ≡ run (step_of t x wish).cell (as_steps (step_of t x wish).cell calls) → run t calls ≡ run t (as_steps t calls)
        → run t (commit_call x wish word woken place ∷ calls) ≡ run t (as_steps t (commit_call x wish word woken place ∷ calls))
    go (yea e) through _ = rw e through
    go (nay e) _ refused = rw e refused

-- the plain tree takes of a commit what it takes of a step call
plain_commit : (p : Plain) (x wish word woken place : ℕ) (answer : Answer)
    → plain_step p (commit_call x wish word woken place) (step_reply answer) ≡ plain_step p (step_call x wish) (step_reply answer)
unfolding plain_step
plain_commit p x wish word woken place (Ok o) = refl
plain_commit p x wish word woken place (Err number) = refl

-- the same plain tree
abbrev Alike : Cell → List Call → Plain → Type 0
Alike t calls p = plain_run p calls (answers t calls) ≡ plain_run p (as_steps t calls) (answers t (as_steps t calls))

plain_steps : (t : Cell) (calls : List Call) (p : Plain) → Alike t calls p
unfolding plain_run answers as_steps call_of commit_of turned_away plain_step
plain_steps t [] p = refl
plain_steps t (step_call x wish ∷ calls) p = plain_steps (step_of t x wish).cell calls _
plain_steps t (touch_call q n ∷ calls) p = plain_steps (touch_of t q n).cell calls _
plain_steps t (commit_call x wish word woken place ∷ calls) p =
    go (told (agrees (ask_of t x wish) word woken place)) (plain_steps (step_of t x wish).cell calls) (plain_steps t calls p)
  where
    go : Told (agrees (ask_of t x wish) word woken place) → ((q : Plain) → Alike (step_of t x wish).cell calls q) → Alike t calls p
        → Alike t (commit_call x wish word woken place ∷ calls) p
    go (yea e) through _ = rw e (ap (λ (q : Plain). plain_run q calls (answers (step_of t x wish).cell calls))
        (plain_commit p x wish word woken place (step_of t x wish).answer) ∙ through _)
    go (nay e) _ refused = rw e refused

-- of every table and every list of calls
pub commits_steps : (t : Cell) (calls : List Call) → AreSteps t calls
commits_steps t calls = record { table = run_steps t calls; plain = plain_steps t calls }
