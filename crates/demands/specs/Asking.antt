-- What is claimed of ask and commit (document 02, W9), of every sound table and every agent that is given. Definitions only.
use Rattle.std.specs.Prelude.{◌≡◌, ◌⊎◌, ◌≢◌, Bool, true, false, cond, List, [], ◌∷◌, ℕ, ◌<◌, eqb}
use Rattle.table.specs.Cell.{Land, State, cell_of, kind_of, name_of, enter_kind, exit_kind, open_kind, holding, holding_both}
use Rattle.table.specs.declared.Agent.{Agent}
use Rattle.table.specs.declared.Cell.{Cell}
use Rattle.meaning.specs.declared.Word.{Word}
use Rattle.meaning.specs.declared.Word.TheVariants.{Looked, Took, Held, Back, Slept, Left, Came, Opened, Put, Asleep, Done}
use Rattle.meaning.specs.Answers.{Did, Would}
use Rattle.meaning.specs.declared.Stepped.{Stepped}
use Rattle.meaning.specs.Refusals.{answer_differs}
use Rattle.meaning.specs.Step.{qualifies, choice, fires}
use Rattle.meaning.specs.Codes.{word_number}
use Rattle.meaning.specs.Ask.{none_told, ask_of, agrees, commit_of}
use Rattle.meaning.specs.Run.{Call, step_call, touch_call, commit_call, turned_away, step_of, call_of, run, answers}
use Rattle.meaning.specs.Plain.{Plain, plain_run}

-- ---- the place that is told

-- "at stages 2 and 3 while the action fires": that of an agent, which is a, at stage 2 on some place, at stage 3 on the one that it is to fire on
pub data Fires (l : Land) (a : Agent) : Type 0 where
  on_some : (q : ℕ) → q < 64 → a.stage ≡ holding → qualifies l (kind_of a) (name_of a) a.home a.remembered q ≡ true → Fires l a
  on_chosen : a.stage ≡ holding_both → fires l a ≡ true → Fires l a

-- "for enter and open at stages 2 and 3 while the action fires and the word isn't back"
pub record Chooses (l : Land) (a : Agent) (word : Word) : Type 0 where
  pub kind : (kind_of a ≡ enter_kind) ⊎ (kind_of a ≡ open_kind)
  pub fires : Fires l a
  pub not_back : word ≢ Back

-- "the chosen place": at stage 2 the one that the step would choose, at stage 3 the one that it chose
abbrev pub chosen_place : Land → Agent → ℕ → ℕ
chosen_place l a wish = cond (eqb a.stage holding) (choice l a wish) a.chosen

-- "the chosen place (for ..), else 255": what is told of a step with this wish and word
pub data TellsPlace (l : Land) (a : Agent) (wish : ℕ) (word : Word) : ℕ → Type 0 where
  tells_chosen : Chooses l a word → chosen_place l a wish < 64 → TellsPlace l a wish word (chosen_place l a wish)
  tells_none : (Chooses l a word → ⊥) → TellsPlace l a wish word none_told

-- what the place is to a step of agent x with this word, from cell c to cell d: at left the place that its own is on its way into, none for exit;
-- at opened the one whose number becomes unused; at put none
abbrev pub PlaceThen : Word → State → ℕ → State → ℕ → Type 0
PlaceThen Left c x d place =
    (kind_of (c.agent x) ≡ enter_kind → (d.land.place (c.agent x).home).parent ≡ place) × (kind_of (c.agent x) ≡ exit_kind → place ≡ none_told)
PlaceThen Opened c x d place = (c.land.used place ≡ true) × (d.land.used place ≡ false)
PlaceThen Put c x d place = place ≡ none_told
PlaceThen Looked c x d place = Unit {0}
PlaceThen Took c x d place = Unit {0}
PlaceThen Held c x d place = Unit {0}
PlaceThen Back c x d place = Unit {0}
PlaceThen Slept c x d place = Unit {0}
PlaceThen Came c x d place = Unit {0}
PlaceThen Asleep c x d place = Unit {0}
PlaceThen Done c x d place = Unit {0}

-- ---- ask, then commit

-- the words of steps that change nothing
abbrev pub is_still : Word → Bool
is_still Held = true
is_still Asleep = true
is_still Done = true
is_still Looked = false
is_still Took = false
is_still Back = false
is_still Slept = false
is_still Left = false
is_still Came = false
is_still Opened = false
is_still Put = false

-- of a table, an agent and a wish
pub record AskThenCommit (t : Cell) (x wish : ℕ) : Type 0 where
  -- "Ask takes an agent and a wish and tells the word, the number woken and the chosen place"
  pub word : Word
  pub woken : ℕ
  pub place : ℕ
  pub asked : ask_of t x wish ≡ Would word woken place
  -- what it tells is what the step then answers
  pub answered : (step_of t x wish).answer ≡ Did word woken
  -- the place is told exactly where the request says, and is what the step then does
  pub tells : TellsPlace (cell_of t).land ((cell_of t).agent x) wish word place
  pub place_then : PlaceThen word (cell_of t) x (cell_of (step_of t x wish).cell) place
  -- a commit of the three with nothing between is the step, and so never answers 18
  pub through : commit_of t x wish (word_number word) woken place ≡ step_of t x wish
  -- "performs the step only if they are still what the step would give": a commit of anything else is 18
  pub differs : (w n q : ℕ) → (w ≡ word_number word → n ≡ woken → q ≡ place → ⊥) → commit_of t x wish w n q ≡ turned_away t answer_differs
  -- so is one of a word that does not exist
  pub no_word : (w n q : ℕ) → ((v : Word) → word_number v ≢ w) → commit_of t x wish w n q ≡ turned_away t answer_differs
  -- one of held, asleep or done goes through, as any, and changes nothing
  pub still : is_still word ≡ true → (commit_of t x wish (word_number word) woken place).cell ≡ t

-- ---- a commit that goes through is a step call

-- calls without commits: one that goes through, or that the step itself refuses, as its step call; one that is refused with 18 left out
unfoldable pub as_steps : Cell → List Call → List Call
unfolding call_of
as_steps t [] = []
as_steps t (step_call x wish ∷ calls) = step_call x wish ∷ as_steps (call_of t (step_call x wish)).cell calls
as_steps t (touch_call q n ∷ calls) = touch_call q n ∷ as_steps (call_of t (touch_call q n)).cell calls
as_steps t (commit_call x wish word woken place ∷ calls) =
    cond (agrees (ask_of t x wish) word woken place) (step_call x wish ∷ as_steps (step_of t x wish).cell calls) (as_steps t calls)

-- they give the same table and the same plain tree beside it, whatever the plain tree was
pub record AreSteps (t : Cell) (calls : List Call) : Type 0 where
  pub table : run t calls ≡ run t (as_steps t calls)
  pub plain : (p : Plain) → plain_run p calls (answers t calls) ≡ plain_run p (as_steps t calls) (answers t (as_steps t calls))

-- what a commit of some three of agent x with this wish gives
pub record IsCommit (t : Cell) (x wish : ℕ) (r : Stepped) : Type 0 where
  pub word : ℕ
  pub woken : ℕ
  pub place : ℕ
  pub same : r ≡ commit_of t x wish word woken place
