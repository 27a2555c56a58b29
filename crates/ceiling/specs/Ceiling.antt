-- No order can churn forever (document 02, W12): how many of the step calls after a load can change the cell. Definitions only.
use Rattle.std.specs.Prelude.{◌≡◌, ◌≢◌, ◌↔◌, List, [], ◌∷◌, Bool, true, false, ◌&&◌, cond, ℕ, ◌+◌, ◌*◌, ◌≤◌, length, Ok, Err}
use Rattle.sets.specs.Word.{bit}
use Rattle.table.specs.Base.{count_below, sum_below}
use Rattle.table.specs.Cell.{State, cell_of, table_of, unused}
use Rattle.table.specs.declared.Cell.{Cell}
use Rattle.meaning.specs.declared.Word.{Word}
use Rattle.meaning.specs.declared.Word.TheVariants.{Looked, Took, Held, Back, Slept, Left, Came, Opened, Put, Asleep, Done}
use Rattle.meaning.specs.Run.{Call, step_call, touch_call, commit_call, Reply, step_reply, touch_reply, call_of, run, answers}
use Rattle.meaning.specs.Limit.{agents_of, is_away, changes_left}
use Rattle.demands.specs.AfterCalls.{reached, answered}

-- ---- the ceiling of a loaded cell

-- G, "a loaded cell with G agents", is agentsOf. A, "and A actions in all": the unused actions of each agent, added up; in a loaded cell none is used up
abbrev pub actions_of : State → ℕ
actions_of c = sum_below (λ x. cond (c.given x) (length (unused (c.agent x))) 0) 64

-- the agents whose places are on their way, at stages 4 to 6; in a loaded cell there are none
abbrev pub away_of : State → ℕ
away_of c = count_below (λ x. c.given x && is_away (c.agent x).stage) 64

-- "5 × G × (2 × A + 1) + 2 × A"
abbrev pub ceiling : State → ℕ
ceiling c = 5 * agents_of c * (2 * actions_of c + 1) + 2 * actions_of c

-- ---- the step calls that change a cell

-- a step call, "committed steps included"; a touch call is none
abbrev pub is_step : Call → Bool
is_step (step_call agent wish) = true
is_step (touch_call place number) = false
is_step (commit_call agent wish word woken place) = true

-- n of the step calls, each given the table as the call before left it, leave another table than they were given; what touch calls do is not counted
pub data Changing : Cell → List Call → ℕ → Type 0 where
  no_call : {t : Cell} → Changing t [] 0
  no_step : {t : Cell} {k : Call} {calls : List Call} {n : ℕ} → is_step k ≡ false → Changing (call_of t k).cell calls n → Changing t (k ∷ calls) n
  unchanged : {t : Cell} {k : Call} {calls : List Call} {n : ℕ} → is_step k ≡ true → (call_of t k).cell ≡ t → Changing (call_of t k).cell calls n
      → Changing t (k ∷ calls) n
  changed : {t : Cell} {k : Call} {calls : List Call} {n : ℕ} → is_step k ≡ true → (call_of t k).cell ≢ t → Changing (call_of t k).cell calls n
      → Changing t (k ∷ calls) (1 + n)

-- ---- the answers of such calls

-- a word other than "held, asleep or done"
abbrev pub is_change : Word → Bool
is_change Looked = true
is_change Took = true
is_change Held = false
is_change Back = true
is_change Slept = true
is_change Left = true
is_change Came = true
is_change Opened = true
is_change Put = true
is_change Asleep = false
is_change Done = false

-- an answer to a step call that is no refusal, with such a word
abbrev pub says_change : Reply → Bool
says_change (step_reply (Ok o)) = is_change o.word
says_change (step_reply (Err number)) = false
says_change (touch_reply answer) = false

-- how many of the answers are such answers
unfoldable pub changes_said : List Reply → ℕ
changes_said [] = 0
changes_said (a ∷ answers) = bit (says_change a) + changes_said answers

-- ---- the claim

-- of a loaded cell c and a list of calls
pub record UnderCeiling (c : State) (calls : List Call) : Type 0 where
  -- "at most 5 × G × (2 × A + 1) + 2 × A of the step calls in any sequence change the cell, committed steps included"
  pub few : (n : ℕ) → Changing (table_of c) calls n → n ≤ ceiling c
  -- and at most so many are answered, not refused, by another word than held, asleep or done
  pub few_said : changes_said (answered c calls) ≤ ceiling c
  -- the two numbers are one, so the count exists: so many of the step calls change the cell
  pub counted : Changing (table_of c) calls (changes_said (answered c calls))
  -- "Every other step call is refused or answers held, asleep or done": the next step call, whatever it is, leaves the table equal exactly then
  pub others : (k : Call) → is_step k ≡ true
      → ((call_of (reached c calls) k).cell ≡ reached c calls) ↔ (says_change (call_of (reached c calls) k).reply ≡ false)

-- the same four of any sound table t and a list of calls, by the number that the call for the ceiling answers
pub record UnderLimit (t : Cell) (calls : List Call) : Type 0 where
  pub few : (n : ℕ) → Changing t calls n → n ≤ changes_left (cell_of t)
  pub few_said : changes_said (answers t calls) ≤ changes_left (cell_of t)
  pub counted : Changing t calls (changes_said (answers t calls))
  pub others : (k : Call) → is_step k ≡ true → ((call_of (run t calls) k).cell ≡ run t calls) ↔ (says_change (call_of (run t calls) k).reply ≡ false)
  -- asked again after the calls, it is no more
  pub no_more : changes_left (cell_of (run t calls)) ≤ changes_left (cell_of t)
