-- What the word of an answer says of the numbers in use, the touches, the row and the agent that steps (demand 2). Definitions only.
use Rattle.std.specs.Prelude.{◌≡◌, Bool, true, false, not, ◌&&◌, ◌||◌, cond, List, ℕ, ◌+◌, eqb, leb, Ok, Err}
use Rattle.order.specs.Row.{later, latest}
use Rattle.table.specs.Cell.{Land, State, none, fresh_number, kind_of, exit_kind, release_kind, looks_home, looking, found, holding, on_way, asleep}
use Rattle.table.specs.declared.Agent.{Agent}
use Rattle.meaning.specs.declared.Word.{Word}
use Rattle.meaning.specs.declared.Word.TheVariants.{Looked, Took, Held, Back, Slept, Left, Came, Opened, Put, Asleep, Done}
use Rattle.meaning.specs.Answers.{Answer}
use Rattle.meaning.specs.Step.{choice, rest_stage, child_of}

-- ---- numbers in use, touches and the row

-- the word is opened
abbrev pub is_opened : Word → Bool
is_opened Looked = false
is_opened Took = false
is_opened Held = false
is_opened Back = false
is_opened Slept = false
is_opened Left = false
is_opened Came = false
is_opened Opened = true
is_opened Put = false
is_opened Asleep = false
is_opened Done = false

-- the answer is
abbrev pub says_opened : Answer → Bool
says_opened (Ok o) = is_opened o.word
says_opened (Err number) = false

-- the word is put
abbrev pub is_put : Word → Bool
is_put Looked = false
is_put Took = false
is_put Held = false
is_put Back = false
is_put Slept = false
is_put Left = false
is_put Came = false
is_put Opened = false
is_put Put = true
is_put Asleep = false
is_put Done = false

-- "under the smallest unused number" (document 02, W11): by this answer q comes into use, where these were in use before
abbrev pub put_at : Answer → (ℕ → Bool) → ℕ → Bool
put_at (Ok o) used q = is_put o.word && eqb q (fresh_number used)
put_at (Err number) used q = false

-- "its number becomes unused": which numbers are in use after a call of an agent, which is a, with this answer; that of a put place is in use
abbrev pub used_after : Answer → Agent → (ℕ → Bool) → ℕ → Bool
used_after answer a used q = put_at answer used q || (not (says_opened answer && eqb q a.chosen) && used q)

-- "its count is pooled into the place of the agent that opened it" (document 02, W3), and the number that becomes unused has none; a put place has
-- "touches 0" (W11): the touches after a call of an agent, which is a, with this answer
abbrev pub touches_after : Answer → Agent → (ℕ → Bool) → (ℕ → ℕ) → ℕ → ℕ
touches_after answer a used touches q =
    cond (says_opened answer)
    (cond (eqb q a.chosen) 0 (cond (eqb q a.home) (touches q + touches a.chosen) (touches q)))
    (cond (put_at answer used q) 0 (touches q))

-- "A place that comes is the latest; children freed by an opening become the latest and keep their order among themselves" (document 02, W5):
-- the row of places after a step of agent x with this word; a place that leaves keeps its position until it comes; "a put place is the latest"
abbrev pub order_by : Word → State → ℕ → List ℕ
order_by Came c x = latest (c.agent x).home c.land.order
order_by Opened c x = later (child_of c.land (c.agent x).chosen) c.land.order
order_by Put c x = latest (fresh_number c.land.used) c.land.order
order_by Looked c x = c.land.order
order_by Took c x = c.land.order
order_by Held c x = c.land.order
order_by Back c x = c.land.order
order_by Slept c x = c.land.order
order_by Left c x = c.land.order
order_by Asleep c x = c.land.order
order_by Done c x = c.land.order

-- after a call with this answer
abbrev pub order_after : Answer → State → ℕ → List ℕ
order_after (Ok o) c x = order_by o.word c x
order_after (Err number) c x = c.land.order

-- ---- the agent that steps

-- "the action is used up": how many actions a step with this word uses up, one by left, opened and put
abbrev pub used_up : Word → ℕ
used_up Looked = 0
used_up Took = 0
used_up Held = 0
used_up Back = 0
used_up Slept = 0
used_up Left = 1
used_up Came = 0
used_up Opened = 1
used_up Put = 1
used_up Asleep = 0
used_up Done = 0

-- the stage after a step with this word of an agent, which is a before and b after: "looked, stage 1", "took" the next stage, "back, stage 0",
-- "slept, stage 7", "left, stage 4", "After opened or came the agent is at stage 0, or 8 if no action is left", after put "the stage then as
-- after opened", else "nothing changes"
abbrev pub stage_by : Word → Agent → Agent → ℕ
stage_by Looked a b = found
stage_by Took a b = a.stage + 1
stage_by Held a b = a.stage
stage_by Back a b = looking
stage_by Slept a b = asleep
stage_by Left a b = on_way
stage_by Came a b = rest_stage b
stage_by Opened a b = rest_stage b
stage_by Put a b = rest_stage b
stage_by Asleep a b = a.stage
stage_by Done a b = a.stage

-- "An agent remembers a place at stages 1 to 3 and 7 (there the one it sleeps on) .. otherwise nothing": the place that an agent, which is a,
-- remembers after a step with this word. "Open: remember its own place", release too, "Enter or exit: remember the parent"; p stays remembered up to stage 3;
-- "slept, stage 7 on its own place" at stage 0, "stage 7 on p" at stage 2, for release "on no place"
abbrev pub remembered_by : Word → Land → Agent → ℕ
remembered_by Looked l a = cond (looks_home (kind_of a)) a.home (l.place a.home).parent
remembered_by Took l a = cond (leb a.stage holding) a.remembered 0
remembered_by Held l a = a.remembered
remembered_by Back l a = 0
remembered_by Slept l a = cond (eqb a.stage looking) a.home (cond (eqb (kind_of a) release_kind) none a.remembered)
remembered_by Left l a = 0
remembered_by Came l a = 0
remembered_by Opened l a = 0
remembered_by Put l a = 0
remembered_by Asleep l a = a.remembered
remembered_by Done l a = a.remembered

-- "and a chosen place at stage 3 of enter and open; otherwise nothing": the chosen place after a step with this word and wish
abbrev pub chosen_by : Word → Land → Agent → ℕ → ℕ
chosen_by Looked l a wish = 0
chosen_by Took l a wish = cond (eqb a.stage holding && not (eqb (kind_of a) exit_kind)) (choice l a wish) 0
chosen_by Held l a wish = a.chosen
chosen_by Back l a wish = 0
chosen_by Slept l a wish = 0
chosen_by Left l a wish = 0
chosen_by Came l a wish = 0
chosen_by Opened l a wish = 0
chosen_by Put l a wish = 0
chosen_by Asleep l a wish = a.chosen
chosen_by Done l a wish = a.chosen

-- the agent that steps among these places, with this wish, a before and b after: it lives where it lived and has the same row of actions, of which
-- the step uses up what its word says; its stage, its remembered and its chosen place are those that the word says
pub record Stepped (word : Word) (l : Land) (wish : ℕ) (a b : Agent) : Type 0 where
  pub home : b.home ≡ a.home
  pub actions : b.actions ≡ a.actions
  pub count : b.count ≡ a.count
  pub next : b.next ≡ a.next + used_up word
  pub stage : b.stage ≡ stage_by word a b
  pub remembered : b.remembered ≡ remembered_by word l a
  pub chosen : b.chosen ≡ chosen_by word l a wish
