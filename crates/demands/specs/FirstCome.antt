-- Who came first (document 02, W5), by a log of arrivals: what is claimed of a choice without a fitting wish. Definitions only; the row of
-- places plays no part in them.
use Rattle.std.specs.Prelude.{◌≡◌, ◌≢◌, ◌⊎◌, Bool, true, false, cond, List, [], ◌∷◌, ◌++◌, ℕ, zero, suc, ◌+◌, ◌≤◌, ◌<◌, eqb, length, Ok, Err}
use Rattle.order.specs.Row.{keep, occurs}
use Rattle.table.specs.Cell.{State, cell_of, table_of, fresh_number, kind_of, name_of, holding, enter_kind, open_kind}
use Rattle.table.specs.declared.Cell.{Cell}
use Rattle.meaning.specs.declared.Word.{Word}
use Rattle.meaning.specs.declared.Word.TheVariants.{Looked, Took, Held, Back, Slept, Left, Came, Opened, Put, Asleep, Done}
use Rattle.meaning.specs.Answers.{Did}
use Rattle.meaning.specs.File.{byte_at}
use Rattle.meaning.specs.Step.{qualifies, child_of}
use Rattle.meaning.specs.Run.{Call, agent_of, Reply, step_reply, touch_reply, step_of, call_of}

-- ---- "Loaded places count in file order"

-- the numbers of all place records from an offset on, by the lengths of the kinds alone: five bytes for a place (1) or an action (3), three for
-- an agent (2), six for touches (5), eleven for a place with keys (6), and the end (4)
unfoldable pub places_from : ℕ → List ℕ → ℕ → List ℕ
places_from zero s at = []
places_from (suc turns) s at =
    cond (eqb (byte_at s at) 1) (byte_at s (at + 1) ∷ places_from turns s (at + 5))
    (cond (eqb (byte_at s at) 2) (places_from turns s (at + 3))
    (cond (eqb (byte_at s at) 3) (places_from turns s (at + 5))
    (cond (eqb (byte_at s at) 5) (places_from turns s (at + 6))
    (cond (eqb (byte_at s at) 6) (byte_at s (at + 1) ∷ places_from turns s (at + 11)) []))))

-- those of a whole file
unfoldable pub places_in : List ℕ → List ℕ
unfolding places_from
places_in s = places_from (suc (length s)) s 0

-- ---- the log of arrivals, the earliest first

-- a log with each number at its last arrival only
unfoldable pub lasts : List ℕ → List ℕ
lasts [] = []
lasts (q ∷ log) = cond (occurs q log) (lasts log) (q ∷ lasts log)

-- the how-manyth of the log the last arrival of q is; 0 where it never came
unfoldable pub last_arrival : ℕ → List ℕ → ℕ
last_arrival q [] = 0
last_arrival q (r ∷ log) = cond (occurs q log) (suc (last_arrival q log)) (cond (eqb q r) 1 0)

-- "A place that comes is the latest; children freed by an opening become the latest and keep their order among themselves": who arrives by an
-- answer to agent x in a cell. At came it is the agent's own place; at opened the children of the chosen place, in the order of their last
-- arrivals; at put the new place: "a put place is the latest of W5" (W11)
abbrev pub arrived_by : State → ℕ → Word → List ℕ → List ℕ
arrived_by c x Came log = (c.agent x).home ∷ []
arrived_by c x Opened log = keep (child_of c.land (c.agent x).chosen) (lasts log)
arrived_by c x Put log = fresh_number c.land.used ∷ []
arrived_by c x Looked log = []
arrived_by c x Took log = []
arrived_by c x Held log = []
arrived_by c x Back log = []
arrived_by c x Slept log = []
arrived_by c x Left log = []
arrived_by c x Asleep log = []
arrived_by c x Done log = []

-- by any reply
abbrev pub arrived_at : State → Call → Reply → List ℕ → List ℕ
arrived_at c k (step_reply (Ok o)) log = arrived_by c (agent_of k) o.word log
arrived_at c k (step_reply (Err number)) log = []
arrived_at c k (touch_reply answer) log = []

-- the log after calls on a table
unfoldable pub arrivals : Cell → List ℕ → List Call → List ℕ
arrivals t log [] = log
arrivals t log (k ∷ calls) = arrivals (call_of t k).cell (log ++ arrived_at (cell_of t) k (call_of t k).reply log) calls

-- the log of a file, its cell and calls
abbrev pub log_after : List ℕ → State → List Call → List ℕ
log_after s c calls = arrivals (table_of c) (places_in s) calls

-- ---- the claim

-- place q qualifies for agent x, which holds p
abbrev pub fits_in : State → ℕ → ℕ → Bool
fits_in c x q = qualifies c.land (kind_of (c.agent x)) (name_of (c.agent x)) (c.agent x).home (c.agent x).remembered q

-- "Where no fitting wish is given, enter and open choose": the step of agent x is a took at stage 2 of enter or open, and the wish does not
-- qualify
pub record TakesUnwished (t : Cell) (x wish : ℕ) : Type 0 where
  pub stage : ((cell_of t).agent x).stage ≡ holding
  pub kind : (kind_of ((cell_of t).agent x) ≡ enter_kind) ⊎ (kind_of ((cell_of t).agent x) ≡ open_kind)
  pub woken : ℕ
  pub took : (step_of t x wish).answer ≡ Did Took woken
  pub unwished : fits_in (cell_of t) x wish ≡ false

-- the place that it has chosen
abbrev pub chosen_by : Cell → ℕ → ℕ → ℕ
chosen_by t x wish = ((cell_of (step_of t x wish).cell).agent x).chosen

-- "the qualifying place that has been under this parent longest": it qualifies, it has come, and every other place that qualifies came later
pub record FirstCome (t : Cell) (log : List ℕ) (x wish : ℕ) : Type 0 where
  pub fits : fits_in (cell_of t) x (chosen_by t x wish) ≡ true
  pub came : 1 ≤ last_arrival (chosen_by t x wish) log
  pub first : (r : ℕ) → fits_in (cell_of t) x r ≡ true → r ≢ chosen_by t x wish → last_arrival (chosen_by t x wish) log < last_arrival r log
