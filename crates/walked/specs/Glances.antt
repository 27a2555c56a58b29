-- The walk over the agents as a program goes about it, one turn at a time: what the agents before said, what the next one says by itself, and
-- what they say together then.
use Rattle.std.specs.Prelude.{ℕ, ◌%◌, ◌≡◌, Bool, true, false, ◌&&◌, cond, List, eqb}
use Rattle.sets.specs.Word.{has}
use Rattle.sets.specs.Set.{member, inserted, removed}
use Rattle.sets.specs.Set.{empty_set}
use Rattle.sets.specs.Walk.{lowest_in}
use Rattle.sets.specs.declared.Set.{Set}
use Rattle.order.specs.Row.{row_fits}
use Rattle.table.specs.Cell.{has_action, kind_of, cell_of}
use Rattle.table.specs.Sound.{actions_fit, remembers, ready, holds_both, first_held, second_held, going_from, core_sound}
use Rattle.table.specs.declared.Agent.{Agent}
use Rattle.table.specs.declared.Place.{Place}
use Rattle.table.specs.declared.Cell.{Cell}
use Rattle.soundness.specs.Pass.{quiet, quiet_fits, lock_is_at, linked_at, busy_fits, lands_fit}
use Rattle.walked.specs.Lefts.{Left}

-- what the agents before said: which one is next, or 64; the places in use; the agents left, the next one among them; the places whose locks
-- those before hold, and the places that they move; and whether all of them fit
pub record Walk : Type 0 where
  pub at : ℕ
  pub used : Set
  pub rest : Set
  pub claimed : Set
  pub going : Set
  pub fit : Bool

-- what an agent says by itself: whether it holds locks or is on its way, and so is to be asked more; if not, whether it fits; and the kind of
-- its next action, its home, its chosen place and the place that it locked first, if so
pub record Sight : Type 0 where
  pub busy : Bool
  pub fit : Bool
  pub kind : ℕ
  pub home : ℕ
  pub chosen : ℕ
  pub first : ℕ

-- what was read is what it should be, where the actions are in range
abbrev pub Known : Bool → ℕ → ℕ → Type 0
Known fit m n = fit ≡ true → m ≡ n

-- the next agent is the lowest of those left
abbrev pub standing_at : Set → Set → Set → Set → Walk
standing_at used rest claimed going = record { at = lowest_in rest; used = used; rest = rest; claimed = claimed; going = going; fit = true }

-- an agent does not fit
abbrev pub stopped_of : Walk → Walk
stopped_of w = record { at = 64; used = w.used; rest = w.rest; claimed = w.claimed; going = w.going; fit = false }

-- before the first
abbrev pub start_of : Set → Set → Walk
start_of used given = standing_at used given empty_set empty_set

-- ---- what an agent says by itself

abbrev pub still_with : Bool → Sight
still_with fit = record { busy = false; fit = fit; kind = 0; home = 0; chosen = 0; first = 0 }

-- numbers are read masked by 64
abbrev pub busy_with : Agent → Sight
busy_with a = record { busy = true; fit = true; kind = kind_of a; home = a.home % 64; chosen = a.chosen % 64; first = first_held a % 64 }

unfoldable pub glance_of : Set → Agent → Sight
glance_of used a =
    cond (member used a.home)
    (cond (actions_fit a)
    (cond (quiet a.stage) (still_with (quiet_fits a.stage (has_action a) (remembers (member used) a) (eqb a.remembered a.home) (kind_of a))) (busy_with a))
    (still_with false))
    (still_with false)

-- the place whose lock it took second, its home being given
abbrev pub second_of : Agent → ℕ → Place → ℕ
second_of a kind home = second_held a kind home.parent % 64

-- ---- one turn

-- the next agent holds no lock and is not on its way
unfoldable pub passed_of : Walk → Bool → Walk
passed_of w fit = cond fit (standing_at w.used (removed w.rest (lowest_in w.rest)) w.claimed w.going) (stopped_of w)

-- it holds the locks of two places and moves a third one, each 64 where there is none; fit: what its stage asks holds
abbrev pub turned_of : Bool → Walk → ℕ → ℕ → ℕ → Walk
turned_of fit w first second from =
    cond (member w.going from) (stopped_of w)
    (cond fit
    (standing_at w.used (removed w.rest (lowest_in w.rest)) (inserted (inserted w.claimed first) second) (inserted w.going from))
    (stopped_of w))

unfoldable pub busy_of : Walk → Agent → ℕ → Place → Place → ℕ → ℕ → Walk
busy_of w a kind home chosen first_lock second_lock =
    turned_of
    (busy_fits (member w.used a.remembered) (has w.used.bits) w.at a kind home chosen (first_held a) first_lock (second_held a kind home.parent) second_lock)
    w (first_held a) (second_held a kind home.parent) (going_from a)

-- what stages 2 and 3 ask: the agent is ready, and the lock of the place that it remembers is its own
unfoldable pub holds_first : Walk → Agent → ℕ → ℕ → Bool
holds_first w a kind lock =
    ready (has_action a) (member w.used a.remembered) (eqb a.remembered a.home) kind
    && lock_is_at (member w.used a.remembered) a.remembered lock w.at

-- what stage 3 asks beside: the places are linked as the action asks, and the second lock is the agent's
unfoldable pub holds_second : Walk → Agent → ℕ → Place → Place → ℕ → ℕ → Bool
holds_second w a kind home chosen second lock =
    holds_both kind (linked_at true home a.remembered) (linked_at (member w.used a.chosen) chosen a.remembered)
    && lock_is_at (member w.used second) second lock w.at

-- ---- the whole

-- what the agents and the places say together
abbrev pub core : Cell → Walk → Bool
core c w = w.fit && lands_fit c.places c.locks c.used w.claimed w.going

-- after all agents the places decide
abbrev pub Walked : Cell → Walk → Type 0
Walked c w = core c w ≡ core_sound (cell_of c)

-- and then the touches and the row
abbrev pub tell_of : Bool → Left → List ℕ → Bool
tell_of fit left row = fit && (left.fits && row_fits row)
