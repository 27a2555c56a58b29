-- What the agents say together, one after the other: what those before hold, and what the next one adds.
use Rattle.std.specs.Prelude.{ℕ, ◌≡◌, Bool, true, false, ◌&&◌, cond, eqb, Option, None, Some}
use Rattle.sets.specs.Word.{has}
use Rattle.sets.specs.Set.{member, inserted}
use Rattle.sets.specs.declared.Set.{Set}
use Rattle.table.specs.Cell.{has_action, kind_of, cell_of}
use Rattle.table.specs.Sound.{actions_fit, ready, holds_both, first_held, second_held, going_from, core_sound}
use Rattle.table.specs.declared.Agent.{Agent}
use Rattle.table.specs.declared.Cell.{Cell}
use Rattle.soundness.specs.Pass.{lock_is_at, linked_at, busy_fits, lands_fit}
use Rattle.soundness.specs.declared.turns.Busy.{Busy}
use Rattle.soundness.specs.declared.turns.Held.{Held}

-- the kind of the next action, or 0 where none is left; none where an unused action is out of range
abbrev pub row_kind : Agent → Option ℕ
row_kind a = cond (actions_fit a) (Some (kind_of a)) None

-- the same of an agent whose home is in use; none where it is not
abbrev pub kind_in : Set → Agent → Option ℕ
kind_in used a = cond (member used a.home) (row_kind a) None

-- ---- a busy agent

-- with two places that it holds and a third one that it moves, each 64 where there is none; none where it does not fit, or that is moved already
abbrev pub held_with : Held → Bool → ℕ → ℕ → ℕ → Option Held
held_with h fits first second from =
    cond fits
    (cond (member h.going from) None
    (Some (record { claimed = inserted (inserted h.claimed first) second; going = inserted h.going from })))
    None

-- the place whose lock it took second
abbrev pub second_of : Busy → ℕ
second_of b = second_held b.agent b.kind b.home.parent

-- what its stage asks holds
unfoldable pub fits_of : Busy → Bool
fits_of b =
    busy_fits (member b.used b.agent.remembered) (has b.used.bits) b.number b.agent b.kind b.home b.chosen (first_held b.agent) b.first_lock (second_of b) b.second_lock

-- what is held with what it adds; none where it does not fit
abbrev pub busy_of : Busy → Held → Option Held
busy_of b h = held_with h (fits_of b) (first_held b.agent) (second_of b) (going_from b.agent)

-- what stages 2 and 3 ask: the agent is ready, and the lock of the place that it remembers is its own
unfoldable pub holds_first : Busy → Bool
holds_first b =
    ready (has_action b.agent) (member b.used b.agent.remembered) (eqb b.agent.remembered b.agent.home) b.kind
    && lock_is_at (member b.used b.agent.remembered) b.agent.remembered b.first_lock b.number

-- what stage 3 asks beside: the places are linked as the action asks, and the second lock is the agent's
unfoldable pub holds_second : Busy → Bool
holds_second b =
    holds_both b.kind (linked_at true b.home b.agent.remembered) (linked_at (member b.used b.agent.chosen) b.chosen b.agent.remembered)
    && lock_is_at (member b.used (second_of b)) (second_of b) b.second_lock b.number

-- ---- the whole

-- what the agents and the places say together
abbrev pub core : Cell → Option Held → Bool
core c None = false
core c (Some h) = lands_fit c.places c.locks c.used h.claimed h.going

-- after all agents the places decide
abbrev pub Walked : Cell → Option Held → Type 0
Walked c h = core c h ≡ core_sound (cell_of c)
