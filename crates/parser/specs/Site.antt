-- The cell so far as the code keeps it, and the answer of the call.
use Rattle.std.specs.Prelude.{ℕ, ◌+◌, ◌*◌, ◌-◌, Bool, true, false, cond, ltb, leb, eqb, length, get_or, List, Option, Some, None}
use Rattle.sets.specs.Set.{member, removed}
use Rattle.order.specs.Row.{later}
use Rattle.table.specs.Cell.{put_order}
use Rattle.table.specs.declared.Agent.{Agent}
use Rattle.table.specs.declared.Place.{Place}
use Rattle.meaning.specs.Update.{linked_place, with_home}
use Rattle.table.specs.declared.Cell.{Cell}
use Rattle.meaning.specs.declared.Loaded.{Loaded}
use Rattle.meaning.specs.File.{with_action}
use Rattle.meaning.specs.Refusals.{too_many}
use Rattle.meaning.specs.Answers.{Accepted, Rejected}
use Rattle.language.specs.Machine.{continues, next}
use Rattle.language.specs.Grammar.{with_keys}
use Rattle.language.specs.declared.Field.{Field}
use Rattle.language.specs.declared.Field.TheVariants.{PlaceName, EnterKey, ExitKey, OpenKey, ActionNumber}
use Rattle.language.specs.declared.Control.{Control}
use Rattle.language.specs.declared.Control.TheVariants.{Begin, Bare, Part, Within, After, Space, Bar, Dot, LetterE, Spell, Before, Digits}
use Rattle.language.specs.declared.Event.{Event}
use Rattle.language.specs.declared.Event.TheVariants.{Nothing, NewAgent, NewAction, NewPlace, EndPlace, LastAction}
use Rattle.language.specs.declared.Moved.{Moved}
use Rattle.language.specs.declared.Moved.TheVariants.{To, Off}
use Rattle.parser.specs.declared.Marks.{Marks}

-- the number v with one digit more, where the byte continues it
unfoldable pub longer : ℕ → ℕ → Option ℕ
unfolding continues
longer v b = cond (continues v b) (Some (v * 10 + (b - 48))) None

-- ---- what an event writes, element by element

-- the marks once there was too much of something
abbrev pub over_marks : Marks → Marks
over_marks x = record { places = x.places; agents = x.agents; here = x.here; over = true }

-- the marks once the contents of p are read on
abbrev pub end_marks : Marks → ℕ → Marks
end_marks x p = record { places = x.places; agents = x.agents; here = p; over = x.over }

-- the agent whose record an event writes: the next one, or the latest
unfoldable pub agent_written : Marks → Event → ℕ
agent_written x Nothing = x.agents - 1
agent_written x NewAgent = x.agents
agent_written x (NewAction k v) = x.agents - 1
agent_written x (NewPlace n e q o) = x.agents - 1
agent_written x EndPlace = x.agents - 1
agent_written x (LastAction k v) = x.agents - 1

-- that agent after the event
unfoldable pub agent_after : Agent → Marks → Event → Agent
unfolding with_action
agent_after g x Nothing = g
agent_after g x NewAgent = cond (leb 64 x.agents) g (with_home g x.here)
agent_after g x (NewAction k v) = cond (leb 16 g.count) g (with_action g k v)
agent_after g x (NewPlace n e q o) = g
agent_after g x EndPlace = g
agent_after g x (LastAction k v) = cond (leb 16 g.count) g (with_action g k v)

-- the place that a text would give next, after the event
unfoldable pub place_after : Place → Marks → Event → Place
place_after p x Nothing = p
place_after p x NewAgent = p
place_after p x (NewAction k v) = p
place_after p x (NewPlace n e q o) = cond (leb 63 x.places) p (linked_place (with_keys n e q o) x.here)
place_after p x EndPlace = p
place_after p x (LastAction k v) = p

-- the marks after the event. count: of the latest agent; parent: of the place whose contents are read
unfoldable pub marks_after : Marks → Event → ℕ → ℕ → Marks
marks_after x Nothing count parent = x
marks_after x NewAgent count parent =
    cond (leb 64 x.agents) (over_marks x) (record { places = x.places; agents = x.agents + 1; here = x.here; over = x.over })
marks_after x (NewAction k v) count parent = cond (leb 16 count) (over_marks x) x
marks_after x (NewPlace n e q o) count parent =
    cond (leb 63 x.places) (over_marks x) (record { places = x.places + 1; agents = x.agents; here = x.places + 1; over = x.over })
marks_after x EndPlace count parent = end_marks x parent
marks_after x (LastAction k v) count parent = cond (leb 16 count) (over_marks (end_marks x parent)) (end_marks x parent)

-- the event gives an agent
unfoldable pub gives_agent : Marks → Event → Bool
gives_agent x Nothing = false
gives_agent x NewAgent = ltb x.agents 64
gives_agent x (NewAction k v) = false
gives_agent x (NewPlace n e q o) = false
gives_agent x EndPlace = false
gives_agent x (LastAction k v) = false

-- the event gives a place
unfoldable pub gives_place : Marks → Event → Bool
gives_place x Nothing = false
gives_place x NewAgent = false
gives_place x (NewAction k v) = false
gives_place x (NewPlace n e q o) = ltb x.places 63
gives_place x EndPlace = false
gives_place x (LastAction k v) = false

-- the end of a text after a number: an action's last, with no place open
unfoldable pub last_number : Field → ℕ → ℕ → Moved
last_number PlaceName v d = Off
last_number (EnterKey n) v d = Off
last_number (ExitKey n e) v d = Off
last_number (OpenKey n e q) v d = Off
last_number (ActionNumber k) v d = cond (eqb d 0) (To Bare 0 (NewAction k v)) Off

-- the end of a text as an event: nothing, or the last action; or the text stops early
unfoldable pub last_of : Control → ℕ → Moved
unfolding last_number
last_of Begin d = Off
last_of Bare d = To Bare 0 Nothing
last_of Part d = Off
last_of Within d = Off
last_of After d = cond (eqb d 0) (To Bare 0 Nothing) Off
last_of Space d = Off
last_of Bar d = Off
last_of Dot d = Off
last_of LetterE d = Off
last_of (Spell k i) d = Off
last_of (Before f) d = Off
last_of (Digits f v) d = last_number f v d

-- what the byte at i does, or the end of the text
unfoldable pub moved_at : List ℕ → ℕ → Control → ℕ → Moved
unfolding next last_of
moved_at s i c d = cond (ltb i (length s)) (next c d (get_or s i 0)) (last_of c d)

-- the answer where the text belongs to the language, of the cell t that was there and the table b before its row is made
unfoldable pub answered_with : Cell → Cell → Bool → ℕ → Loaded
unfolding later
answered_with t b over n = cond over (record { cell = t; verdict = Rejected too_many n })
    (record { cell = put_order b (later (member (removed b.used 0)) b.order); verdict = Accepted })
