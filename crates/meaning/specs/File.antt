-- The cell file (document 01, "The cell file" and "Turned-away calls"): records, the order of checks, and the load of a whole file.
use Rattle.std.specs.Prelude.{ℕ, zero, suc, ◌+◌, ◌*◌, ◌-◌, ◌%◌, ◌^◌, Bool, false, ◌||◌, cond, List, [], ◌∷◌, ltb, leb, eqb, length, get_or, set}
use Rattle.order.specs.Row.{later, latest}
use Rattle.table.specs.Base.{upd}
use Rattle.table.specs.Cell.{State, cell_of, table_of, bare_table, looking, plain_name, last_kind}
use Rattle.table.specs.declared.Name.{Name}
use Rattle.table.specs.declared.Agent.{Agent}
use Rattle.table.specs.declared.Cell.{Cell}
use Rattle.meaning.specs.declared.Record.{Record}
use Rattle.meaning.specs.declared.Record.TheVariants.{PlaceRecord, AgentRecord, ActionRecord, EndRecord, TouchRecord, Faulty}
use Rattle.meaning.specs.Answers.{Accepted, Rejected}
use Rattle.meaning.specs.declared.Loaded.{Loaded}
use Rattle.meaning.specs.Refusals.{cut_short, unknown_kind, place_too_large, parent_too_large, agent_too_large, given_twice, not_yet_given}
use Rattle.meaning.specs.Refusals.{name_zero, wrong_kind, seventeenth, after_end}
use Rattle.meaning.specs.Update.{linked_place, with_home, with_stage, with_count, with_actions, with_places, with_used, with_order, with_land, with_given, with_agent, with_touches}

-- "Two-byte numbers have the low byte first"
abbrev pub two_bytes : ℕ → ℕ → ℕ
two_bytes low high = low + 256 * high

-- "four bytes, low byte first": a number of 32 bits, whatever the four are; of bytes the modulo changes nothing (`four_bytes`)
abbrev pub four_bytes : ℕ → ℕ → ℕ → ℕ → ℕ
four_bytes lowest low high highest = (two_bytes lowest low + 65536 * two_bytes high highest) % 2 ^ 32

abbrev pub byte_at : List ℕ → ℕ → ℕ
byte_at s i = get_or s i 0

-- ---- one record: "Within a record the order is 2, 1, 3, 4, 5, 7, 6, 8". "Number 3 shall be for a place record's own number. A parent or
-- home above 63 gets 13, an agent number above 63 gets 14. .. 13 and 14 stand where 3 stood, before 4; of the three, the earlier byte in
-- the record decides" (document 02, W2)

-- "Place numbers in records are 1 to 63; parents and homes 0 to 63. A parent, home or agent must have been given earlier":
-- 3 number too large, or 0; 13 parent too large; 4 number given twice; 5 parent not yet given; 6 name 0. A key may be 0: "0 means nobody may"
unfoldable pub place_record : Bool → Bool → ℕ → ℕ → Name → Record
place_record taken known number parent name =
    cond (ltb number 1) (Faulty place_too_large)
    (cond (leb 64 number) (Faulty place_too_large)
    (cond (leb 64 parent) (Faulty parent_too_large)
    (cond taken (Faulty given_twice)
    (cond known (cond (ltb name.name 1) (Faulty name_zero) (PlaceRecord number parent name)) (Faulty not_yet_given)))))

-- an agent: 14 its number too large, 13 its home too large, 4 number given twice, 5 home not yet given
unfoldable pub agent_record : Bool → Bool → ℕ → ℕ → Record
agent_record taken known number home =
    cond (leb 64 number) (Faulty agent_too_large)
    (cond (leb 64 home) (Faulty parent_too_large)
    (cond taken (Faulty given_twice)
    (cond known (AgentRecord number home) (Faulty not_yet_given))))

-- an action of a given agent: 7 kind not 1 to 4, 6 name 0, 8 seventeenth action
abbrev pub given_action : Bool → ℕ → ℕ → ℕ → Record
given_action full agent kind name =
    cond (ltb kind 1) (Faulty wrong_kind)
    (cond (ltb last_kind kind) (Faulty wrong_kind)
    (cond (ltb name 1) (Faulty name_zero)
    (cond full (Faulty seventeenth) (ActionRecord agent kind name))))

-- an action: 14 its agent's number too large, 5 agent not yet given
unfoldable pub action_record : Bool → Bool → ℕ → ℕ → ℕ → Record
action_record known full agent kind name = cond (leb 64 agent) (Faulty agent_too_large) (cond known (given_action full agent kind name) (Faulty not_yet_given))

-- touches (document 02, W3): "place number 0 to 63, then four bytes, low byte first; it may stand once for each place, after that place":
-- "in it a place above 63 is 3, a second record for a place is 4, a place not given is 5"
unfoldable pub touch_record : Bool → Bool → ℕ → ℕ → Record
touch_record taken known place touches =
    cond (leb 64 place) (Faulty place_too_large)
    (cond taken (Faulty given_twice)
    (cond known (TouchRecord place touches) (Faulty not_yet_given)))

-- a record of n bytes with its kind: 1 where its body is incomplete
abbrev pub complete : List ℕ → ℕ → ℕ → Record → Record
complete s at n r = cond (ltb (length s - at) n) (Faulty cut_short) r

-- the name in a place or action record
abbrev pub name_at : List ℕ → ℕ → ℕ
name_at s at = two_bytes (byte_at s (at + 3)) (byte_at s (at + 4))

-- "Record kind 6 is number, parent, name, then the three keys"; "three two-byte keys: enter, exit, open"
abbrev pub keyed_name : List ℕ → ℕ → Name
keyed_name s at = record {
  name = name_at s at;
  entering = two_bytes (byte_at s (at + 5)) (byte_at s (at + 6));
  exiting = two_bytes (byte_at s (at + 7)) (byte_at s (at + 8));
  opening = two_bytes (byte_at s (at + 9)) (byte_at s (at + 10));
}

-- a record of kind 1 or 6 gives a place
abbrev pub gives_place : ℕ → Bool
gives_place kind = eqb kind 1 || eqb kind 6

-- how many bytes it has with its kind
abbrev pub place_length : ℕ → ℕ
place_length kind = cond (eqb kind 6) 11 5

-- the name that it gives, with its keys
abbrev pub name_given : List ℕ → ℕ → Name
name_given s at = cond (eqb (byte_at s at) 6) (keyed_name s at) (plain_name (name_at s at))

-- the touches in a record of six bytes
abbrev pub count_at : List ℕ → ℕ → ℕ
count_at s at = four_bytes (byte_at s (at + 2)) (byte_at s (at + 3)) (byte_at s (at + 4)) (byte_at s (at + 5))

-- what was given so far: the places, the agents, the agents with sixteen actions, and the places whose touches were given
pub record Known : Type 0 where
  pub places : ℕ → Bool
  pub agents : ℕ → Bool
  pub full : ℕ → Bool
  pub counted : ℕ → Bool

-- the four bodies
abbrev pub place_at : Known → List ℕ → ℕ → Record
place_at k s at = place_record (k.places (byte_at s (at + 1))) (k.places (byte_at s (at + 2))) (byte_at s (at + 1)) (byte_at s (at + 2)) (name_given s at)

abbrev pub agent_at : Known → List ℕ → ℕ → Record
agent_at k s at = agent_record (k.agents (byte_at s (at + 1))) (k.places (byte_at s (at + 2))) (byte_at s (at + 1)) (byte_at s (at + 2))

abbrev pub action_at : Known → List ℕ → ℕ → Record
action_at k s at = action_record (k.agents (byte_at s (at + 1))) (k.full (byte_at s (at + 1))) (byte_at s (at + 1)) (byte_at s (at + 2)) (name_at s at)

abbrev pub touch_at : Known → List ℕ → ℕ → Record
touch_at k s at = touch_record (k.counted (byte_at s (at + 1))) (k.places (byte_at s (at + 1))) (byte_at s (at + 1)) (count_at s at)

-- "One byte of kind, then a body whose length the kind fixes": 2 unknown kind. "Kind 6 leaves the unknown kinds and is checked as kind 1 is"
unfoldable pub record_at : Known → List ℕ → ℕ → Record
record_at k s at =
    cond (gives_place (byte_at s at)) (complete s at (place_length (byte_at s at)) (place_at k s at))
    (cond (eqb (byte_at s at) 2) (complete s at 3 (agent_at k s at))
    (cond (eqb (byte_at s at) 3) (complete s at 5 (action_at k s at))
    (cond (eqb (byte_at s at) 4) EndRecord
    (cond (eqb (byte_at s at) 5) (complete s at 6 (touch_at k s at)) (Faulty unknown_kind)))))

-- ---- what a record adds

-- a new place, linked to its parent: "Loaded places count in file order" (document 02, W5), so it is the latest
unfoldable pub add_place : State → ℕ → ℕ → Name → State
unfolding later
add_place c number parent name = with_land c (with_order (with_used
    (with_places c.land (upd c.land.place number (linked_place name parent)))
    (λ j. eqb j number || c.land.used j))
    (latest number c.land.order))

-- a new agent: "an agent loaded without actions is at 8"
unfoldable pub add_agent : State → ℕ → ℕ → State
add_agent c number home = with_given (with_agent c number (with_home (c.agent number) home)) (λ j. eqb j number || c.given j)

-- "put after that agent's earlier ones"; "one loaded with some at 0"
unfoldable pub with_action : Agent → ℕ → ℕ → Agent
with_action a kind name =
    with_stage (with_count (with_actions a (set a.actions a.count (record { kind = kind; name = name }))) (a.count + 1)) looking

unfoldable pub add_action : State → ℕ → ℕ → ℕ → State
unfolding with_action
add_action c agent kind name = with_agent c agent (with_action (c.agent agent) kind name)

-- "Record kind 5 gives one": the touches of a place
unfoldable pub give_touches : State → ℕ → ℕ → State
give_touches c place touches = with_touches c (upd c.touches place touches)

-- "a row of sixteen actions at most": the row of agent x is full
abbrev pub is_full : State → ℕ → Bool
is_full c x = leb 16 (c.agent x).count

-- what the records so far made: a cell, and the places whose touches a record gave
pub record Progress : Type 0 where
  pub cell : State
  pub counted : ℕ → Bool

abbrev pub with_cell : Progress → State → Progress
with_cell p c = record { cell = c; counted = p.counted }

-- the touches of a place, given
abbrev pub with_counted : Progress → ℕ → ℕ → Progress
with_counted p place touches = record { cell = give_touches p.cell place touches; counted = λ j. eqb j place || p.counted j }

-- what they gave
abbrev pub known_in : Progress → Known
known_in p = record { places = p.cell.land.used; agents = p.cell.given; full = is_full p.cell; counted = p.counted }

-- ---- the whole file

-- a file is accepted as a cell, or refused with a number and an offset
pub data Load : Type 0 where
  accepted : State → Load
  refused : ℕ → ℕ → Load

-- one record and then the rest of the file: a refusal has "the byte offset of the record", 9 that of "the first byte after the end"
unfoldable pub load_record : (Progress → ℕ → Load) → Progress → List ℕ → ℕ → Record → Load
unfolding add_place add_agent add_action give_touches
load_record rest p s at (PlaceRecord number parent name) = rest (with_cell p (add_place p.cell number parent name)) (at + place_length (byte_at s at))
load_record rest p s at (AgentRecord number home) = rest (with_cell p (add_agent p.cell number home)) (at + 3)
load_record rest p s at (ActionRecord agent kind name) = rest (with_cell p (add_action p.cell agent kind name)) (at + 5)
load_record rest p s at (TouchRecord place touches) = rest (with_counted p place touches) (at + 6)
load_record rest p s at EndRecord = cond (ltb (at + 1) (length s)) (refused after_end (at + 1)) (accepted p.cell)
load_record rest p s at (Faulty n) = refused n at

-- from an offset on, with what the records so far made: "for a missing end, the file's length".
-- A record has a byte at least, so as many turns as the file has bytes, and one, are enough
unfoldable pub load_from : ℕ → Progress → List ℕ → ℕ → Load
unfolding load_record record_at
load_from zero p s at = refused cut_short (length s)
load_from (suc turns) p s at =
    cond (ltb at (length s))
    (load_record (λ q next. load_from turns q s next) p s at (record_at (known_in p) s at))
    (refused cut_short (length s))

-- "A load starts from a bare floor"
abbrev pub bare_progress : Progress
bare_progress = record { cell = cell_of bare_table; counted = λ j. false }

-- A file of length 0 "loads as a bare floor with no agents, as `04` does. .. A file that begins and lacks its end is still cut short"
-- (document 02, W1)
unfoldable pub load : List ℕ → Load
unfolding load_from bare_table cell_of
load [] = accepted (cell_of bare_table)
load (byte ∷ rest) = load_from (suc (length (byte ∷ rest))) bare_progress (byte ∷ rest) 0

-- ---- the call

-- "A refused one leaves the cell that was there and answers the number and the byte offset"
unfoldable pub loaded : Cell → Load → Loaded
loaded t (accepted c) = record { cell = table_of c; verdict = Accepted }
loaded t (refused number offset) = record { cell = t; verdict = Rejected number offset }

-- the load call: the cell t that was there, and the bytes of the file
unfoldable pub load_of : Cell → List ℕ → Loaded
unfolding load loaded
load_of t s = loaded t (load s)
