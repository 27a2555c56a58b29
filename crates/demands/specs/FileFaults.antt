-- When a cell file is refused, with which number and where (document 01, "The cell file" and "Turned-away calls"; document 02, W1, W2, W3, W6, W11):
-- read off the file's bytes alone. Neither the cell that a load makes nor the reading of a record plays a part. Definitions only.
use Rattle.std.specs.Prelude.{◌≡◌, ◌≢◌, Bool, true, false, not, ◌&&◌, ◌||◌, cond, List, [], ◌∷◌, ℕ, ◌+◌, ◌<◌, ltb, leb, eqb, length}
use Rattle.order.specs.Row.{occurs}
use Rattle.table.specs.Cell.{last_kind}
use Rattle.meaning.specs.Refusals.{cut_short, unknown_kind, place_too_large, parent_too_large, agent_too_large, given_twice, not_yet_given}
use Rattle.meaning.specs.Refusals.{name_zero, wrong_kind, seventeenth, after_end}
use Rattle.meaning.specs.File.{byte_at, name_at, gives_place, place_length}

-- ---- a record's bytes

-- "One byte of kind": 1 place, 2 agent, 3 action, 4 end, 5 touches, 6 place with keys
abbrev pub kind_at : List ℕ → ℕ → ℕ
kind_at s at = byte_at s at

-- the number in the first byte of the body: a place's or an agent's own, the agent of an action, the place of touches
abbrev pub first_number : List ℕ → ℕ → ℕ
first_number s at = byte_at s (at + 1)

-- the one in the second: a place's parent, an agent's home, an action's kind
abbrev pub second_number : List ℕ → ℕ → ℕ
second_number s at = byte_at s (at + 2)

-- the other kinds by name: an agent, an action, the end, touches
abbrev pub is_agent : ℕ → Bool
is_agent kind = eqb kind 2

abbrev pub is_action : ℕ → Bool
is_action kind = eqb kind 3

abbrev pub is_end : ℕ → Bool
is_end kind = eqb kind 4

abbrev pub is_touches : ℕ → Bool
is_touches kind = eqb kind 5

-- "then a body whose length the kind fixes": how many bytes a record has with its kind
abbrev pub record_length : ℕ → ℕ
record_length kind = cond (gives_place kind) (place_length kind) (cond (is_agent kind) 3 (cond (is_action kind) 5 (cond (is_end kind) 1 6)))

-- ---- what the records before gave

-- the numbers of the places and of the agents, the agent of each action, and the places whose touches were given
pub record Earlier : Type 0 where
  pub places : List ℕ
  pub agents : List ℕ
  pub actions : List ℕ
  pub touched : List ℕ

-- before the first record: "the floor always is" given
abbrev pub nothing_yet : Earlier
nothing_yet = record { places = 0 ∷ []; agents = []; actions = []; touched = [] }

-- and once the record at an offset is read too
abbrev pub with_record : List ℕ → Earlier → ℕ → Earlier
with_record s e at = record {
  places = cond (gives_place (kind_at s at)) (first_number s at ∷ e.places) e.places;
  agents = cond (is_agent (kind_at s at)) (first_number s at ∷ e.agents) e.agents;
  actions = cond (is_action (kind_at s at)) (first_number s at ∷ e.actions) e.actions;
  touched = cond (is_touches (kind_at s at)) (first_number s at ∷ e.touched) e.touched;
}

-- how often a number stands in a row
unfoldable pub how_often : ℕ → List ℕ → ℕ
how_often n [] = 0
how_often n (m ∷ row) = cond (eqb n m) 1 0 + how_often n row

-- ---- the condition of each number, of the record at an offset

-- "2 unknown kind, not 1 to 4"; kinds 5 and 6 leave the unknown kinds (document 02, W3 and W6)
abbrev pub of_unknown_kind : List ℕ → ℕ → Bool
of_unknown_kind s at = ltb (kind_at s at) 1 || ltb 6 (kind_at s at)

-- "1 cut short: a body incomplete"
abbrev pub is_cut : List ℕ → ℕ → Bool
is_cut s at = ltb (length s) (at + record_length (kind_at s at))

-- "3 number too large, or place number 0", "for a place record's own number" (W2); in a touch record "a place above 63 is 3" (W3)
abbrev pub has_wrong_place : List ℕ → ℕ → Bool
has_wrong_place s at =
    cond (gives_place (kind_at s at)) (eqb (first_number s at) 0 || leb 64 (first_number s at)) (is_touches (kind_at s at) && leb 64 (first_number s at))

-- "an agent number above 63 gets 14" (W2), in the record of an agent or of an action
abbrev pub has_large_agent : List ℕ → ℕ → Bool
has_large_agent s at = (is_agent (kind_at s at) || is_action (kind_at s at)) && leb 64 (first_number s at)

-- "A parent or home above 63 gets 13" (W2)
abbrev pub has_large_parent : List ℕ → ℕ → Bool
has_large_parent s at = (gives_place (kind_at s at) || is_agent (kind_at s at)) && leb 64 (second_number s at)

-- "4 number given twice"; "a second record for a place is 4" (W3)
abbrev pub gives_again : List ℕ → Earlier → ℕ → Bool
gives_again s e at =
    cond (gives_place (kind_at s at)) (occurs (first_number s at) e.places)
    (cond (is_agent (kind_at s at)) (occurs (first_number s at) e.agents)
    (is_touches (kind_at s at) && occurs (first_number s at) e.touched))

-- "5 not yet given": "A parent, home or agent must have been given earlier"; of touches, "a place not given is 5" (W3)
abbrev pub names_not_given : List ℕ → Earlier → ℕ → Bool
names_not_given s e at =
    cond (gives_place (kind_at s at) || is_agent (kind_at s at)) (not (occurs (second_number s at) e.places))
    (cond (is_action (kind_at s at)) (not (occurs (first_number s at) e.agents))
    (is_touches (kind_at s at) && not (occurs (first_number s at) e.places)))

-- "7 action kind not 1 to 3"; "Action kind 4 leaves the wrong kinds" (document 02, W11)
abbrev pub has_wrong_kind : List ℕ → ℕ → Bool
has_wrong_kind s at = is_action (kind_at s at) && (eqb (second_number s at) 0 || ltb last_kind (second_number s at))

-- "6 name 0 in a place or action"
abbrev pub has_name_zero : List ℕ → ℕ → Bool
has_name_zero s at = (gives_place (kind_at s at) || is_action (kind_at s at)) && eqb (name_at s at) 0

-- "8 seventeenth action": sixteen of that agent stand before it
abbrev pub is_seventeenth : List ℕ → Earlier → ℕ → Bool
is_seventeenth s e at = is_action (kind_at s at) && leb 16 (how_often (first_number s at) e.actions)

-- ---- the order of the tests

-- a number, and whether its condition holds of the record
pub data Test : Type 0 where
  test : ℕ → Bool → Test

-- "Within a record the order is 2, 1, 3, 4, 5, 7, 6, 8"; "13 and 14 stand where 3 stood, before 4; of the three, the earlier byte in the record
-- decides" (document 02, W2): 3 and 14 are told of the body's first byte, never of the same record, and 13 of its second
abbrev pub tests : List ℕ → Earlier → ℕ → List Test
tests s e at =
    test unknown_kind (of_unknown_kind s at)
    ∷ test cut_short (is_cut s at)
    ∷ test place_too_large (has_wrong_place s at)
    ∷ test agent_too_large (has_large_agent s at)
    ∷ test parent_too_large (has_large_parent s at)
    ∷ test given_twice (gives_again s e at)
    ∷ test not_yet_given (names_not_given s e at)
    ∷ test wrong_kind (has_wrong_kind s at)
    ∷ test name_zero (has_name_zero s at)
    ∷ test seventeenth (is_seventeenth s e at)
    ∷ []

-- a number is the first in a row of tests whose condition holds: its own does, and none before it
pub data Decides : List Test → ℕ → Type 0 where
  it_holds : {number : ℕ} {holds : Bool} {rest : List Test} → holds ≡ true → Decides (test number holds ∷ rest) number
  a_later_one : {number other : ℕ} {holds : Bool} {rest : List Test} → holds ≡ false → Decides rest number → Decides (test other holds ∷ rest) number

-- no condition of a row holds
pub data Passes : List Test → Type 0 where
  none_left : Passes []
  nor_this : {number : ℕ} {holds : Bool} {rest : List Test} → holds ≡ false → Passes rest → Passes (test number holds ∷ rest)

-- ---- the whole file

-- "Each record is taken apart or refused before the next is read": the records from the start to an offset are without fault and none of them is
-- the end; with what they gave
pub data Reached (s : List ℕ) : Earlier → ℕ → Type 0 where
  start : Reached s nothing_yet 0
  past : {e : Earlier} {at : ℕ} → Reached s e at → at < length s → Passes (tests s e at) → kind_at s at ≢ 4
      → Reached s (with_record s e at) (at + record_length (kind_at s at))

-- "the first faulty record decides": the number and "the byte offset of the record (for a missing end, the file's length; for 9, the first byte
-- after the end)". "A file that begins and lacks its end is still cut short" (document 02, W1)
pub data Fault (s : List ℕ) : ℕ → ℕ → Type 0 where
  in_a_record : {e : Earlier} {at number : ℕ} → Reached s e at → at < length s → Decides (tests s e at) number → Fault s number at
  no_end : {e : Earlier} → 0 < length s → Reached s e (length s) → Fault s cut_short (length s)
  after_the_end : {e : Earlier} {at : ℕ} → Reached s e at → kind_at s at ≡ 4 → at + 1 < length s → Fault s after_end (at + 1)
