-- One computed table, one result (document 02, W8): texts that are read and listed again, texts that give the cell of a file, and refusals.
use Rattle.std.specs.Prelude.{◌≡◌, refl, Bool, true, false, ◌&&◌, List, [], ◌∷◌, ◌++◌, ℕ, zero, suc, eqb}
use Prim.Native.String.{String}
use Rattle.sets.specs.Word.{bit, has, word_of}
use Rattle.order.specs.Row.{keep, later, counting, counting_row}
use Rattle.table.specs.Base.{upd, tab, fold_up}
use Rattle.table.specs.Cell.{State, cell_of, bare_table}
use Rattle.table.specs.declared.Place.{Place}
use Rattle.table.specs.declared.Action.{Action}
use Rattle.table.specs.declared.Agent.{Agent}
use Rattle.meaning.specs.File.{place_record, agent_record, action_record, record_at, add_place, add_agent, with_action, add_action}
use Rattle.meaning.specs.File.{Load, accepted, refused, load_record, load_from, load}
use Rattle.meaning.specs.Text.{ascii, digits, gap, joined_all}
use Rattle.meaning.specs.Sorted.{leq, insert, sorted}
use Rattle.meaning.specs.Listing.{kind_text, action_text, agent_text, lists_in, texts_of, agent_texts, stands_under, is_plain, slashed, name_text, bracketed}
use Rattle.meaning.specs.Listing.{place_texts}
use Rattle.meaning.specs.Listing.{in_order, contents_text, listing}
use Rattle.meaning.specs.BenchRow.{file, place, agent, enters, exits, opens, releases, keyed}
use Rattle.language.specs.Grammar.{Text}
use Rattle.language.specs.Machine.{begin_word, begin_part, closed, ended, least_of, follow, continues, spelled, next, apply, is_on, land, step, run}
use Rattle.language.specs.Machine.{end_at, end, reads, taken}
use Rattle.language.specs.Read.{site_agent, site_action, site_place, site_end, bare_site, start, answer, read_text}

-- ---- rows

-- a text and its listing once it is read; a text and the file that gives the same cell; a text that is read; a text, and the number and the
-- offset that it is refused with
pub data Row : Type 0 where
  lists : String → String → Row
  gives : String → List ℕ → Row
  passes : Text → Row
  stops : String → ℕ → ℕ → Row
  overruns : Text → ℕ → ℕ → Row

-- so many times the same text
repeated : ℕ → String → Text
repeated zero s = []
repeated (suc n) s = ascii s ++ repeated n s

-- so many places, each in the one before
nested : ℕ → Text
unfolding repeated
nested n = repeated n "1[" ++ repeated n "]"

-- one agent more than so many, side by side
beside : ℕ → Text
unfolding repeated
beside n = repeated n "open 1 | " ++ ascii "open 1"

-- an agent with one action more than so many
long : ℕ → Text
unfolding repeated
long n = repeated n "exit 1." ++ ascii "exit 1"

pub rows : List Row
rows =
    -- "`0` for a bare floor only"
    lists "0" "0"
    ∷ lists "7[]" "7[]"
    ∷ lists "enter 65535" "enter 65535"
    -- "parts in any order", and "listing the result gives the equivalent text of W7"
    ∷ lists "9[7[] | exit 7.open 65535] | enter 1" "enter 1 | 9[exit 7.open 65535 | 7[]]"
    ∷ lists "7[] | open 9 | 70[] | open 10 | enter 9 | 7/1/1/1[]" "enter 9 | open 10 | open 9 | 7/1/1/1[] | 70[] | 7[]"
    -- "keys 0 to 65,535 (three that equal the name may be written or left off)"
    ∷ lists "7/7/7/7[]" "7[]"
    ∷ lists "7/0/65535/10[7/7/7/8[]]" "7/0/65535/10[7/7/7/8[]]"
    ∷ lists "7/7/0/0[]" "7/7/0/0[]"
    -- "Places and agents are numbered as they appear, places from 1 and agents from 0, and touches are 0": outer before inner, and the row of
    -- places is the order of appearance
    ∷ gives "7[enter 9] | 9[exit 7]" (file (place 1 0 7 ∷ agent 0 1 ∷ enters 0 9 ∷ place 2 0 9 ∷ agent 1 2 ∷ exits 1 7 ∷ []))
    ∷ gives "5[6[7[exit 6] | 8/1/2/3[]]] | open 5.exit 3 | 9[]" (file (place 1 0 5 ∷ place 2 1 6 ∷ place 3 2 7 ∷ agent 0 3 ∷ exits 0 6 ∷
    keyed 4 2 8 1 2 3 ∷ agent 1 0 ∷ opens 1 5 ∷ exits 1 3 ∷ place 5 0 9 ∷ []))
    -- bench cases of document 01, as they are typed
    ∷ gives "7[enter 7]" (file (place 1 0 7 ∷ agent 0 1 ∷ enters 0 7 ∷ []))
    ∷ gives "9[7[exit 9]]" (file (place 1 0 9 ∷ place 2 1 7 ∷ agent 0 2 ∷ exits 0 9 ∷ []))
    ∷ gives "open 7 | 7[8[]]" (file (place 1 0 7 ∷ place 2 1 8 ∷ agent 0 0 ∷ opens 0 7 ∷ []))
    -- "16 .. at the first byte that no text of it could continue (the text's length if it stops early)"
    ∷ stops "" 16 0
    ∷ stops "7" 16 1
    ∷ stops "7[" 16 2
    ∷ stops "7[] | " 16 6
    ∷ stops "7[enter 7" 16 9
    ∷ stops "enter 7." 16 8
    -- "decimal numbers without leading zeros"
    ∷ stops "07[]" 16 1
    ∷ stops "7/00" 16 3
    -- "names and action numbers 1 to 65,535, keys 0 to 65,535"
    ∷ stops "65536[]" 16 4
    ∷ stops "enter 0" 16 6
    ∷ stops "7/65536/1/1[]" 16 6
    -- three keys or none
    ∷ stops "7/0[]" 16 3
    ∷ stops "7/1/2[]" 16 5
    -- "`0` for a bare floor only"
    ∷ stops "7[0]" 16 2
    ∷ stops "00" 16 1
    ∷ stops "0 | 7[]" 16 1
    -- "one space on each side of a bar"
    ∷ stops "7[] |9[]" 16 5
    ∷ stops "7[]  | 9[]" 16 4
    -- "nothing after the end", also no end of a line
    ∷ stops "7[]]" 16 3
    ∷ stops "7[9[]" 16 5
    ∷ stops "7[]\n" 16 3
    ∷ stops "enter 7.7[]" 16 8
    ∷ stops "embark" 16 1
    -- "the listing writes it `release 9`, the reader takes it" (document 02, W11)
    ∷ lists "release 9" "release 9"
    ∷ lists "7[] | release 65535 | open 7.release 7" "open 7.release 7 | release 65535 | 7[]"
    ∷ gives "open 7.release 7" (file (agent 0 0 ∷ opens 0 7 ∷ releases 0 7 ∷ []))
    ∷ stops "r" 16 1
    ∷ stops "rel" 16 3
    ∷ stops "release" 16 7
    ∷ stops "release 0" 16 8
    ∷ stops "relay 7" 16 3
    ∷ stops "open 7.release" 16 14
    -- "fits 63 places, 64 agents and sixteen actions each": "17, at the text's length, for too many of anything"
    ∷ passes (nested 63)
    ∷ overruns (nested 64) 17 192
    ∷ passes (beside 63)
    ∷ overruns (beside 64) 17 582
    ∷ passes (long 15)
    ∷ overruns (long 16) 17 118
    -- the language has no limits: 16 comes before 17, wherever it stands
    ∷ overruns (long 16 ++ ascii "]") 16 118
    ∷ overruns (nested 64 ++ ascii " | 7") 16 196
    ∷ []

-- ---- what a row asks

-- two texts are the same
same : Text → Text → Bool
same [] [] = true
same [] (y ∷ ys) = false
same (x ∷ xs) [] = false
same (x ∷ xs) (y ∷ ys) = eqb x y && same xs ys

-- the numbers of a place
place_numbers : Place → List ℕ
place_numbers x = x.name.name ∷ x.name.entering ∷ x.name.exiting ∷ x.name.opening ∷ x.parent ∷ x.way ∷ []

-- of actions
action_numbers : List Action → List ℕ
action_numbers [] = []
action_numbers (x ∷ rest) = x.kind ∷ x.name ∷ action_numbers rest

-- of an agent
agent_numbers : Agent → List ℕ
unfolding action_numbers
agent_numbers a = a.home ∷ a.stage ∷ a.remembered ∷ a.chosen ∷ a.next ∷ a.count ∷ action_numbers a.actions

-- of the places and agents below n
element_numbers : ℕ → State → List ℕ
unfolding place_numbers agent_numbers
element_numbers zero c = []
element_numbers (suc n) c = bit (c.land.used n) ∷ c.lock n ∷ c.touches n ∷ bit (c.given n) ∷
    (place_numbers (c.land.place n) ++ (agent_numbers (c.agent n) ++ element_numbers n c))

-- all numbers of a cell
cell_numbers : State → List ℕ
unfolding element_numbers
cell_numbers c = element_numbers 64 c ++ c.land.order

-- it is read, and listed as this text
lists_as : Load → Text → Bool
unfolding same
lists_as (accepted c) s = same (listing c) s
lists_as (refused n i) s = false

-- both give a cell, and its numbers are the same
agrees : Load → Load → Bool
unfolding same cell_numbers
agrees (accepted c) (accepted d) = same (cell_numbers c) (cell_numbers d)
agrees (accepted c) (refused n i) = false
agrees (refused n i) m = false

-- it is read
is_read : Load → Bool
is_read (accepted c) = true
is_read (refused n i) = false

-- it is refused with this number, at this offset
refuses : Load → ℕ → ℕ → Bool
refuses (accepted c) n i = false
refuses (refused m j) n i = eqb m n && eqb j i

holds : Row → Bool
unfolding lists_as agrees is_read refuses
holds (lists text list) = lists_as (read_text (ascii text)) (ascii list)
holds (gives text bytes) = agrees (read_text (ascii text)) (load bytes)
holds (passes text) = is_read (read_text text)
holds (stops text n i) = refuses (read_text (ascii text)) n i
holds (overruns text n i) = refuses (read_text text) n i

-- every row
pub all : List Row → Bool
unfolding holds
all [] = true
all (r ∷ rest) = holds r && all rest

-- computed by the checker from the definitions alone
pub examples : all rows ≡ true
unfolding all rows holds same lists_as agrees is_read refuses repeated nested beside long place_numbers action_numbers agent_numbers element_numbers
    cell_numbers has word_of keep later counting counting_row upd tab fold_up cell_of bare_table place_record agent_record action_record record_at
    add_place add_agent with_action add_action load_record load_from load file digits gap joined_all leq insert sorted kind_text action_text agent_text
    lists_in texts_of agent_texts stands_under is_plain slashed name_text bracketed place_texts in_order contents_text listing begin_word begin_part
    closed ended least_of follow continues spelled next apply is_on land step run end_at end reads taken site_agent site_action site_place site_end
    bare_site start answer read_text
examples = refl
