-- Tables that no file loads, for the rows on calls: a cell with one thing written anew, and what a call answers of it.
use Rattle.std.specs.Prelude.{Bool, false, List, [], ◌∷◌, ℕ, set}
use Rattle.sets.specs.Word.{bit}
use Rattle.table.specs.Base.{upd}
use Rattle.table.specs.Cell.{State, plain_name, bare_table, cell_of, table_of}
use Rattle.table.specs.declared.Name.{Name}
use Rattle.table.specs.declared.Cell.{Cell}
use Rattle.meaning.specs.Update.{at_stage, with_next, with_count, with_home, with_actions, with_places, with_used, with_land, with_locks, with_agent, with_touches}
use Rattle.meaning.specs.File.{load_of}
use Rattle.meaning.specs.Codes.{check_of, check_number}
use Rattle.meaning.specs.BenchRow.{file, place, agent, enters, exits, opens}

-- what is computed, and the numbers that it is to be
pub record Computed : Type 0 where
  pub meant : List ℕ
  pub value : List ℕ

abbrev pub bytes : List ℕ → List ℕ → Computed
bytes meant value = record { meant = meant; value = value }

abbrev pub number : ℕ → ℕ → Computed
number meant value = bytes (meant ∷ []) (value ∷ [])

-- 1 where a test holds
abbrev pub holds : Bool → Computed
holds b = number 1 (bit b)

-- 0 where it does not
abbrev pub fails : Bool → Computed
fails b = number 0 (bit b)

-- a name and the keys for entering, leaving and opening
abbrev pub named : ℕ → ℕ → ℕ → ℕ → Name
named name enter exit opened = record { name = name; entering = enter; exiting = exit; opening = opened }

-- ---- a cell with one thing written anew

-- place q has this name with its keys, parent and way
abbrev pub placed_as : ℕ → Name → ℕ → ℕ → State → State
placed_as q name parent way c = with_land c (with_places c.land (upd c.land.place q (record { name = name; parent = parent; way = way })))

-- place q has this name, which its keys equal, parent and way
abbrev pub placed : ℕ → ℕ → ℕ → ℕ → State → State
placed q name = placed_as q (plain_name name)

-- place q is not in use
abbrev pub not_used : ℕ → State → State
not_used q c = with_land c (with_used c.land (upd c.land.used q false))

-- the lock of q is x's
abbrev pub locked : ℕ → ℕ → State → State
locked q x c = with_locks c (upd c.lock q x)

-- agent x is at a stage, with a remembered and a chosen place
abbrev pub staged : ℕ → ℕ → ℕ → ℕ → State → State
staged x stage remembered chosen c = with_agent c x (at_stage (c.agent x) stage remembered chosen)

-- agent x lives in another place
abbrev pub lives : ℕ → ℕ → State → State
lives x home c = with_agent c x (with_home (c.agent x) home)

-- the unused actions of agent x are those from next to before count
abbrev pub counted : ℕ → ℕ → ℕ → State → State
counted x next count c = with_agent c x (with_count (with_next (c.agent x) next) count)

-- its action at j has this kind and name
abbrev pub acting : ℕ → ℕ → ℕ → ℕ → State → State
acting x j kind name c = with_agent c x (with_actions (c.agent x) (set (c.agent x).actions j (record { kind = kind; name = name })))

-- place q has so many touches
abbrev pub touched : ℕ → ℕ → State → State
touched q n c = with_touches c (upd c.touches q n)

-- ---- the cells

-- the table that a file loads
abbrev pub loaded_from : List ℕ → Cell
loaded_from s = (load_of bare_table s).cell

-- `7[enter 9 | open 8 | 8[exit 7.exit 7]] | 9[]`: places 1 and 3 stand on the floor, 2 in 1; agents 0 and 1 live in 1, agent 2 in 2
unfoldable pub sample : State
unfolding file
sample = cell_of (loaded_from (file (place 1 0 7 ∷ place 2 1 8 ∷ place 3 0 9 ∷ agent 0 1 ∷ enters 0 9 ∷ agent 1 1 ∷ opens 1 8 ∷
    agent 2 2 ∷ exits 2 7 ∷ exits 2 7 ∷ [])))

-- agent 0, which enters, at stages 1, 2 and 3
abbrev pub found : State
found = staged 0 1 0 0 sample

abbrev pub holding : State
holding = locked 0 0 (staged 0 2 0 0 sample)

abbrev pub entering : State
entering = locked 0 0 (locked 1 0 (staged 0 3 0 3 sample))

-- agent 2, which exits, and agent 1, which opens, at stage 3
abbrev pub exiting : State
exiting = locked 1 2 (locked 2 2 (staged 2 3 1 0 sample))

abbrev pub opening : State
opening = locked 1 1 (locked 2 1 (staged 1 3 1 2 sample))

-- agent 0 at stages 4, 5 and 6: place 1 is on its way to place 3
abbrev pub going : State
going = placed 1 7 3 1 (counted 0 1 1 (staged 0 4 0 0 sample))

abbrev pub going5 : State
going5 = locked 1 0 (staged 0 5 0 0 going)

abbrev pub going6 : State
going6 = locked 3 0 (locked 1 0 (staged 0 6 0 0 going))

-- `7[exit 9]`: agent 63 lives in place 63
unfoldable pub topmost : State
unfolding file
topmost = cell_of (loaded_from (file (place 63 0 7 ∷ agent 63 63 ∷ exits 63 9 ∷ [])))

-- what the check answers
abbrev pub checked : State → ℕ
checked c = check_number (check_of (table_of c))
