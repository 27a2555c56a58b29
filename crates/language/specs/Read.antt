-- Reading a listing back (document 02, W8): the cell that a text gives, or 16 or 17 and where.
use Rattle.std.specs.Prelude.{ℕ, ◌+◌, ◌-◌, Bool, true, false, cond, leb, length}
use Rattle.table.specs.Cell.{State, cell_of, bare_table}
use Rattle.table.specs.declared.Name.{Name}
use Rattle.table.specs.declared.Cell.{Cell}
use Rattle.meaning.specs.declared.Loaded.{Loaded}
use Rattle.meaning.specs.Refusals.{outside_language, too_many}
use Rattle.meaning.specs.File.{add_place, add_agent, add_action, is_full, Load, accepted, refused, loaded}
use Rattle.language.specs.declared.Control.TheVariants.{Begin}
use Rattle.language.specs.Grammar.{Text}
use Rattle.language.specs.Machine.{Builder, Run, at, End, done, short, reads, taken}

-- the cell so far: how many places and agents, the place whose contents are read, and whether there were too many of anything
pub record Site : Type 0 where
  pub cell : State
  pub places : ℕ
  pub agents : ℕ
  pub here : ℕ
  pub over : Bool

-- too many of something: the rest is read all the same, for 16 comes before 17 wherever it stands
abbrev pub overfull : Site → Site
overfull x = record { cell = x.cell; places = x.places; agents = x.agents; here = x.here; over = true }

-- an agent, in the place whose contents are read, numbered "as they appear, .. agents from 0"; 64 at most
unfoldable pub site_agent : Site → Site
site_agent x = cond (leb 64 x.agents) (overfull x)
    (record { cell = add_agent x.cell x.agents x.here; places = x.places; agents = x.agents + 1; here = x.here; over = x.over })

-- an action of the latest agent; sixteen at most
unfoldable pub site_action : ℕ → ℕ → Site → Site
site_action k v x = cond (is_full x.cell (x.agents - 1)) (overfull x)
    (record { cell = add_action x.cell (x.agents - 1) k v; places = x.places; agents = x.agents; here = x.here; over = x.over })

-- a place, in the place whose contents are read, numbered "as they appear, places from 1"; 63 at most. Its own contents are read next
unfoldable pub site_place : Name → Site → Site
site_place n x = cond (leb 63 x.places) (overfull x)
    (record {
      cell = add_place x.cell (x.places + 1) x.here n;
      places = x.places + 1;
      agents = x.agents;
      here = x.places + 1;
      over = x.over;
    })

-- a place's contents end: those of the place around it are read on
unfoldable pub site_end : Site → Site
site_end x = record { cell = x.cell; places = x.places; agents = x.agents; here = (x.cell.land.place x.here).parent; over = x.over }

-- what each event of the machine does to a site
abbrev pub site : Builder Site
site = record { new_agent = site_agent; new_action = site_action; new_place = site_place; end_place = site_end }

-- a bare floor, and nothing read
unfoldable pub bare_site : Site
bare_site = record { cell = cell_of bare_table; places = 0; agents = 0; here = 0; over = false }

-- the machine before the first byte
unfoldable pub start : Run Site
unfolding bare_site
start = at Begin 0 bare_site

-- "16 for text outside the language at the first byte that no text of it could continue (the text's length if it stops early), then 17,
-- at the text's length, for too many of anything"
unfoldable pub answer : Text → End Site → Load
unfolding taken start
answer s (done x) = cond x.over (refused too_many (length s)) (accepted x.cell)
answer s short = refused outside_language (taken site start s)

-- the reading of a text
unfoldable pub read_text : Text → Load
unfolding answer reads start
read_text s = answer s (reads site start s)

-- the call: the cell t that was there, and the bytes of the text; a refusal leaves the cell, as a load's does
unfoldable pub read_of : Cell → Text → Loaded
unfolding read_text loaded
read_of t s = loaded t (read_text s)
