-- What is claimed of a loaded cell, and of a text that is read (document 02, W8). Definitions only; LoadedLaws proves it of every accepted file
-- and of every text that is read.
use Rattle.std.specs.Prelude.{◌≡◌, ◌↔◌, true, List, ℕ, ◌+◌}
use Rattle.order.specs.Row.{counting}
use Rattle.table.specs.Cell.{State, cell_of, table_of}
use Rattle.table.specs.Sound.{leads, touch_sum, sound}
use Rattle.table.specs.Idle.{idle}
use Rattle.meaning.specs.File.{accepted, load}
use Rattle.meaning.specs.Listing.{listing}
use Rattle.meaning.specs.Plain.{tree_of}
use Rattle.meaning.specs.Report.{Pair, report_of}
use Rattle.meaning.specs.Run.{Call, step_of, says_rest, rests, settled}
use Rattle.calculus.specs.Terms.{◌≅◌}
use Rattle.calculus.specs.TermListing.{listed}
use Rattle.calculus.specs.Numbers.{Numbers16}
use Rattle.demands.specs.Fresh.{Fresh}
use Rattle.demands.specs.AfterCalls.{reached, answered, plain_after, AfterCalls}
use Rattle.demands.specs.TwoSteps.{MovesReached}
use Rattle.demands.specs.Agrees.{term_after, Agrees}
use Rattle.demands.specs.Printed.{pair_calls, printed_of}
use Rattle.demands.specs.TouchTotal.{added}
use Rattle.demands.specs.FirstCome.{arrivals, TakesUnwished, FirstCome}
use Rattle.demands.specs.SameListings.{term_of, OfBytes}
use Rattle.demands.specs.Where.{WhereExact}
use Rattle.ceiling.specs.Ceiling.{UnderCeiling}
use Rattle.trail.specs.Findings.{Leads}
use Rattle.claims.specs.Claims.{trail_of, AskedAsRun}
use Rattle.language.specs.Grammar.{Text, Contents, floor_typed}
use Rattle.language.specs.Layout.{places_in, fits, layout}
use Rattle.language.specs.Read.{read_text}
use Rattle.typed.specs.TermTyped.{term_typed}

-- a cell that was loaded, from a file of bytes or from a text
pub data IsLoaded (c : State) : Type 0 where
  from_file : (file : List ℕ) → OfBytes file → load file ≡ accepted c → IsLoaded c
  from_text : (text : Text) → read_text text ≡ accepted c → IsLoaded c

-- "A cell so read counts as loaded": what is proved of every loaded cell c, whose places came in the order of a log and whose touches were so
-- many when it was loaded. Of a file these are its place records and the sum of its touch records; of a text see ReadAs
pub record CountsAsLoaded (log : List ℕ) (touches : ℕ) (c : State) : Type 0 where
  -- it is as a load leaves it
  pub fresh : Fresh c
  -- no call makes it unsound
  pub stays_sound : (calls : List Call) → sound (cell_of (reached c calls)) ≡ true
  -- it is sound and settled, and one tree
  pub sound : sound c ≡ true
  pub settled : settled c ≡ true
  pub one_tree : (q : ℕ) → leads c q ≡ true
  -- the cell of its table
  pub table : cell_of (table_of c) ≡ c
  -- and its names, keys and numbers have 16 bits, after every list of calls
  pub numbers : (calls : List Call) → Numbers16 (tree_of (cell_of (reached c calls)))
  -- demands 2 and 3, and the agreement with the published calculus, after every list of calls
  pub two : (calls : List Call) → MovesReached (reached c calls)
  pub three : (calls : List Call) → AfterCalls c calls
  pub agrees : (calls : List Call) → Agrees c calls
  -- the term of the cell that is reached is the one to which the loaded term reduces
  pub term : (calls : List Call) → term_after c calls ≡ term_of (cell_of (reached c calls))
  -- whether an answer says asleep or done does not depend on the wish
  pub any_wish : (calls : List Call) (x wish : ℕ) → says_rest (step_of (reached c calls) x wish).answer ≡ rests (reached c calls) x
  -- it is idle exactly if every agent that is given rests
  pub idles : (calls : List Call)
      → (idle (cell_of (reached c calls)) ≡ true) ↔ ((x : ℕ) → (cell_of (reached c calls)).given x ≡ true → rests (reached c calls) x ≡ true)
  -- the sum of touches is what was loaded and what calls added
  pub total : (calls : List Call) → touch_sum (cell_of (reached c calls)) ≡ touches + added calls (answered c calls)
  -- first in, first served
  pub first_come : (calls : List Call) (x wish : ℕ) → TakesUnwished (reached c calls) x wish
      → FirstCome (reached c calls) (arrivals (table_of c) log calls) x wish
  -- where a place is, in words of the plain tree
  pub whereabouts : (calls : List Call) → WhereExact (reached c calls) (plain_after c calls).tree
  -- no order can churn forever: at most so many of the step calls change it
  pub ceiling : (calls : List Call) → UnderCeiling c calls
  -- the trail of the calls leads from its tree to the listing of the cell that is reached
  pub trail : (calls : List Call) → Leads (tree_of c) (trail_of c calls) (listing (cell_of (reached c calls)))
  -- a host that asks right before each call, and writes what that told where the reply says a move, writes that trail
  pub asked : (calls : List Call) → AskedAsRun c calls
  -- what `walk` prints of it: the loaded tree, a line for each call, and the plain tree after the calls
  pub printed : (pairs : List Pair) → report_of (accepted c) pairs ≡ printed_of c (pair_calls pairs)

-- c is what a text says: the text is that of a tree that fits, and c is the tree's cell
pub record ReadAs (text : Text) (c : State) : Type 0 where
  pub tree : Contents
  pub same : floor_typed tree ≡ text
  pub fit : fits tree ≡ true
  pub cell : layout tree ≡ c
  -- "Places .. are numbered as they appear, places from 1 .., and touches are 0": places came in the order of appearance, which is that of
  -- their numbers
  pub loaded : CountsAsLoaded (counting (places_in tree) 1) 0 c
  -- the term of the cell is that of the tree
  pub said : term_of c ≅ term_typed tree
  -- "listing the result gives the equivalent text of W7"
  pub relisted : listing c ≡ listed (term_typed tree)
