-- The load loop, before each turn, at its start and in its answers: what is left of the file loads to what the whole file loads to.
-- The loop keeps a table, whose row is made in the end, the set of agents whose rows are full, the set of places whose touches were given,
-- and the numbers of the places in the order in which they came.
use Rattle.std.specs.Prelude.{◌≡◌, refl, Bool, true, false, not, ◌&&◌, cond, List, ℕ, suc, ◌+◌, ◌<◌, ◌≤◌, eqb, length}
use Rattle.std.proofs.Common.{sym, ap, ◌∙◌, arith, lit≤}
use Rattle.sets.specs.Word.{word_of}
use Rattle.sets.specs.Set.{set_of}
use Rattle.sets.proofs.SetLaws.{set_eq}
use Rattle.sets.specs.declared.Set.{Set}
use Rattle.order.specs.Row.{counting_row}
use Rattle.order.proofs.RowLawsLoaded.{Came, came_start}
use Rattle.table.specs.Cell.{State, bare_table, cell_of, table_of, put_order}
use Rattle.table.proofs.CellLaws.{back, sized_bare}
use Rattle.table.specs.declared.Cell.{Cell}
use Rattle.meaning.specs.Answers.{Accepted, Rejected}
use Rattle.meaning.specs.File.{place_length, is_full, Progress, bare_progress, accepted, refused, load_from, load, loaded, load_of}
use Rattle.meaning.proofs.FileLaws.{bare_used, load_begun, load_empty}

-- the places that were loaded: all in use but the floor
abbrev pub loaded_at : State → ℕ → Bool
loaded_at c q = not (eqb q 0) && c.land.used q

-- a place record has five bytes at least
pub five_bytes : (kind n : ℕ) → n ≡ place_length kind → 5 ≤ n
five_bytes kind n e = rw e (go (eqb kind 6))
  where
    go : (b : Bool) → 5 ≤ cond b 11 5
    go true = lit≤ tt
    go false = lit≤ tt

-- and eleven at most
pub eleven_bytes : (kind n : ℕ) → n ≡ place_length kind → n ≤ 11
eleven_bytes kind n e = rw e (go (eqb kind 6))
  where
    go : (b : Bool) → cond b 11 5 ≤ 11
    go true = lit≤ tt
    go false = lit≤ tt

-- ---- the load from an offset on

-- the load from an offset on, with the table d, the full agents, the counted places and those that came so far, comes to the load of the
-- whole file
pub record Rest (s : List ℕ) (at : ℕ) (d : Cell) (full counted : Set) (came : List ℕ) (many : ℕ) : Type 0 where
  pub made : Progress
  pub turns : ℕ
  pub is : d ≡ put_order (table_of made.cell) counting_row
  pub listed : Came (loaded_at made.cell) made.cell.land.order came many
  pub filled : full ≡ set_of (is_full made.cell)
  pub numbered : counted ≡ set_of made.counted
  pub enough : length s < turns + at
  pub rest : load_from turns made s at ≡ load s

-- no row of the bare floor is full, and no touches are given
none_full : 0 ≡ (set_of (is_full (cell_of bare_table))).bits
unfolding cell_of bare_table word_of
none_full = refl

none_counted : 0 ≡ (set_of bare_progress.counted).bits
unfolding word_of
none_counted = refl

-- on the bare floor nobody came
none_loaded : (q : ℕ) → loaded_at (cell_of bare_table) q ≡ false
none_loaded q = ap (λ (b : Bool). not (eqb q 0) && b) (bare_used q) ∙ go (eqb q 0)
  where
    go : (b : Bool) → (not b && b) ≡ false
    go true = refl
    go false = refl

bare_is : bare_table ≡ put_order (table_of (cell_of bare_table)) counting_row
unfolding bare_table
bare_is = ap (λ (t : Cell). put_order t counting_row) (sym (back bare_table sized_bare))

-- the loop starts with the bare floor and the whole file, which has a byte
pub rest_all : (s : List ℕ) (d : Cell) (full counted : Set) (came : List ℕ) → 0 < length s → d ≡ bare_table → full.bits ≡ 0 → counted.bits ≡ 0
    → length came ≡ 64 → Rest s 0 d full counted came 0
unfolding cell_of bare_table
rest_all s d full counted came l e f g z = record {
  made = bare_progress;
  turns = suc (length s);
  is = e ∙ bare_is;
  listed = came_start (loaded_at (cell_of bare_table)) came z none_loaded;
  filled = set_eq (f ∙ none_full);
  numbered = set_eq (g ∙ none_counted);
  enough = omega arith;
  rest = sym (load_begun s l);
}

-- ---- the answers

pub answer_refused : (t : Cell) (s : List ℕ) (n o : ℕ) → refused n o ≡ load s → record { cell = t; verdict = Rejected n o } ≡ load_of t s
unfolding load_of loaded
answer_refused t s n o e = ap (loaded t) e

pub answer_accepted : (t d : Cell) (s : List ℕ) (c : State) → d ≡ table_of c → accepted c ≡ load s → record { cell = d; verdict = Accepted } ≡ load_of t s
unfolding load_of loaded
answer_accepted t d s c q e = ap (λ (x : Cell). record { cell = x; verdict = Accepted }) q ∙ ap (loaded t) e

-- no bytes: the bare floor
pub answer_empty : (t d : Cell) (s : List ℕ) → length s ≡ 0 → d ≡ bare_table → record { cell = d; verdict = Accepted } ≡ load_of t s
answer_empty t d s z e = answer_accepted t d s (cell_of bare_table) (e ∙ sym (back bare_table sized_bare)) (sym (load_empty s z))
