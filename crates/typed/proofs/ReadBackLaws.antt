-- The listing of every sound table is read back: `read_back`; and so is that of the cell that any load, of a file or of a text, and any list of
-- calls reach: `loaded_back`, `reached_back`, `typed_back`. In words of calls: `listed_again`, `loaded_again`.
-- Idea: the table's term can be typed, the text is its listing, and it fits as the table does.
use Rattle.std.specs.Prelude.{◌≡◌, ◌≢◌, Bool, cond, List, [], ◌∷◌, eqb, length}
use Rattle.std.proofs.Math.Path.{refl, sym}
use Rattle.std.proofs.Common.{ap, ◌∙◌, arith, ne_eqb}
use Rattle.std.proofs.Math.Bool.{true, false}
use Prim.Native.Nat.{ℕ, zero, suc, ◌≤◌}
use Rattle.table.specs.Base.{tab}
use Rattle.table.proofs.BaseLaws.{Told, yea, nay, told}
use Rattle.table.specs.Bounds.{Sized, Names16}
use Rattle.table.specs.Cell.{State, cell_of}
use Rattle.table.proofs.CellLaws.{bounded}
use Rattle.table.specs.Sound.{sound}
use Rattle.table.specs.declared.Action.{Action}
use Rattle.table.specs.declared.Cell.{Cell}
use Rattle.meaning.specs.File.{Load, load, accepted, loaded}
use Rattle.meaning.specs.Calculus.{stands_at}
use Rattle.meaning.specs.Plain.{tree_of}
use Rattle.meaning.specs.Run.{Call}
use Rattle.meaning.specs.Listing.{listing, list_answer, list_buffer}
use Rattle.meaning.specs.Every.{every_none, every_more, Every}
use Rattle.calculus.specs.Formed.{Good, none, more}
use Rattle.calculus.proofs.MoveCases.{Stands, stands_in}
use Rattle.calculus.specs.Terms.{Term, amb, nil, ◌≅◌}
use Rattle.calculus.proofs.TermLaws.{◌⨾◌}
use Rattle.calculus.specs.TermOf.{row, parallel, agent_at, place_at, level, contents, term}
use Rattle.calculus.specs.TermListing.{or_zero, listed}
use Rattle.calculus.specs.Numbers.{Row16, Numbers16}
use Rattle.calculus.proofs.TreeListed.{tree_listed}
use Rattle.calculus.proofs.SameListing.{fine_rows}
use Rattle.demands.specs.Invariant.{Sound}
use Rattle.demands.specs.Reading.{name_in}
use Rattle.demands.specs.AfterCalls.{reached}
use Rattle.demands.proofs.SoundTest.{sound_true, sound_bounded}
use Rattle.demands.proofs.DemandThree.{reached_inv}
use Rattle.demands.proofs.Layouts.{tree_listing_lem}
use Rattle.demands.proofs.LoadingNumbers.{table16, tree16}
use Rattle.demands.proofs.AgreesLaws.{tree_formed}
use Rattle.demands.specs.SameListings.{term_of, OfBytes}
use Rattle.demands.proofs.SameListingsLaws.{fresh16}
use Rattle.language.specs.Grammar.{Text, Contents, nothing, agent, place, contents_typed, floor_typed}
use Rattle.language.specs.Read.{read_text, read_of}
use Rattle.language.specs.Layout.{fits, layout}
use Rattle.language.proofs.Answers.{read_fits}
use Rattle.typed.specs.TermTyped.{term_typed}
use Rattle.typed.proofs.LayoutTerm.{layout_term}
use Rattle.typed.specs.Loaded.{IsLoaded, from_file, from_text, ReadAs}
use Rattle.typed.proofs.LoadedLaws.{layout_listed, read_as, loaded_fresh, loaded_numbers}
use Rattle.typed.proofs.Weighed.{tree_fits, fits_same}
use Rattle.typed.proofs.Typable.{Able, Typable, can_amb, can_nil, can_par, can_row, Says, says}
use Rattle.calculus.proofs.Decimals.{decimal_some}
use Rattle.calculus.proofs.TreeListed.{action_some, left_some}
use Rattle.calculus.proofs.OneListing.{one_listing}
use Rattle.language.specs.Grammar.{action_of, action_typed, agent_typed}
use Rattle.typed.proofs.CellFits.{term_fits_lem}
use Rattle.typed.specs.ReadBack.{ReadBack, ListedAgain}

-- ---- the term of a sound cell can be typed

-- a row in range, with numbers of 16 bits
good_able : {l : List Action} → Good l → Row16 l → Every Able l
good_able none every_none = every_none
good_able (more a b c g) (every_more n e) = every_more (record { fine = record { first = a; last = b; small = n }; named = c }) (good_able g e)

-- many in parallel
parallel_typable : (f : ℕ → Term) (n : ℕ) → ((i : ℕ) → Typable (f i)) → Typable (parallel f n)
unfolding parallel
parallel_typable f zero h = can_nil
parallel_typable f (suc n) h = can_par (h n) (parallel_typable f n h)

module _ (c : State) (i : Sound c) (s : Numbers16 (tree_of c)) where
  -- an agent
  agent_typable : (p x : ℕ) → Typable (agent_at (tree_of c) p x)
  unfolding agent_at
  agent_typable p x = go (eqb ((tree_of c).home x) p)
    where
      go : (b : Bool) → Typable (cond b (row ((tree_of c).unused x)) nil)
      go true = can_row (good_able ((tree_formed c i).good x) (s.actions x))
      go false = can_nil

  -- a place, which has a name that is not 0
  place_typable : (g : ℕ → Term) (p q : ℕ) → Typable (g q) → Typable (place_at (tree_of c) g p q)
  unfolding place_at
  place_typable g p q t = go (told (stands_at (tree_of c) q p))
    where
      named : Stands (tree_of c) q p → 1 ≤ ((tree_of c).name q).name
      named j = unfold tree_of in unfold name_in in i.places.named q j.used j.placed

      go : Told (stands_at (tree_of c) q p) → Typable (cond (stands_at (tree_of c) q p) (amb ((tree_of c).name q) (g q)) nil)
      go (yea e) = rw e (can_amb (s.names q) (named (stands_in (tree_of c) q p e)) t)
      go (nay e) = rw e can_nil

  -- what a place holds
  contents_typable : (k p : ℕ) → Typable (contents (tree_of c) k p)
  unfolding contents level
  contents_typable zero p = can_nil
  contents_typable (suc k) p = can_par (parallel_typable _ 64 (agent_typable p))
      (parallel_typable _ 64 (λ q. place_typable (contents (tree_of c) k) p q (contents_typable k q)))

-- ---- the whole text

-- contents with a part have a text
or_zero_lem : (x : Text) → x ≢ [] → x ≡ or_zero x
unfolding or_zero
or_zero_lem [] d = absurd (d refl)
or_zero_lem (b ∷ x) d = rw (ne_eqb (length (b ∷ x)) 0 (omega arith))

-- so `0` is typed where nothing is
floor_text : (c : Contents) → floor_typed c ≡ or_zero (contents_typed c)
unfolding floor_typed contents_typed
floor_text nothing = unfold or_zero in unfold tab in refl
floor_text (agent r c) = or_zero_lem _ (left_some _ _ (unfold agent_typed in left_some _ _ (unfold action_typed in action_some (action_of r.first))))
floor_text (place h c e) = or_zero_lem _ (left_some _ _ (decimal_some h.name.value))

-- the listing of a sound cell is that of its term
cell_listed : (c : State) → Sound c → Numbers16 (tree_of c) → listing c ≡ listed (term_of c)
cell_listed c i s = let w = tree_formed c i in tree_listing_lem c ∙ tree_listed (tree_of c) w (fine_rows (tree_of c) w s)

-- ---- the theorem

-- of a sound cell whose numbers have 16 bits
pub cell_back : (c : State) → Sound c → Numbers16 (tree_of c) → ReadBack c
cell_back c i s = record {
  cell = layout w.tree;
  read = ap read_text (sym text) ∙ read_fits w.tree fit;
  same = layout_term w.tree fit ⨾ same;
  again = layout_listed w.tree fit ∙ one_listing same ∙ sym (cell_listed c i s);
}
  where
    w : Says (contents (tree_of c) 64 0)
    w = says (contents_typable c i s 64 0)

    same : term_typed w.tree ≅ term_of c
    same = unfold term in w.same

    fit : fits w.tree ≡ true
    fit = tree_fits w.tree ∙ fits_same same ∙ term_fits_lem c

    text : floor_typed w.tree ≡ listing c
    text = floor_text w.tree ∙ ap or_zero w.text ∙ (unfold listed in unfold term in sym (cell_listed c i s))

-- of every sound table; sizes and 16 bits are what every value of the struct has
pub read_back : (t : Cell) → Sized t → Names16 t → sound (cell_of t) ≡ true → ReadBack (cell_of t)
read_back t z n e = cell_back (cell_of t) (sound_bounded (cell_of t) (bounded t z) e) (tree16 (cell_of t) (table16 t n))

-- of the cell that any loaded cell, from a file or from a text, and any list of calls reach
pub loaded_back : (c : State) → IsLoaded c → (calls : List Call) → ReadBack (cell_of (reached c calls))
loaded_back c l calls = cell_back (cell_of (reached c calls)) (reached_inv c (loaded_fresh c l) calls).sound
    (fresh16 c (loaded_fresh c l) calls (loaded_numbers c l))

-- from an accepted file
pub reached_back : (s : List ℕ) → OfBytes s → (c : State) → load s ≡ accepted c → (calls : List Call) → ReadBack (cell_of (reached c calls))
reached_back s b c e = loaded_back c (from_file s b e)

-- from a text that is read
pub typed_back : (s : Text) (c : State) → read_text s ≡ accepted c → (calls : List Call) → ReadBack (cell_of (reached c calls))
typed_back s c e = loaded_back c (from_text s e)

-- ---- in words of calls

-- two sound cells with one listing are answered alike by the listing call
same_answer : (c d : State) → sound c ≡ true → sound d ≡ true → listing c ≡ listing d → (buffer : List ℕ) → list_answer c buffer ≡ list_answer d buffer
unfolding list_answer
same_answer c d s r e buffer = rw (s, r, e)

-- and leave the same bytes
same_bytes : (c d : State) → sound c ≡ true → sound d ≡ true → listing c ≡ listing d → (buffer : List ℕ) → list_buffer c buffer ≡ list_buffer d buffer
unfolding list_buffer
same_bytes c d s r e buffer = rw (s, r, e)

-- reading what was listed and listing it again gives the same bytes: of a sound table whose listing is read back
back_again : (u t : Cell) → sound (cell_of t) ≡ true → ReadBack (cell_of t) → ListedAgain u t
unfolding read_of loaded
back_again u t s b = record {
  verdict = ap (λ (l : Load). (loaded u l).verdict) b.read;
  answer = λ buffer. ap (λ (d : State). list_answer d buffer) there ∙ same_answer b.cell (cell_of t) back.loaded.sound s b.again buffer;
  bytes = λ buffer. ap (λ (d : State). list_buffer d buffer) there ∙ same_bytes b.cell (cell_of t) back.loaded.sound s b.again buffer;
}
  where
    back : ReadAs (listing (cell_of t)) b.cell
    back = read_as (listing (cell_of t)) b.cell b.read

    there : cell_of (read_of u (listing (cell_of t))).cell ≡ b.cell
    there = ap (λ (l : Load). cell_of (loaded u l).cell) b.read ∙ back.loaded.table

-- of every sound table
pub listed_again : (u t : Cell) → Sized t → Names16 t → sound (cell_of t) ≡ true → ListedAgain u t
listed_again u t z n e = back_again u t e (read_back t z n e)

-- of the table that any loaded cell and any list of calls reach
pub loaded_again : (u : Cell) (c : State) → IsLoaded c → (calls : List Call) → ListedAgain u (reached c calls)
loaded_again u c l calls = back_again u (reached c calls) (sound_true (cell_of (reached c calls)) (reached_inv c (loaded_fresh c l) calls).sound)
    (loaded_back c l calls)
