-- Every accepted file and every text that is read count as loaded; the text says what was typed, and is listed as W7 lists that (document 02, W8).
-- Idea: the cell of a tree that fits is fresh, as a file's is, and has the tree's term.
use Rattle.std.specs.Prelude.{◌≡◌, refl, ◌↔◌, true, List, ℕ, ◌+◌, ◌≤◌}
use Rattle.std.proofs.Common.{ap, ◌∙◌, arith}
use Rattle.std.proofs.Math.Path.{subst}
use Rattle.order.specs.Row.{counting}
use Rattle.table.proofs.BaseLaws.{Told, yea, nay, told}
use Rattle.table.proofs.SumLaws.{sum_most}
use Rattle.table.specs.Bounds.{Sized, Names16}
use Rattle.table.specs.Cell.{State, cell_of}
use Rattle.table.proofs.CellLaws.{bounded}
use Rattle.table.specs.Sound.{touches_at, touch_sum, sound}
use Rattle.table.specs.declared.Cell.{Cell}
use Rattle.meaning.specs.File.{Load, accepted, load}
use Rattle.meaning.specs.Listing.{listing}
use Rattle.meaning.specs.Plain.{tree_of}
use Rattle.meaning.specs.Report.{calls_in, report_of}
use Rattle.meaning.specs.Run.{Call}
use Rattle.calculus.specs.Terms.{◌≅◌, struct_symm}
use Rattle.calculus.proofs.TermLaws.{◌⨾◌}
use Rattle.calculus.specs.TermListing.{listed}
use Rattle.calculus.proofs.OneListing.{one_listing}
use Rattle.calculus.proofs.TreeListed.{tree_listed}
use Rattle.calculus.specs.Numbers.{Numbers16}
use Rattle.calculus.proofs.SameListing.{fine_rows}
use Rattle.demands.specs.Fresh.{Fresh}
use Rattle.demands.specs.Invariant.{Sound}
use Rattle.demands.proofs.SoundTest.{sound_true, sound_bounded, leads_all}
use Rattle.demands.proofs.Layouts.{tree_listing_lem}
use Rattle.demands.proofs.LoadingFile.{accepted_fresh, loaded_touches}
use Rattle.demands.proofs.LoadingOrder.{accepted_logged}
use Rattle.demands.proofs.LoadingLaws.{fresh_inv, fresh_settled, fresh_forth}
use Rattle.demands.proofs.LoadingNumbers.{table16, tree16}
use Rattle.demands.specs.AfterCalls.{reached, answered}
use Rattle.demands.proofs.Arrivals.{Logged}
use Rattle.demands.specs.TouchTotal.{touches_in, added}
use Rattle.demands.specs.FirstCome.{places_in as recorded_places}
use Rattle.demands.specs.Printed.{pair_calls, printed_of}
use Rattle.demands.proofs.PrintedLaws.{fresh_printed}
use Rattle.demands.proofs.AgreesLaws.{tree_formed, fresh_agrees}
use Rattle.demands.proofs.DemandTwo.{fresh_two}
use Rattle.demands.proofs.DemandThree.{reached_inv, fresh_three, fresh_any_wish, fresh_idle}
use Rattle.demands.proofs.TouchTotalLaws.{fresh_total}
use Rattle.demands.proofs.FirstComeLaws.{fresh_first}
use Rattle.demands.proofs.WhereLaws.{fresh_where}
use Rattle.demands.specs.SameListings.{term_of, AlikeExactly, OfBytes}
use Rattle.demands.proofs.SameListingsLaws.{cells_alike, fresh_term, fresh16, fresh_after, accepted_numbers}
use Rattle.ceiling.proofs.CeilingHolds.{fresh_ceiling}
use Rattle.claims.proofs.AskedLaws.{fresh_asked}
use Rattle.claims.proofs.RunLaws.{fresh_leads}
use Rattle.language.specs.Grammar.{Text, Contents}
use Rattle.language.specs.Read.{read_text}
use Rattle.language.specs.Layout.{places_in, fits, Laid, lay, bare_laid, layout}
use Rattle.language.proofs.Sites.{laid}
use Rattle.language.proofs.Answers.{Answers, read, says_too_many, outside, answers}
use Rattle.typed.proofs.Numbered.{Numbered, numbered, bare_ready}
use Rattle.typed.proofs.Kept.{Untouched, layout_untouched, layout16}
use Rattle.typed.specs.TermTyped.{term_typed}
use Rattle.typed.proofs.LayoutTerm.{layout_term}
use Rattle.typed.specs.Loaded.{IsLoaded, from_file, from_text, CountsAsLoaded, ReadAs}

-- a cell without touches has none in sum
no_touches : (c : State) → Untouched c → touch_sum c ≡ 0
unfolding touch_sum
no_touches c h = let m = sum_most (touches_at c) 64 0 (λ q _. none q (told (c.land.used q))) in omega (arith, m)
  where
    none : (q : ℕ) → Told (c.land.used q) → touches_at c q ≤ 0
    none q (yea u) = rw (u, h q) (omega arith)
    none q (nay u) = rw u (omega arith)

-- ---- a fresh cell whose numbers have 16 bits

-- it counts as loaded, by the log of its places and the sum of its touches
pub fresh_loaded : (c : State) (f : Fresh c) → Numbers16 (tree_of c) → (log : List ℕ) → Logged c.land log → (n : ℕ) → touch_sum c ≡ n
    → CountsAsLoaded log n c
fresh_loaded c f s log m n e = record {
  fresh = f;
  stays_sound = λ calls. sound_true (cell_of (reached c calls)) (reached_inv c f calls).sound;
  sound = sound_true c (fresh_inv c f).sound;
  settled = fresh_settled c f;
  one_tree = leads_all c (fresh_inv c f).sound;
  table = fresh_forth c f;
  numbers = λ calls. fresh16 c f calls s;
  two = fresh_two c f;
  three = fresh_three c f;
  agrees = fresh_agrees c f;
  term = fresh_term c f;
  any_wish = fresh_any_wish c f;
  idles = fresh_idle c f;
  total = λ calls. fresh_total c f calls ∙ ap (λ (k : ℕ). k + added calls (answered c calls)) e;
  first_come = fresh_first c f log m;
  whereabouts = fresh_where c f;
  ceiling = fresh_ceiling c f;
  trail = fresh_leads c f;
  asked = fresh_asked c f;
  printed = fresh_printed c f;
}

-- the cell of an accepted file: its places came in the order of their records, and its touches are those of its records
pub file_loaded : (s : List ℕ) → OfBytes s → (c : State) → load s ≡ accepted c → CountsAsLoaded (recorded_places s) (touches_in s) c
file_loaded s b c e = fresh_loaded c (accepted_fresh s c e) (accepted_numbers s b c e) (recorded_places s) (accepted_logged s c e) (touches_in s)
    (loaded_touches s c e)

-- ---- the cell of a tree

module _ (c : Contents) (f : fits c ≡ true) where
  -- the tree, laid
  abbrev last : Laid
  last = lay 0 c bare_laid

  -- is numbered
  final : Numbered last
  final = numbered c bare_laid 0 (bare_ready c f)

  -- its cell is fresh
  pub layout_fresh : Fresh (layout c)
  unfolding layout
  layout_fresh = final.fresh

  -- so it is sound
  pub layout_sound : Sound (layout c)
  layout_sound = (fresh_inv (layout c) layout_fresh).sound

  -- as many places as are typed
  places_typed : last.places ≡ places_in c
  unfolding bare_laid
  places_typed = omega (arith, (laid c bare_laid 0 (bare_ready c f).unbegun (bare_ready c f).fits).places)

  -- its names, keys and numbers have 16 bits
  pub layout_numbers : Numbers16 (tree_of (layout c))
  layout_numbers = tree16 (layout c) (layout16 c)

  -- it counts as loaded
  pub layout_loaded : CountsAsLoaded (counting (places_in c) 1) 0 (layout c)
  layout_loaded = fresh_loaded (layout c) layout_fresh layout_numbers (counting (places_in c) 1)
      (unfold layout in subst (λ (n : ℕ). Logged last.cell.land (counting n 1)) places_typed final.row.logged)
      0 (no_touches (layout c) (layout_untouched c))

  -- "listing the result gives the equivalent text of W7"
  pub layout_listed : listing (layout c) ≡ listed (term_typed c)
  layout_listed =
      let w = tree_formed (layout c) layout_sound in
      tree_listing_lem (layout c) ∙ tree_listed (tree_of (layout c)) w (fine_rows (tree_of (layout c)) w layout_numbers) ∙ one_listing (layout_term c f)

-- ---- every text

-- a text that is read
pub read_as : (s : Text) (d : State) → read_text s ≡ accepted d → ReadAs s d
read_as s d e = go (answers s) e
  where
    go : {r : Load} → Answers s r → r ≡ accepted d → ReadAs s d
    go (read c q t) e = subst (ReadAs s) same (record {
      tree = c;
      same = q;
      fit = t;
      cell = refl;
      loaded = layout_loaded c t;
      said = layout_term c t;
      relisted = layout_listed c t;
    })
      where
        same : layout c ≡ d
        same = cc
    go (says_too_many c q t) e = let z : ◌≡◌ {A = ℕ} 0 1 = cc in absurd (omega arith)
    go (outside i b v) e = let z : ◌≡◌ {A = ℕ} 0 1 = cc in absurd (omega arith)

-- what `walk` prints of a text that is read, whatever the order: the loaded tree, a line for each call with what it answered, and the plain tree
-- after the calls
pub read_printed : (text order : List ℕ) (c : State) → read_text text ≡ accepted c
    → report_of (read_text text) (calls_in 16384 order) ≡ printed_of c (pair_calls (calls_in 16384 order))
read_printed text order c e = ap (λ (l : Load). report_of l (calls_in 16384 order)) e ∙ (read_as text c e).loaded.printed (calls_in 16384 order)

-- ---- from a file or from a text

-- a loaded cell is as a load leaves it
pub loaded_fresh : (c : State) → IsLoaded c → Fresh c
loaded_fresh c (from_file s b e) = accepted_fresh s c e
loaded_fresh c (from_text s e) = (read_as s c e).loaded.fresh

-- and its numbers have 16 bits
pub loaded_numbers : (c : State) → IsLoaded c → Numbers16 (tree_of c)
loaded_numbers c (from_file s b e) = accepted_numbers s b c e
loaded_numbers c (from_text s e) = let r = read_as s c e in subst (λ (d : State). Numbers16 (tree_of d)) r.cell (layout_numbers r.tree r.fit)

-- ---- alike

-- the cells that any two loads and any two lists of calls reach are listed alike exactly if their terms are equivalent, whether a file or a text
-- was loaded
pub loaded_alike : (c d : State) → IsLoaded c → IsLoaded d → (calls others : List Call)
    → AlikeExactly (cell_of (reached c calls)) (cell_of (reached d others))
loaded_alike c d l m = fresh_after c d (loaded_fresh c l) (loaded_numbers c l) (loaded_fresh d m) (loaded_numbers d m)

-- two trees that fit are listed alike exactly if what they say is equivalent
pub same_read : (c e : Contents) → fits c ≡ true → fits e ≡ true → (listing (layout c) ≡ listing (layout e)) ↔ (term_typed c ≅ term_typed e)
same_read c e f g =
    (λ q. struct_symm (layout_term c f) ⨾ w.0 q ⨾ layout_term e g, λ q. w.1 (layout_term c f ⨾ q ⨾ struct_symm (layout_term e g)))
  where
    w : AlikeExactly (layout c) (layout e)
    w = cells_alike (layout c) (layout e) (layout_sound c f) (layout_numbers c f) (layout_sound e g) (layout_numbers e g)

-- a tree that fits is listed as a sound table is exactly if it says what the table holds
pub read_same : (c : Contents) → fits c ≡ true → (t : Cell) → Sized t → Names16 t → sound (cell_of t) ≡ true
    → (listing (layout c) ≡ listing (cell_of t)) ↔ (term_typed c ≅ term_of (cell_of t))
read_same c f t z n s = (λ e. struct_symm (layout_term c f) ⨾ w.0 e, λ e. w.1 (layout_term c f ⨾ e))
  where
    w : AlikeExactly (layout c) (cell_of t)
    w = cells_alike (layout c) (cell_of t) (layout_sound c f) (layout_numbers c f) (sound_bounded (cell_of t) (bounded t z) s)
        (tree16 (cell_of t) (table16 t n))
