-- Listings are equal exactly if the terms are equivalent: of every two sound tables (`same_listings`), of the cells that any two cells as a load
-- leaves them and any two lists of calls reach (`fresh_after`), and so for any two accepted files (`same_after`).
-- Idea: the listing of a cell is that of its tree, which is that of its term. A table's names have 16 bits by its type; a file's are two bytes
-- each, and moves give no name.
use Rattle.std.specs.Prelude.{◌≡◌, true, List, ℕ}
use Rattle.std.proofs.Common.{sym, ap, ◌∙◌, subst}
use Rattle.table.specs.Bounds.{Sized, Names16}
use Rattle.table.specs.Cell.{State, cell_of}
use Rattle.table.proofs.CellLaws.{bounded}
use Rattle.table.specs.Sound.{sound}
use Rattle.table.specs.declared.Cell.{Cell}
use Rattle.meaning.specs.File.{load, accepted}
use Rattle.meaning.specs.Run.{Call}
use Rattle.meaning.specs.Plain.{tree_of, plain_of}
use Rattle.calculus.specs.TermOf.{term}
use Rattle.calculus.proofs.TreeNumbers.{moves16}
use Rattle.calculus.specs.Numbers.{Numbers16}
use Rattle.calculus.proofs.SameListing.{same_listing}
use Rattle.demands.specs.Invariant.{Sound}
use Rattle.demands.proofs.SoundTest.{sound_bounded}
use Rattle.demands.proofs.Layouts.{tree_listing_lem}
use Rattle.demands.specs.Fresh.{Fresh}
use Rattle.demands.proofs.LoadingFile.{accepted_fresh}
use Rattle.demands.proofs.LoadingNumbers.{table16, tree16, accepted16}
use Rattle.demands.specs.AfterCalls.{reached}
use Rattle.demands.proofs.DemandThree.{reached_inv, reached_tree, fresh_three}
use Rattle.demands.specs.Agrees.{term_after}
use Rattle.demands.proofs.AgreesLaws.{tree_formed, history_moves}
use Rattle.demands.specs.SameListings.{term_of, AlikeExactly, OfBytes}

-- of two sound cells whose numbers have 16 bits
pub cells_alike : (c d : State) → Sound c → Numbers16 (tree_of c) → Sound d → Numbers16 (tree_of d) → AlikeExactly c d
cells_alike c d i n j m =
    let z = same_listing (tree_of c) (tree_of d) (tree_formed c i) n (tree_formed d j) m in
    (λ e. z.0 (sym (tree_listing_lem c) ∙ e ∙ tree_listing_lem d), λ e. tree_listing_lem c ∙ z.1 e ∙ sym (tree_listing_lem d))

-- ---- tables

-- of two sound tables: the listings are equal exactly if the terms are equivalent. Sizes and 16 bits are what every value of the struct has
pub same_listings : (t u : Cell) → Sized t → Names16 t → Sized u → Names16 u → sound (cell_of t) ≡ true → sound (cell_of u) ≡ true
    → AlikeExactly (cell_of t) (cell_of u)
same_listings t u z n y m e f = cells_alike (cell_of t) (cell_of u)
    (sound_bounded (cell_of t) (bounded t z) e) (tree16 (cell_of t) (table16 t n))
    (sound_bounded (cell_of u) (bounded u y) f) (tree16 (cell_of u) (table16 u m))

-- ---- loaded cells and calls

module _ (c : State) (f : Fresh c) (calls : List Call) where
  -- the term of the cell that is reached is the one to which the loaded term reduces (`reduces` of Agrees)
  pub fresh_term : term_after c calls ≡ term_of (cell_of (reached c calls))
  fresh_term = ap term (reached_tree c f calls)

  -- where the loaded tree has numbers of 16 bits, the moves to the plain tree keep it so
  pub fresh16 : Numbers16 (tree_of c) → Numbers16 (tree_of (cell_of (reached c calls)))
  fresh16 n = subst Numbers16 (reached_tree c f calls) (moves16 (history_moves (fresh_three c f calls).history) (unfold plain_of in n))

-- of the cells that any two such cells and any two lists of calls reach
pub fresh_after : (c d : State) → Fresh c → Numbers16 (tree_of c) → Fresh d → Numbers16 (tree_of d) → (calls others : List Call)
    → AlikeExactly (cell_of (reached c calls)) (cell_of (reached d others))
fresh_after c d f n g m calls others = cells_alike (cell_of (reached c calls)) (cell_of (reached d others))
    (reached_inv c f calls).sound (fresh16 c f calls n) (reached_inv d g others).sound (fresh16 d g others m)

-- ---- files and calls

-- the tree of an accepted file has numbers of two bytes
pub accepted_numbers : (s : List ℕ) → OfBytes s → (c : State) → load s ≡ accepted c → Numbers16 (tree_of c)
accepted_numbers s b c e = tree16 c (accepted16 s b c e)

-- the term of the cell that is reached is the one to which the loaded term reduces
pub reached_term : (s : List ℕ) (c : State) → load s ≡ accepted c → (calls : List Call) → term_after c calls ≡ term_of (cell_of (reached c calls))
reached_term s c e = fresh_term c (accepted_fresh s c e)

-- of the cells that any two accepted files and any two lists of calls reach
pub same_after : (s r : List ℕ) → OfBytes s → OfBytes r → (c d : State) → load s ≡ accepted c → load r ≡ accepted d → (calls others : List Call)
    → AlikeExactly (cell_of (reached c calls)) (cell_of (reached d others))
same_after s r a b c d e f = fresh_after c d (accepted_fresh s c e) (accepted_numbers s a c e) (accepted_fresh r d f) (accepted_numbers r b d f)
