-- A turn of the walk over the members of a set that writes one text for each and notes where it ends, where the member and what is left are told
-- apart. Assumes nothing.
use Rattle.std.specs.Prelude.{Some, ◌≡◌, refl, Bool, List, ℕ, ◌+◌, ◌-◌, ◌<◌, ◌≤◌, set}
use Rattle.std.proofs.Common.{sym, ◌∙◌}
use Rattle.std.proofs.Math.Path.{ap}
use Rattle.sets.specs.Set.{removed}
use Rattle.sets.specs.Walk.{lowest_in, TakesLowest}
use Rattle.sets.specs.declared.Set.{Set}
use Rattle.meaning.specs.Text.{joined}
use Rattle.meaning.specs.Listing.{texts_of}
use Rattle.text.specs.Wrote.{Wrote, Fits}
use Rattle.lister.specs.Sheet.{bar, OnPage}
use Rattle.lister.specs.Marked.{barred, grouped, Filled}
use Rattle.lister.proofs.TurnLaws.{Walked}
use Rattle.lister.proofs.TurnLaws as turns

module _ (g : ℕ → Bool) (F : ℕ → List ℕ) {from : ℕ} {b : List ℕ} (f : OnPage (grouped (texts_of g F 64)) from b) (full : Filled (texts_of g F 64)) where
  module _ {left : Set} {marks buf : List ℕ} {many at : ℕ} (w : Walked g F from b left marks many buf at) where
    module _ (k : 0 < left.bits) {x : ℕ} (e : x ≡ lowest_in left) where
      -- the member is taken, and the others are left
      taken : TakesLowest left (Some x) (removed left x)
      taken = (k, (e, refl))

      -- the member of the turn
      pub turn_low : x < 64
      turn_low = turns.turn_low g F f full w taken

      -- its text has room, with a bar where there is text before it
      pub turn_room : Fits (joined bar (barred (texts_of g F w.upto)) (F x)) from b
      turn_room = turns.turn_room g F f full w taken

      -- and is no longer than the longest listing
      pub turn_page : {mid : ℕ} {ys : List ℕ} → Fits (F x) mid ys → OnPage (F x) mid ys
      turn_page v = turns.turn_page g F f full w taken v

      -- there is a mark for it
      pub turn_slot : many < 64
      turn_slot = turns.turn_slot g F f full w taken

      module _ {ys : List ℕ} {r : ℕ} (v : Wrote (joined bar (barred (texts_of g F w.upto)) (F x)) from b ys r) where
        -- where it ends
        pub turn_after : from ≤ r
        turn_after = turns.turn_after g F f full w taken v

        -- a mark of 16 bits is enough
        pub mark_small : r - from < 65536
        mark_small = turns.mark_small g F f full w taken v

        -- after the turn
        pub walked_more : {t : Set} → t ≡ removed left (lowest_in left) → Walked g F from b t (set marks many (r - from)) (many + 1) ys r
        walked_more q = turns.walked_more g F f full w (k, (e, q ∙ ap (removed left) (sym e))) v
