-- A walk over the members of a set that writes one text for each and notes where it ends, and the texts put in order. Assumes nothing.
-- Idea: before each turn the texts of the members that were taken are written, joined by bars, and it is noted where each ends.
use Rattle.std.specs.Prelude.{Some, ◌≡◌, refl, Bool, true, List, [], ◌∷◌, ◌++◌, ℕ, ◌+◌, ◌-◌, ◌<◌, ◌≤◌, length, get_or, set, replicate}
use Rattle.std.proofs.Common.{sym, ◌∙◌, subst, not-suc-le-zero, le_of_suc-le-suc, arith, length-append, length-set, get_or-set_same, get_or-set_other}
use Rattle.std.proofs.Math.Path.{ap}
use Rattle.std.proofs.Math.ListN.{length-replicate}
use Rattle.sets.proofs.WalkLaws.{rest_member, rest_from, rest_skip, rest_end, turn_below, turn_more}
use Rattle.sets.specs.Walk.{lowest_in, Rest, TakesLowest}
use Rattle.sets.specs.declared.Set.{Set}
use Rattle.meaning.specs.Text.{gap, joined, overlay}
use Rattle.meaning.specs.Listing.{texts_of}
use Rattle.meaning.proofs.TextsLaws.{texts_skip, texts_length}
use Rattle.text.specs.Wrote.{capped, Wrote, Fits}
use Rattle.text.proofs.TextLaws.{begun, wrote_as, wrote_length}
use Rattle.text.proofs.RoomLaws.{fits_less, fits_exactly}
use Rattle.lister.specs.Sheet.{bar, OnPage}
use Rattle.lister.specs.Marked.{barred, grouped, Filled, Ends, Marked, Arranged}
use Rattle.lister.proofs.MarkedLaws.{grouped_length}
use Rattle.lister.proofs.MemberLaws.{texts_more, barred_grows}

-- a text over one that is no longer
over_over : (s t b : List ℕ) → length t ≤ length s → overlay s (overlay t b) ≡ overlay s b
unfolding overlay
over_over [] [] b l = refl
over_over [] (y ∷ t) b l = absurd (not-suc-le-zero l)
over_over (x ∷ s) [] b l = refl
over_over (x ∷ s) (y ∷ t) [] l = refl
over_over (x ∷ s) (y ∷ t) (z ∷ b) l = ap (λ (r : List ℕ). x ∷ r) (over_over s t b (le_of_suc-le-suc l))

-- marks further on do not matter
ends_kept : {marks : List ℕ} (texts : List (List ℕ)) (n v : ℕ) → length texts ≤ n → Ends marks texts → Ends (set marks n v) texts
ends_kept texts n v l Ends.none = Ends.none
ends_kept {marks} texts n v l (Ends.more {earlier} e r) = Ends.more (get_or-set_other marks n (length earlier) v 0 (λ z. omega arith) ∙ e) (ends_kept earlier n v (omega arith) r)

-- before a turn: the members from `upto` on are left, the texts of those below are written, and it is noted where each ends
pub record Walked (g : ℕ → Bool) (F : ℕ → List ℕ) (from : ℕ) (b : List ℕ) (left : Set) (marks : List ℕ) (many : ℕ) (buf : List ℕ) (at : ℕ) : Type 0 where
  pub upto : ℕ
  pub rest : Rest g upto left
  pub wrote : Wrote (barred (texts_of g F upto)) from b buf at
  pub ends : Ends marks (texts_of g F upto)
  pub count : many ≡ length (texts_of g F upto)
  pub long : length marks ≡ 64

module _ (g : ℕ → Bool) (F : ℕ → List ℕ) {from : ℕ} {b : List ℕ} (f : OnPage (grouped (texts_of g F 64)) from b) (full : Filled (texts_of g F 64)) where
  -- in the order in which they came they are as long
  same : length (grouped (texts_of g F 64)) ≡ length (barred (texts_of g F 64))
  same = grouped_length full

  -- before the first turn
  pub walked_none : {left : Set} → Rest g 0 left → Walked g F from b left (replicate 64 0) 0 b from
  unfolding texts_of barred
  walked_none r = record { upto = 0; rest = r; wrote = begun f.fits.placed; ends = Ends.none; count = refl; long = length-replicate {A = ℕ} 64 0 }

  module _ {left : Set} {marks buf : List ℕ} {many at : ℕ} (w : Walked g F from b left marks many buf at) where
    module _ {x : ℕ} {t : Set} (step : TakesLowest left (Some x) t) where
      k : 0 < left.bits
      k = step.0

      e : x ≡ lowest_in left
      e = step.1.0

      -- the member of the turn
      pub turn_low : x < 64
      turn_low = turn_below w.rest step

      member_is : g x ≡ true
      member_is = ap g e ∙ rest_member w.rest k

      -- the texts so far are those of the members below it
      so_far : texts_of g F w.upto ≡ texts_of g F x
      so_far = texts_skip g F w.upto (lowest_in left) (rest_from w.rest k) (rest_skip w.rest k) ∙ ap (texts_of g F) (sym e)

      with_it : F x ∷ texts_of g F w.upto ≡ texts_of g F (x + 1)
      with_it = ap (λ (ts : List (List ℕ)). F x ∷ ts) so_far ∙ texts_more g F x member_is

      joined_with : joined bar (barred (texts_of g F w.upto)) (F x) ≡ barred (texts_of g F (x + 1))
      joined_with = unfold barred in ap barred with_it

      within : length (joined bar (barred (texts_of g F w.upto)) (F x)) ≤ length (grouped (texts_of g F 64))
      within = omega (arith, turn_low, same, ap length joined_with, barred_grows g F (x + 1) 64 (omega (arith, turn_low)))

      -- its text has room, with a bar where there is text before it
      pub turn_room : Fits (joined bar (barred (texts_of g F w.upto)) (F x)) from b
      turn_room = fits_less within f.fits

      -- and is no longer than the longest listing
      pub turn_page : {mid : ℕ} {ys : List ℕ} → Fits (F x) mid ys → OnPage (F x) mid ys
      turn_page v = record { fits = v; short = omega (arith, within, f.short, length-append (barred (texts_of g F w.upto) ++ gap bar (barred (texts_of g F w.upto))) (F x)) }

      -- there is a mark for it
      pub turn_slot : many < 64
      turn_slot = omega (arith, turn_low, w.count, texts_length g F w.upto, rest_from w.rest k, e)

      module _ {ys : List ℕ} {r : ℕ} (v : Wrote (joined bar (barred (texts_of g F w.upto)) (F x)) from b ys r) where
        -- where it ends
        ends_at : r ≡ from + length (barred (texts_of g F (x + 1)))
        ends_at = fits_exactly turn_room v ∙ ap (λ (t : List ℕ). from + length t) joined_with

        pub turn_after : from ≤ r
        turn_after = omega (arith, ends_at)

        -- a mark of 16 bits is enough
        pub mark_small : r - from < 65536
        mark_small = omega (arith, fits_exactly turn_room v, within, f.short)

        -- after the turn
        pub walked_more : Walked g F from b t (set marks many (r - from)) (many + 1) ys r
        walked_more = record {
          upto = x + 1;
          rest = turn_more w.rest step;
          wrote = wrote_as joined_with v;
          ends = subst (Ends (set marks many (r - from))) with_it
              (Ends.more (ap (λ (i : ℕ). get_or (set marks many (r - from)) i 0) (sym w.count) ∙ get_or-set_same marks many (r - from) 0 (omega (arith, turn_slot, w.long)) ∙ marked)
              (ends_kept (texts_of g F w.upto) many (r - from) (omega (arith, w.count)) w.ends));
          count = (let n = ap length with_it in omega (arith, w.count));
          long = length-set marks many (r - from) ∙ w.long;
        }
          where
            marked : r - from ≡ length (barred (F x ∷ texts_of g F w.upto))
            marked = let n = ap (λ (ts : List (List ℕ)). length (barred ts)) with_it in omega (arith, ends_at)

    -- no member is left
    module _ (z : left.bits ≡ 0) where
      all : texts_of g F w.upto ≡ texts_of g F 64
      all = texts_skip g F w.upto 64 w.rest.end (rest_end w.rest z)

      all_wrote : Wrote (barred (texts_of g F 64)) from b buf at
      all_wrote = wrote_as (ap barred all) w.wrote

      -- the texts are handed on to be put in order
      pub walked_marked : Marked (texts_of g F 64) marks many buf
      walked_marked = record {
        many = w.count ∙ ap length all;
        few = omega (arith, w.count, texts_length g F w.upto, w.rest.end);
        filled = full;
        ends = subst (Ends marks) all w.ends;
        room = omega (arith, f.fits.room, same, wrote_length all_wrote);
        page = omega (arith, f.short, same);
        text = all_wrote.text ∙ sym (over_over (barred (texts_of g F 64)) (barred (texts_of g F 64)) b (omega arith)) ∙ ap (overlay (barred (texts_of g F 64))) (sym all_wrote.text);
      }

      -- and are in order
      pub walked_all : {ys : List ℕ} → Arranged marks many buf ys → Wrote (grouped (texts_of g F 64)) from b ys at
      walked_all a = record {
        count = all_wrote.count ∙ ap (λ (n : ℕ). capped (from + n)) (sym same);
        text = a (texts_of g F 64) walked_marked ∙ ap (overlay (grouped (texts_of g F 64))) all_wrote.text
            ∙ over_over (grouped (texts_of g F 64)) (barred (texts_of g F 64)) b (omega (arith, same));
      }
