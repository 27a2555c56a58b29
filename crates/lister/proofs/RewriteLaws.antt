-- The parts of a row written one after the other: what a turn writes, and that there is room for it. Assumes nothing.
use Rattle.std.specs.Prelude.{◌≡◌, refl, List, [], ◌∷◌, ◌++◌, map, ℕ, ◌+◌, ◌≤◌, ◌<◌, length, take, drop}
use Rattle.std.proofs.Common.{sym, ◌∙◌, arith, add-one, length-append, take-append-drop, length-take-le, get_or-take, take-take, take-suc}
use Rattle.std.proofs.Math.Path.{ap, ap₂}
use Rattle.std.proofs.Math.ListN.{get_or}
use Rattle.meaning.specs.Text.{gap, joined, joined_all}
use Rattle.meaning.proofs.SortedLaws.{Text}
use Rattle.meaning.proofs.TextsLaws.{joined_append, joined_last}
use Rattle.meaning.proofs.Every.{every_at}
use Rattle.text.specs.Wrote.{Wrote, Fits}
use Rattle.text.proofs.TextLaws.{wrote_as, begun}
use Rattle.text.proofs.RoomLaws.{fits_less, fits_as}
use Rattle.lister.specs.Sheet.{bar}
use Rattle.lister.specs.Cuts.{cut, start_of, part_at, in_row, Inside, Rewritable}

-- fewer parts lie there too
pub inside_less : {marks b : List ℕ} {n : ℕ} (m : ℕ) → m ≤ n → Inside marks n b → Inside marks m b
inside_less m l v = record { few = omega (arith, v.few); after = λ i k. v.after i (omega arith); within = λ i k. v.within i (omega arith) }

-- ---- texts joined

-- no part makes the text shorter
joined_grows : (by s : Text) (l : List Text) → length s ≤ length (joined_all by s l)
unfolding joined_all
joined_grows by s [] = omega arith
joined_grows by s (x ∷ l) = omega (arith, joined_grows by (joined by s x) l, length-append (s ++ gap by s) x, length-append s (gap by s))

map_append : (f : ℕ → Text) (l m : List ℕ) → map f (l ++ m) ≡ map f l ++ map f m
map_append f [] m = refl
map_append f (x ∷ l) m = ap (λ (r : List Text). f x ∷ r) (map_append f l m)

module _ (text : ℕ → Text) (row : List ℕ) where
  -- one part more
  turn_text : (i : ℕ) → i < length row → joined bar (joined_all bar [] (in_row text i row)) (text (get_or row i 0)) ≡ joined_all bar [] (in_row text (i + 1) row)
  turn_text i l =
      sym (joined_last bar [] (in_row text i row) (text (get_or row i 0)))
      ∙ ap (joined_all bar []) (sym (map_append text (take i row) (get_or row i 0 ∷ [])) ∙ ap (map text) (sym (take-suc row i 0 l) ∙ ap (λ (k : ℕ). take k row) (sym (add-one i))))

  -- the first ones are not longer than all
  turn_grows : (i n : ℕ) → i ≤ n → length (joined_all bar [] (in_row text i row)) ≤ length (joined_all bar [] (in_row text n row))
  turn_grows i n l =
      let e : in_row text n row ≡ in_row text i row ++ map text (drop i (take n row)) =
      ap (map text) (sym (take-append-drop i (take n row))) ∙ map_append text (take i (take n row)) (drop i (take n row))
      ∙ ap (λ (x : List ℕ). map text x ++ map text (drop i (take n row))) (take-take i n row l) in
      let q = ap (λ (x : List Text). length (joined_all bar [] x)) e in
      let p = ap length (joined_append bar [] (in_row text i row) (map text (drop i (take n row)))) in
      omega (arith, joined_grows bar (joined_all bar [] (in_row text i row)) (map text (drop i (take n row))))

-- ---- a turn

module _ {marks spare row buf : List ℕ} {n : ℕ} (w : Rewritable marks spare n row buf) {i : ℕ} (l : i < n) where
  -- the part that it writes is one of those that lie in the copy
  pub turn_low : get_or row i 0 < n
  turn_low =
      let f = w.inside.few in
      let m : length (take n row) ≡ n = length-take-le n row (omega (arith, w.full)) in
      let h = every_at 0 w.low i (omega arith) in
      let e : get_or (take n row) i 0 ≡ get_or row i 0 = get_or-take n row i 0 l in
      omega arith

  module _ {k s e : ℕ} (p : k ≡ get_or row i 0) (a : s ≡ start_of marks k) (z : e ≡ get_or marks k 0) where
    -- where it lies
    pub turn_cut : cut spare s e ≡ part_at marks spare (get_or row i 0)
    unfolding part_at
    turn_cut = ap₂ (cut spare) (a ∙ ap (start_of marks) p) (z ∙ ap (λ (j : ℕ). get_or marks j 0) p)

    pub turn_after : s ≤ e
    turn_after = let h = turn_low in omega (arith, w.inside.after k (omega arith))

    pub turn_within : e ≤ length spare
    turn_within = let h = turn_low in omega (arith, w.inside.within k (omega arith))

    -- there is room for it
    pub turn_fits : Fits (joined bar (joined_all bar [] (in_row (part_at marks spare) i row)) (cut spare s e)) 0 buf
    turn_fits =
        let f = w.inside.few in
        fits_as (sym (ap (joined bar (joined_all bar [] (in_row (part_at marks spare) i row))) turn_cut ∙ turn_text (part_at marks spare) row i (omega (arith, w.full))))
        (fits_less (turn_grows (part_at marks spare) row (i + 1) n (omega arith)) w.fits)

    -- once it is written
    pub turn_done : {xs : List ℕ} {at : ℕ} → Wrote (joined bar (joined_all bar [] (in_row (part_at marks spare) i row)) (cut spare s e)) 0 buf xs at
        → Wrote (joined_all bar [] (in_row (part_at marks spare) (i + 1) row)) 0 buf xs at
    turn_done v =
        let f = w.inside.few in
        wrote_as (ap (joined bar (joined_all bar [] (in_row (part_at marks spare) i row))) turn_cut ∙ turn_text (part_at marks spare) row i (omega (arith, w.full))) v

-- before the first
pub turns_start : {marks spare row buf : List ℕ} {n : ℕ} → Rewritable marks spare n row buf → Wrote (joined_all bar [] (in_row (part_at marks spare) 0 row)) 0 buf buf 0
unfolding joined_all
turns_start w = begun w.fits.placed
