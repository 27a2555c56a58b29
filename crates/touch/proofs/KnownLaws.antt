-- Told the truth of the cell, what is known of a touch call is the touch call. Assumes nothing.
-- Idea: a refused call stores the touches that are there.
use Rattle.std.specs.Prelude.{◌≡◌, Bool, cond, ℕ, ◌+◌, ◌%◌, ◌≤◌, ◌<◌, get_or, set, Ok, Err}
use Rattle.std.proofs.Common.{refl, sym, ◌∙◌, subst, leb-false}
use Rattle.std.proofs.Math.Path.{ap}
use Rattle.std.proofs.Math.Bool.{true, false}
use mathlib.Core.List.{List}
use native.Mathlib.Omega.{arith}
use Rattle.std.proofs.Math.Dec.{leb}
use Rattle.std.proofs.lemmas.List.{set-get_or}
use Rattle.std.proofs.lemmas.Bool.{lt-leb}
use Rattle.sets.specs.Set.{member}
use Rattle.sets.specs.declared.Set.{Set}
use Rattle.table.proofs.BaseLaws.{Told, yea, nay, told, set_list}
use Rattle.table.proofs.SumLaws.{sum_at}
use Rattle.table.specs.Bounds.{Sized}
use Rattle.table.specs.Cell.{cell_of, table_of, put_touches}
use Rattle.table.proofs.CellLaws.{back}
use Rattle.table.specs.Sound.{sound, touch_sum, most_touches}
use Rattle.table.specs.declared.Cell.{Cell}
use Rattle.soundness.specs.Left.{total_of}
use Rattle.meaning.specs.Answers.{Touching, Count, Untouched}
use Rattle.meaning.specs.Refusals.{place_too_large, not_yet_given, unsound_table, too_many_touches}
use Rattle.meaning.specs.Touch.{counted, untouched, touch_of, touches_of}
use Rattle.std.specs.Result.{result_unwrap_or}
use Rattle.touch.specs.declared.TouchDecision.{TouchDecision}
use Rattle.touch.specs.Known.{refusing, counting, count_at, known_touch, tallied, known_touches}

-- the touches of a place in use are part of the sum
pub count_most : (ts : List ℕ) (used : Set) (q : ℕ) → q < 64 → member used q ≡ true → get_or ts q 0 ≤ total_of ts used
count_most ts used q l u = subst (λ (b : Bool). cond b (get_or ts q 0) 0 ≤ total_of ts used) u (sum_at (λ j. cond (member used j) (get_or ts j 0) 0) 64 q l)

-- where the first three tests are passed the last decides
pub known_last : (used : Set) (ts : List ℕ) (q n : ℕ) (known b : Bool) → known ≡ true → q < 64 → member used q ≡ true → leb (total_of ts used + n) most_touches ≡ b
    → cond b (counting (count_at ts q + n)) (refusing (count_at ts q) too_many_touches) ≡ known_touch known used ts q n
unfolding known_touch
known_last used ts q n known b k l u e = sym (rw (k, lt-leb 64 q l, u, e))

-- where the touches of a place are told the first three tests are passed, and where they are refused a touch call is, by the same number
module _ (used : Set) (ts : List ℕ) (q : ℕ) (known : Bool) where
  pub tests_passed : (m : ℕ) → known_touches known used ts q ≡ Ok m → (known ≡ true) × ((q < 64) × ((member used q ≡ true) × (get_or ts q 0 ≡ m)))
  unfolding known_touches
  tests_passed m e = go (told known) (told (leb 64 q)) (told (member used q))
    where
      go : Told known → Told (leb 64 q) → Told (member used q) → (known ≡ true) × ((q < 64) × ((member used q ≡ true) × (get_or ts q 0 ≡ m)))
      go (nay k) _ _ = let f = rw k at e in let z : ◌≡◌ {A = ℕ} 0 1 = cc in absurd (omega arith)
      go (yea k) (yea l) _ = let f = rw (k, l) at e in let z : ◌≡◌ {A = ℕ} 0 1 = cc in absurd (omega arith)
      go (yea k) (nay l) (nay u) = let f = rw (k, l, u) at e in let z : ◌≡◌ {A = ℕ} 0 1 = cc in absurd (omega arith)
      go (yea k) (nay l) (yea u) = let f = rw (k, l, u) at e in let z : get_or ts q 0 ≡ m = cc in (k, (leb-false 64 q l, (u, z)))

  pub same_refusal : (n number : ℕ) → known_touches known used ts q ≡ Err number → Err number ≡ (known_touch known used ts q n).answer
  unfolding known_touches known_touch
  same_refusal n number e = go (told known) (told (leb 64 q)) (told (member used q))
    where
      go : Told known → Told (leb 64 q) → Told (member used q) → Err number ≡ (known_touch known used ts q n).answer
      go (nay k) _ _ = let f = rw k at e in rw k (sym f)
      go (yea k) (yea l) _ = let f = rw (k, l) at e in rw (k, l) (sym f)
      go (yea k) (nay l) (nay u) = let f = rw (k, l, u) at e in rw (k, l, u) (sym f)
      go (yea k) (nay l) (yea u) = let f = rw (k, l, u) at e in let z : ◌≡◌ {A = ℕ} 0 1 = cc in absurd (omega arith)

  -- where they are told, what is left for touches decides
  pub answer_last : (m n : ℕ) (b : Bool) → known_touches known used ts q ≡ Ok m → leb (total_of ts used + n) most_touches ≡ b
      → cond b (Ok (m + n)) (Err too_many_touches) ≡ (known_touch known used ts q n).answer
  answer_last m n b e = go b
    where
      p : (known ≡ true) × ((q < 64) × ((member used q ≡ true) × (get_or ts q 0 ≡ m)))
      p = tests_passed m e

      last : (d : Bool) → leb (total_of ts used + n) most_touches ≡ d
          → (cond d (counting (count_at ts q + n)) (refusing (count_at ts q) too_many_touches)).answer ≡ (known_touch known used ts q n).answer
      last d h = ap (λ (a : TouchDecision). a.answer) (known_last used ts q n known d p.0 p.1.0 p.1.1.0 h)

      count : m ≡ count_at ts q
      count = let i : q ≡ q % 64 = omega (arith, p.1.0) in sym p.1.1.1 ∙ ap (λ (i : ℕ). get_or ts i 0) i

      go : (b : Bool) → leb (total_of ts used + n) most_touches ≡ b → cond b (Ok (m + n)) (Err too_many_touches) ≡ (known_touch known used ts q n).answer
      go true h = ap (λ (k : ℕ). Ok (k + n)) count ∙ last true h
      go false h = last false h

  -- a refused call keeps the count, and any other answers it
  pub count_told : (n : ℕ) (a : Touching) → a ≡ (known_touch known used ts q n).answer
      → record { count = result_unwrap_or a (count_at ts q); answer = a } ≡ known_touch known used ts q n
  unfolding known_touch
  count_told n a e =
      ap (λ (a : Touching). record { count = result_unwrap_or a (count_at ts q); answer = a }) e
      ∙ go (told known) (told (leb 64 q)) (told (member used q)) (told (leb (total_of ts used + n) most_touches))
    where
      go : Told known → Told (leb 64 q) → Told (member used q) → Told (leb (total_of ts used + n) most_touches)
          → record { count = result_unwrap_or (known_touch known used ts q n).answer (count_at ts q); answer = (known_touch known used ts q n).answer } ≡ known_touch known used ts q n
      go (nay k) _ _ _ = rw k refl
      go (yea k) (yea l) _ _ = rw (k, l) refl
      go (yea k) (nay l) (nay u) _ = rw (k, l, u) refl
      go (yea k) (nay l) (yea u) (nay m) = rw (k, l, u, m) refl
      go (yea k) (nay l) (yea u) (yea m) = rw (k, l, u, m) refl

module _ (t : Cell) (z : Sized t) (q : ℕ) where
  -- a refused call leaves the table
  refused : (number : ℕ) → tallied t q (refusing (count_at t.touches q) number) ≡ untouched t number
  unfolding untouched
  refused number = ap (λ (ns : List ℕ). record { cell = put_touches t ns; answer = Untouched number }) (set-get_or t.touches (q % 64) 0)

  -- any other changes one count
  added : (n : ℕ) → q < 64 → tallied t q (counting (count_at t.touches q + n)) ≡ counted (cell_of t) q n
  unfolding counted cell_of table_of
  added n l =
      let e : q % 64 ≡ q = omega arith in
      ap (λ (i : ℕ). record { cell = put_touches t (set t.touches i (get_or t.touches i 0 + n)); answer = Count (get_or t.touches i 0 + n) }) e
      ∙ (λ i. record { cell = put_touches (sym (back t z) i) (set_list 0 t.touches 64 q (get_or t.touches q 0 + n) z.touches l i); answer = Count (get_or t.touches q 0 + n) })

  -- so told the truth a touch call is decided as it is defined
  pub touch_told : (n : ℕ) (b : Bool) → b ≡ sound (cell_of t) → tallied t q (known_touch b t.used t.touches q n) ≡ touch_of t q n
  unfolding known_touch touch_of cell_of touch_sum
  touch_told n b h = ap (λ (k : Bool). tallied t q (known_touch k t.used t.touches q n)) h ∙ go (told (sound (cell_of t))) (told (leb 64 q)) (told (member t.used q))
    where
      last : sound (cell_of t) ≡ true → leb 64 q ≡ false → member t.used q ≡ true → Told (leb (total_of t.touches t.used + n) most_touches)
          → tallied t q (known_touch (sound (cell_of t)) t.used t.touches q n) ≡ touch_of t q n
      last s l u (yea e) = rw (s, l, u, e) (added n (leb-false 64 q l))
      last s l u (nay e) = rw (s, l, u, e) (refused too_many_touches)

      go : Told (sound (cell_of t)) → Told (leb 64 q) → Told (member t.used q) → tallied t q (known_touch (sound (cell_of t)) t.used t.touches q n) ≡ touch_of t q n
      go (nay s) _ _ = rw s (refused unsound_table)
      go (yea s) (yea l) _ = rw (s, l) (refused place_too_large)
      go (yea s) (nay l) (nay u) = rw (s, l, u) (refused not_yet_given)
      go (yea s) (nay l) (yea u) = last s l u (told (leb (total_of t.touches t.used + n) most_touches))

-- and so are the touches of a place
pub touches_told : (t : Cell) (q : ℕ) (b : Bool) → b ≡ sound (cell_of t) → known_touches b t.used t.touches q ≡ touches_of t q
unfolding known_touches touches_of cell_of
touches_told t q b h = ap (λ (k : Bool). known_touches k t.used t.touches q) h
