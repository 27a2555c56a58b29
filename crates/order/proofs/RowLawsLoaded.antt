-- "Loaded places count in file order": the numbers that came are noted one after the other, and the row is made once, in the end.
-- Assumes nothing. Idea: while no number comes twice, the row has 64 numbers, so there is room for one more and for all of them in the end.
use Rattle.std.specs.Prelude.{◌≡◌, Bool, eqb, ltb, length, set}
use Rattle.std.proofs.Math.Path.{refl, sym, ap, ap₂}
use Rattle.std.proofs.Common.{◌∙◌, arith, length-append, take-suc-set, length-take-le, eqb-true, ltb-true}
use Rattle.std.proofs.Math.Bool.{true, false, not, ◌||◌}
use mathlib.Core.List.{List, [], ◌∷◌, ◌++◌}
use Prim.Native.Nat.{ℕ, suc, ◌+◌, ◌≤◌, ◌<◌, zero-le}
use Rattle.std.proofs.Math.ListN.{take, length-set}
use Rattle.std.proofs.Math.Seq.{take-append-add}
use Rattle.sets.proofs.ToldLaws.{Told, yea, nay, told, clash, and_left, and_right}
use Rattle.order.specs.Row.{keep, latest, occurs, counting, counting_row, loaded_row, filled_row, all_small}
use Rattle.order.proofs.RowLaws.{occurs_append, length_later, fits_small, counting_fits}
use Rattle.order.proofs.RowLawsLater.{keep_ext, loaded_more, loaded_none}

-- all numbers are 64
pub counting_long : length counting_row ≡ 64
unfolding counting_row counting
counting_long = refl

-- ---- the numbers that came

-- no number of a row of small ones is large
pub small_occurs : (q : ℕ) (row : List ℕ) → all_small row ≡ true → occurs q row ≡ true → q < 64
unfolding all_small occurs
small_occurs q [] s o = clash o refl
small_occurs q (r ∷ row) s o = go (told (eqb q r)) (small_occurs q row (and_right (ltb r 64) (all_small row) s))
  where
    go : Told (eqb q r) → (occurs q row ≡ true → q < 64) → q < 64
    go (yea e) h = let x = eqb-true q r e in let y = ltb-true r 64 (and_left (ltb r 64) (all_small row) s) in omega arith
    go (nay e) h = h (rw e at o)

-- the first k of came are those that pass f, each once, and row is the row after they came one after the other
pub record Came (f : ℕ → Bool) (row came : List ℕ) (k : ℕ) : Type 0 where
  pub full : length came ≡ 64
  pub few : k ≤ 64
  pub are : (q : ℕ) → occurs q (take k came) ≡ f q
  pub is : row ≡ loaded_row (take k came)
  pub long : length row ≡ 64

length_loaded : (ns : List ℕ) → length (loaded_row ns) ≡ length (keep (λ q. not (occurs q ns)) counting_row) + length ns
unfolding loaded_row
length_loaded ns = length-append (keep (λ q. not (occurs q ns)) counting_row) ns

-- nobody came
pub came_start : (f : ℕ → Bool) (came : List ℕ) → length came ≡ 64 → ((q : ℕ) → f q ≡ false) → Came f counting_row came 0
unfolding occurs
came_start f came l e = record { full = l; few = zero-le; are = λ q. sym (e q); is = loaded_none; long = counting_long }

module _ {f : ℕ → Bool} {row came : List ℕ} {k : ℕ} (a : Came f row came k) where
  many : length (take k came) ≡ k
  many = length-take-le k came (let x = a.few in let y = a.full in omega arith)

  module _ (m : ℕ) (l : m < 64) (e : f m ≡ false) where
    -- one more, which did not come before
    one_more : latest m row ≡ loaded_row (take k came ++ (m ∷ []))
    one_more = ap (latest m) a.is ∙ loaded_more (take k came) m l (a.are m ∙ e)

    still_long : length (latest m row) ≡ 64
    still_long = length_later (λ r. eqb r m) row ∙ a.long

    -- there is room for it
    pub came_room : k < 64
    came_room = omega (arith, many, sym still_long ∙ ap length one_more ∙ length_loaded (take k came ++ (m ∷ [])), length-append (take k came) (m ∷ []))

    noted : take (k + 1) (set came k m) ≡ take k came ++ (m ∷ [])
    noted = let n : k + 1 ≡ suc k = omega arith in
        ap (λ (x : ℕ). take x (set came k m)) n ∙ take-suc-set came k m (let x = came_room in let y = a.full in omega arith)

    pub came_more : (g : ℕ → Bool) → ((q : ℕ) → g q ≡ (f q || eqb q m)) → Came g (latest m row) (set came k m) (k + 1)
    unfolding occurs
    came_more g h = record {
      full = length-set came k m ∙ a.full;
      few = let x = came_room in omega arith;
      are = λ q. ap (occurs q) noted ∙ occurs_append q (take k came) (m ∷ []) ∙ ap₂ ◌||◌ (a.are q) (plain (eqb q m)) ∙ sym (h q);
      is = one_more ∙ ap loaded_row (sym noted);
      long = still_long;
    }
      where
        plain : (b : Bool) → (b || false) ≡ b
        plain true = refl
        plain false = refl

  -- in the end the row is that of the others, with those that came behind them
  pub came_end : (g : ℕ → Bool) → ((q : ℕ) → q < 64 → g q ≡ f q) → filled_row g came ≡ row
  unfolding loaded_row
  came_end g h = ap (λ (n : ℕ). take n (others ++ came)) all ∙ take-append-add others came k ∙ sym (a.is ∙ ap (λ (r : List ℕ). r ++ take k came) same)
    where
      others : List ℕ
      others = keep (λ q. not (g q)) counting_row

      same : keep (λ q. not (occurs q (take k came))) counting_row ≡ others
      same = keep_ext _ _ counting_row (λ q o. ap not (a.are q ∙ sym (h q (small_occurs q counting_row (fits_small counting_row counting_fits) o))))

      all : 64 ≡ length others + k
      all = omega (arith, many, sym a.long ∙ ap length a.is ∙ length_loaded (take k came), ap length same)
