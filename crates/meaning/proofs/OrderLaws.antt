-- Which calls of an order `walk` makes. By the order, two bytes at a time.
use Rattle.std.specs.Prelude.{◌≡◌, length}
use Rattle.std.proofs.Math.Path.{refl, subst}
use mathlib.Core.List.{List, [], ◌∷◌}
use Prim.Native.Nat.{ℕ, zero, suc, ◌+◌, ◌*◌, ◌≤◌, ◌<◌}
use Rattle.std.proofs.Common.{arith}
use Rattle.std.proofs.Math.ListN.{get_or}
use Rattle.meaning.specs.File.{load}
use Rattle.meaning.specs.Report.{Pair, calls_in, report_of, report}

-- "pairs agent, wish; at most 16,384"; "An odd last byte and pairs past the limit are passed over": the calls that walk makes of an order
pub record Reported (cell order : List ℕ) : Type 0 where
  pub calls : List Pair
  -- at most 16,384, whole pairs only, and as many as there are
  pub limit : length calls ≤ 16384
  pub whole : 2 * length calls ≤ length order
  pub all : length calls < 16384 → length order < 2 * length calls + 2
  -- each is a pair, in the order's order
  pub agent : (i : ℕ) → i < length calls → (get_or calls i (record { agent = 0; wish = 0 })).agent ≡ get_or order (2 * i) 0
  pub wish : (i : ℕ) → i < length calls → (get_or calls i (record { agent = 0; wish = 0 })).wish ≡ get_or order (suc (2 * i)) 0
  -- and the report is that of these calls
  pub text : report cell order ≡ report_of (load cell) calls

-- no more calls than the limit, and two bytes for each
calls_limit : (n : ℕ) (s : List ℕ) → length (calls_in n s) ≤ n
unfolding calls_in
calls_limit zero s = omega arith
calls_limit (suc n) [] = omega arith
calls_limit (suc n) (a ∷ []) = omega arith
calls_limit (suc n) (a ∷ w ∷ s) = omega (arith, calls_limit n s)

calls_whole : (n : ℕ) (s : List ℕ) → 2 * length (calls_in n s) ≤ length s
unfolding calls_in
calls_whole zero s = omega arith
calls_whole (suc n) [] = omega arith
calls_whole (suc n) (a ∷ []) = omega arith
calls_whole (suc n) (a ∷ w ∷ s) = omega (arith, calls_whole n s)

calls_all : (n : ℕ) (s : List ℕ) → length (calls_in n s) < n → length s < 2 * length (calls_in n s) + 2
unfolding calls_in
calls_all zero s l = absurd (omega arith)
calls_all (suc n) [] l = omega arith
calls_all (suc n) (a ∷ []) l = omega arith
calls_all (suc n) (a ∷ w ∷ s) l = omega (arith, calls_all n s (omega arith))

-- the number of the byte after next
after_next : (i : ℕ) → suc (suc (2 * i)) ≡ 2 * suc i
after_next i = omega arith

module _ (d : Pair) where
  calls_agent : (n : ℕ) (s : List ℕ) (i : ℕ) → i < length (calls_in n s) → (get_or (calls_in n s) i d).agent ≡ get_or s (2 * i) 0
  unfolding calls_in
  calls_agent zero s i l = absurd (omega arith)
  calls_agent (suc n) [] i l = absurd (omega arith)
  calls_agent (suc n) (a ∷ []) i l = absurd (omega arith)
  calls_agent (suc n) (a ∷ w ∷ s) zero l = refl
  calls_agent (suc n) (a ∷ w ∷ s) (suc i) l =
      subst (λ j. (get_or (calls_in n s) i d).agent ≡ get_or (a ∷ w ∷ s) j 0) (after_next i) (calls_agent n s i (omega arith))

  calls_wish : (n : ℕ) (s : List ℕ) (i : ℕ) → i < length (calls_in n s) → (get_or (calls_in n s) i d).wish ≡ get_or s (suc (2 * i)) 0
  unfolding calls_in
  calls_wish zero s i l = absurd (omega arith)
  calls_wish (suc n) [] i l = absurd (omega arith)
  calls_wish (suc n) (a ∷ []) i l = absurd (omega arith)
  calls_wish (suc n) (a ∷ w ∷ s) zero l = refl
  calls_wish (suc n) (a ∷ w ∷ s) (suc i) l =
      subst (λ j. (get_or (calls_in n s) i d).wish ≡ get_or (a ∷ w ∷ s) (suc j) 0) (after_next i) (calls_wish n s i (omega arith))

-- of every file and every order
pub report_calls : (cell order : List ℕ) → Reported cell order
unfolding report
report_calls cell order = record {
  calls = calls_in 16384 order;
  limit = calls_limit 16384 order;
  whole = calls_whole 16384 order;
  all = calls_all 16384 order;
  agent = calls_agent _ 16384 order;
  wish = calls_wish _ 16384 order;
  text = refl;
}
