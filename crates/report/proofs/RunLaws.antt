-- One turn of walk's loop: the text so far, with what is left of the report, is the whole report.
-- A pair of the order is one call more; where no pair is left, or the limit is reached, the last line is left.
use Rattle.std.specs.Prelude.{◌≡◌, ◌⊎◌, List, [], ◌∷◌, ◌++◌, ℕ, zero, suc, ◌+◌, ◌*◌, ◌-◌, ◌/◌, ◌≤◌, ◌<◌, ltb, length, get_or, drop}
use Rattle.std.proofs.Math.Path.{refl}
use Rattle.std.proofs.Common.{sym, ap, ap₂, ◌∙◌, inl, inr, append_assoc, not-suc-le-zero, le_of_suc-le-suc, arith, length-drop, ltb-true, ltb-false}
use Rattle.table.proofs.BaseLaws.{Told, yea, nay, told}
use Rattle.table.specs.Base.{tab}
use Rattle.table.specs.Cell.{cell_of}
use Rattle.table.specs.declared.Cell.{Cell}
use Rattle.meaning.specs.declared.Stepped.{Stepped}
use Rattle.meaning.specs.Text.{ascii}
use Rattle.meaning.specs.Run.{step_of}
use Rattle.meaning.specs.Report.{Pair, step_line, listing_line, calls_in, report_run}
use Rattle.text.specs.Wrote.{Wrote, least}
use Rattle.text.proofs.TextLaws.{wrote_as}

-- the next two bytes, and what follows them
two_more : (k : ℕ) (s : List ℕ) → suc k < length s → drop k s ≡ get_or s k 0 ∷ get_or s (suc k) 0 ∷ drop (suc (suc k)) s
two_more k [] l = absurd (not-suc-le-zero l)
two_more zero (x ∷ []) l = absurd (not-suc-le-zero (le_of_suc-le-suc l))
two_more zero (x ∷ y ∷ s) l = refl
two_more (suc k) (x ∷ s) l = two_more k s (le_of_suc-le-suc l)

one_at_most : (s : List ℕ) (limit : ℕ) → length s ≤ 1 → calls_in limit s ≡ []
unfolding calls_in
one_at_most s zero l = refl
one_at_most [] (suc limit) l = refl
one_at_most (x ∷ []) (suc limit) l = refl
one_at_most (x ∷ y ∷ s) (suc limit) l = absurd (not-suc-le-zero (le_of_suc-le-suc l))

-- the calls from pair i on
abbrev pub calls_from : List ℕ → ℕ → List Pair
calls_from order i = calls_in (16384 - i) (drop (2 * i) order)

-- while a pair is left, it is the next call
pub calls_more : (order : List ℕ) (i : ℕ) → i < 16384 → 2 * i + 1 < length order
    → calls_from order i ≡ record { agent = get_or order (2 * i) 0; wish = get_or order (2 * i + 1) 0 } ∷ calls_from order (i + 1)
unfolding calls_in
calls_more order i l m =
    let next : 16384 - i ≡ suc (16384 - (i + 1)) = omega arith in
    let place : 2 * (i + 1) ≡ suc (suc (2 * i)) = omega arith in
    let one : suc (2 * i) ≡ 2 * i + 1 = omega arith in
    ap₂ calls_in next (two_more (2 * i) order (omega arith))
    ∙ ap₂ (λ (j k : ℕ). record { agent = get_or order (2 * i) 0; wish = get_or order j 0 } ∷ calls_in (16384 - (i + 1)) (drop k order)) one (sym place)

-- then there is none
pub calls_none : (order : List ℕ) (i : ℕ) → (16384 ≤ i) ⊎ (length order ≤ 2 * i + 1) → calls_from order i ≡ []
calls_none order i (inl l) = let none : 16384 - i ≡ 0 = omega arith in ap (λ (n : ℕ). calls_in n (drop (2 * i) order)) none ∙ unfold calls_in in refl
calls_none order i (inr l) = one_at_most (drop (2 * i) order) (16384 - i) (omega (arith, length-drop (2 * i) order))

-- the pairs that count: while one is left, both of its bytes are there; when none is, the limit is reached or a byte at most is left
pub pairs_more : (n len i : ℕ) → n ≡ least (len / 2) 16384 → i < n → (i < 16384) × (2 * i + 1 < len)
unfolding least
pairs_more n len i e l = go (told (ltb (len / 2) 16384))
  where
    go : Told (ltb (len / 2) 16384) → (i < 16384) × (2 * i + 1 < len)
    go (yea h) = let q : n ≡ len / 2 = e ∙ rw h in (omega (arith, ltb-true (len / 2) 16384 h), omega arith)
    go (nay h) = let q : n ≡ 16384 = e ∙ rw h in (omega arith, omega (arith, ltb-false (len / 2) 16384 h))

pub pairs_none : (n len i : ℕ) → n ≡ least (len / 2) 16384 → n ≤ i → (16384 ≤ i) ⊎ (len ≤ 2 * i + 1)
unfolding least
pairs_none n len i e l = go (told (ltb (len / 2) 16384))
  where
    go : Told (ltb (len / 2) 16384) → (16384 ≤ i) ⊎ (len ≤ 2 * i + 1)
    go (yea h) = let q : n ≡ len / 2 = e ∙ rw h in inr (omega arith)
    go (nay h) = let q : n ≡ 16384 = e ∙ rw h in inl (omega arith)

-- what is written so far, and what is left of the whole text, with the table d and from pair i on
pub record Left (whole order before after : List ℕ) (d : Cell) (i at : ℕ) : Type 0 where
  pub text : List ℕ
  pub wrote : Wrote text 0 before after at
  pub rest : text ++ report_run d (calls_from order i) ≡ whole

-- one call more: z is what the step answered
pub left_more : {whole order before after : List ℕ} {d : Cell} {i at : ℕ} → (l : Left whole order before after d i at) → i < 16384 → 2 * i + 1 < length order
    → (z : Stepped) → z ≡ step_of d (get_or order (2 * i) 0) (get_or order (2 * i + 1) 0)
    → {last : List ℕ} {to : ℕ} → Wrote (l.text ++ step_line (get_or order (2 * i) 0) z.answer) 0 before last to → Left whole order before last z.cell (i + 1) to
unfolding report_run
left_more {whole} {order} {before} {after} {d} {i} {at} l low room z e {last} {to} w = record {
  text = l.text ++ step_line (get_or order (2 * i) 0) z.answer;
  wrote = w;
  rest = append_assoc l.text _ _
      ∙ ap (λ (y : Stepped). l.text ++ (step_line (get_or order (2 * i) 0) y.answer ++ report_run y.cell (calls_from order (i + 1)))) e
      ∙ ap (λ (calls : List Pair). l.text ++ report_run d calls) (sym (calls_more order i low room)) ∙ l.rest;
}

-- no call more: the last line is what is left
pub left_none : {whole order before after : List ℕ} {d : Cell} {i at : ℕ} → (l : Left whole order before after d i at) → (16384 ≤ i) ⊎ (length order ≤ 2 * i + 1)
    → {last : List ℕ} {to : ℕ} → Wrote (l.text ++ listing_line (ascii "end") (cell_of d)) 0 before last to → Wrote whole 0 before last to
unfolding report_run tab
left_none {whole} {order} {before} {after} {d} {i} {at} l done w =
    wrote_as (sym (ap (λ (calls : List Pair). l.text ++ report_run d calls) (calls_none order i done)) ∙ l.rest) w
