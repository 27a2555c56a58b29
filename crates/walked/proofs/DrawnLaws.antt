-- The arrays that a cell is laid out in say what the cell says. Assumes nothing.
-- Idea: a member of the word of p is a place that stands in p, or an agent that is listed in p; 64 is no place.
use Rattle.std.specs.Prelude.{◌≡◌, refl, Bool, true, false, not, ◌&&◌, ℕ, ◌<◌}
use Rattle.std.proofs.Math.Path.{ap}
use Rattle.std.proofs.Common.{◌∙◌, arith, ne_eqb}
use Rattle.std.proofs.Math.Bool.{cond}
use mathlib.Core.List.{List}
use Rattle.std.proofs.Math.Dec.{eqb}
use Rattle.std.proofs.Math.ListN.{get_or}
use Rattle.sets.specs.Word.{has}
use Rattle.sets.proofs.WordLaws.{has_word}
use Rattle.sets.specs.Set.{member}
use Rattle.sets.specs.declared.Set.{Set}
use Rattle.table.proofs.BaseLaws.{clash, get_d_tab}
use Rattle.table.specs.Cell.{cell_of, no_place, no_agent, has_unused}
use Rattle.table.specs.Bounds.{Names16}
use Rattle.table.specs.declared.Cell.{Cell}
use Rattle.meaning.specs.Listing.{lists_in, stands_under}
use Rattle.lister.specs.Listed.{parents_of, is_listed, homes_of}
use Rattle.lister.specs.Sheet.{Drawn}
use Rattle.walked.specs.Packs.{packed_of, unpacked_of}
use Rattle.walked.specs.Groups.{grouped_of}
use Rattle.walked.specs.ActionRows.{Rows}
use Rattle.walked.specs.Sheets.{names_of, sheet_of}
use Rattle.walked.proofs.PackLaws.{unpacked}
use Rattle.walked.proofs.RowLaws.{rows_text}

-- x is in the word of p
in_word : (s : Set) (keys : List ℕ) (p x : ℕ) → p < 64 → x < 64 → has (get_or (grouped_of s keys) p 0) x ≡ (member s x && eqb (get_or keys x 0) p)
unfolding grouped_of
in_word s keys p x l m = ap (λ (w : ℕ). has w x) (get_d_tab _ 64 p 0 l) ∙ has_word 64 (λ y. member s y && eqb (get_or keys y 0) p) x m

no_place_lem : (p : ℕ) → p < 64 → eqb 64 p ≡ false
no_place_lem p l = ne_eqb 64 p (λ e. omega arith)

-- the floor's key is none
stands_so : (u z : Bool) (parent p : ℕ) → p < 64 → (u && eqb (cond z 64 parent) p) ≡ (u && (not z && eqb parent p))
stands_so true true parent p l = no_place_lem p l
stands_so true false parent p l = refl
stands_so false z parent p l = refl

-- an agent that is not listed has none
lives_so : (g a : Bool) (home p : ℕ) → p < 64 → (g && eqb (cond (g && a) home 64) p) ≡ (g && (a && eqb home p))
lives_so true true home p l = refl
lives_so true false home p l = no_place_lem p l
lives_so false a home p l = refl

listed_so : (g a b : Bool) → (g && (a && b)) ≡ true → (g && a) ≡ true
listed_so true true b e = refl
listed_so true false b e = clash e refl
listed_so false a b e = clash e refl

module _ (t : Cell) (b : Names16 t) {names places agents bounds kinds numbers : List ℕ} (n : names ≡ names_of t.used t.places) (s : places ≡ grouped_of t.used (parents_of t.places))
    (v : agents ≡ grouped_of t.given (homes_of t.given t.agents)) (r : Rows t.given t.agents bounds kinds numbers 64) where
  -- the sheet of the arrays says what the cell says
  pub drawn : Drawn (cell_of t) (sheet_of places agents names kinds numbers bounds)
  drawn = record {
    stands = λ p q l m. ap (λ (w : List ℕ). has (get_or w p 0) q) s ∙ in_word t.used (parents_of t.places) p q l m
        ∙ ap (λ (k : ℕ). member t.used q && eqb k p) (parent q m) ∙ unfold cell_of stands_under in stands_so (member t.used q) (eqb q 0) (get_or t.places q no_place).parent p l;
    lives = λ p x l m. ap (λ (w : List ℕ). has (get_or w p 0) x) v ∙ in_word t.given (homes_of t.given t.agents) p x l m
        ∙ ap (λ (k : ℕ). member t.given x && eqb k p) (home x m)
        ∙ unfold cell_of lists_in in lives_so (member t.given x) (has_unused (get_or t.agents x no_agent)) (get_or t.agents x no_agent).home p l;
    name = λ q m e. ap (λ (w : List ℕ). unpacked_of (get_or w q 0)) n ∙ ap unpacked_of (name q m ∙ named (member t.used q) _ (used q e)) ∙ unpacked _ (b.place q) ∙ unfold cell_of in refl;
    text = λ p x m e. rows_text r x m (listed p x e) ∙ unfold cell_of in refl;
  }
    where
      parent : (q : ℕ) → q < 64 → get_or (parents_of t.places) q 0 ≡ cond (eqb q 0) 64 (get_or t.places q no_place).parent
      parent q m = unfold parents_of in get_d_tab _ 64 q 0 m

      home : (x : ℕ) → x < 64 → get_or (homes_of t.given t.agents) x 0 ≡ cond (is_listed t.given t.agents x) (get_or t.agents x no_agent).home 64
      home x m = unfold homes_of in get_d_tab _ 64 x 0 m

      name : (q : ℕ) → q < 64 → get_or (names_of t.used t.places) q 0 ≡ cond (member t.used q) (packed_of (get_or t.places q no_place).name) 0
      name q m = unfold names_of in get_d_tab _ 64 q 0 m

      named : (b : Bool) (n : ℕ) → b ≡ true → cond b n 0 ≡ n
      named true n e = refl
      named false n e = clash e refl

      used : (q : ℕ) → (cell_of t).land.used q ≡ true → member t.used q ≡ true
      used q e = unfold cell_of in e

      listed : (p x : ℕ) → lists_in ((cell_of t).given x) ((cell_of t).agent x) p ≡ true → is_listed t.given t.agents x ≡ true
      listed p x e = unfold cell_of lists_in in listed_so (member t.given x) (has_unused (get_or t.agents x no_agent)) (eqb (get_or t.agents x no_agent).home p) e
