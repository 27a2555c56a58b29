-- All places in use lead to the floor, where from each that is not known to the way up is followed. Assumes nothing.
-- Idea: before each turn a place in use is known to lead to the floor or is left; one that is lost never leads there.
use Rattle.std.specs.Prelude.{◌≡◌, ◌⊎◌, Bool, not, List, eqb}
use Rattle.std.proofs.Math.Path.{refl, sym}
use Rattle.std.proofs.Common.{ap, ◌∙◌, inl, inr, arith}
use Rattle.std.proofs.Math.Bool.{true, false, xor, cond}
use Prim.Native.Nat.{ℕ, ◌<◌, ◌^◌}
use Rattle.std.specs.Int.Bits.{bit_xor}
use borrow.Author.Tests.{eq-eqb, eqb-true, ne_eqb}
use Rattle.sets.specs.Word.{has}
use Rattle.sets.proofs.WordLaws.{has_none, has_xor}
use Rattle.sets.specs.Set.{member, removed}
use Rattle.sets.proofs.SetLaws.{member_removed}
use Rattle.sets.proofs.WalkLaws.{lowest_lt, lowest_found}
use Rattle.sets.specs.Walk.{lowest_in}
use Rattle.sets.specs.declared.Set.{Set}
use Rattle.table.specs.Base.{count_below, iter}
use Rattle.table.proofs.BaseLaws.{Told, yea, nay, told, clash, and_right, all_yes, all_no}
use Rattle.soundness.specs.Lead.{above, Ways, Followed}
use Rattle.soundness.proofs.LeadLaws.{iter_stays, count_most}
use Rattle.soundness.specs.Pass.{all_lead}

module _ (up : List ℕ) (used : Set) where
  abbrev f : ℕ → ℕ
  f = above up

  -- a place that is known leads to the floor within 64 steps
  known_leads : (known : Set) → Ways up known → (q : ℕ) → member known q ≡ true → iter f 64 q ≡ 0
  known_leads known w q e = iter_stays f w.floor (count_below (member known) 64) 64 q (count_most (member known) 64) (w.leading q e)

  all_led : ((q : ℕ) → q < 64 → member used q ≡ true → iter f 64 q ≡ 0) → true ≡ all_lead (above up) used
  unfolding all_lead
  all_led h = sym (all_yes _ 64 (λ q l. go q l (told (member used q))))
    where
      go : (q : ℕ) → q < 64 → Told (member used q) → cond (member used q) (eqb (iter f 64 q) 0) true ≡ true
      go q l (yea t) = rw t (eq-eqb (iter f 64 q) 0 (h q l t))
      go q l (nay t) = rw t

-- ---- turn by turn

module _ (up : List ℕ) (known begun : Set) where
  -- before each turn: what was known is, and what was to be followed is known or left
  pub record Remains (all rest : Set) : Type 0 where
    pub ways : Ways up all
    pub kept : (j : ℕ) → j < 64 → member known j ≡ true → member all j ≡ true
    pub covers : (j : ℕ) → j < 64 → member begun j ≡ true → (member all j ≡ true) ⊎ (member rest j ≡ true)
    pub from : (j : ℕ) → j < 64 → member rest j ≡ true → member begun j ≡ true

  pub remains_start : Ways up known → Remains known begun
  remains_start w = record { ways = w; kept = λ j l t. t; covers = λ j l t. inr t; from = λ j l t. t }

  module _ (all rest : Set) (o : Remains all rest) (b : rest.bits < 2 ^ 64) (k : 0 < rest.bits) where
    abbrev q : ℕ
    q = lowest_in rest

    module _ (more : Set) (m : Followed up all (lowest_in rest) more) where
      pub remains_more : member more (lowest_in rest) ≡ true → Remains more (removed rest (lowest_in rest))
      remains_more e = record {
        ways = record { floor = o.ways.floor; small = o.ways.small; first = m.kept 0 (omega arith) o.ways.first; leading = m.leading };
        kept = λ j l t. m.kept j l (o.kept j l t);
        covers = λ j l t. covers j l (o.covers j l t) (told (eqb j q));
        from = λ j l r. o.from j l (and_right (not (eqb j q)) (member rest j) (sym (member_removed rest q j l) ∙ r));
      }
        where
          covers : (j : ℕ) → j < 64 → (member all j ≡ true) ⊎ (member rest j ≡ true) → Told (eqb j q) → (member more j ≡ true) ⊎ (member (removed rest q) j ≡ true)
          covers j l (inl t) d = inl (m.kept j l t)
          covers j l (inr t) (yea d) = inl (ap (member more) (eqb-true j q d) ∙ e)
          covers j l (inr t) (nay d) = inr (member_removed rest q j l ∙ rw (d, t))

-- ---- the whole: what is to be followed is what is in use and not known

module _ (up : List ℕ) (used known : Set) where
  abbrev begun : Set
  begun = record { bits = bit_xor used.bits known.bits }

  differs : (j : ℕ) → member known j ≡ false → member begun j ≡ member used j
  differs j k = has_xor used.bits known.bits j ∙ ap (λ (b : Bool). xor b (member used j)) k ∙ other (member used j)
    where
      other : (b : Bool) → xor false b ≡ b
      other true = unfold xor in refl
      other false = unfold xor in refl

  module _ (all rest : Set) (o : Remains up known begun all rest) where
    pub remains_end : rest.bits ≡ 0 → true ≡ all_lead (above up) used
    remains_end e = all_led up used (λ q l t. known_leads up used all o.ways q (here q l t (told (member known q))))
      where
        found : (q : ℕ) → (member all q ≡ true) ⊎ (member rest q ≡ true) → member all q ≡ true
        found q (inl t) = t
        found q (inr t) = clash t (ap (λ (n : ℕ). has n q) e ∙ has_none q)

        here : (q : ℕ) → q < 64 → member used q ≡ true → Told (member known q) → member all q ≡ true
        here q l t (yea d) = o.kept q l d
        here q l t (nay d) = found q (o.covers q l (differs q d ∙ t))

    -- a place that does not lead to the floor
    pub remains_stop : rest.bits < 2 ^ 64 → 0 < rest.bits → (more : Set) → Followed up all (lowest_in rest) more → member more (lowest_in rest) ≡ false → false ≡ all_lead (above up) used
    unfolding all_lead
    remains_stop b k more m e =
        sym (all_no _ 64 q small (ap (λ (y : Bool). cond y (eqb (iter (above up) 64 q) 0) true) (sym (differs q new) ∙ o.from q small (lowest_found 64 (member rest) small)) ∙ ne_eqb (iter (above up) 64 q) 0 (m.lost e 64)))
      where
        q : ℕ
        q = lowest_in rest

        small : q < 64
        small = lowest_lt 64 rest.bits b k

        not_known : Told (member known q) → member known q ≡ false
        not_known (yea t) = clash (m.kept q small (o.kept q small t)) e
        not_known (nay t) = t

        new : member known q ≡ false
        new = not_known (told (member known q))
