-- One turn of a walk outwards, as the loops take it; and the set of all places on the way, gathered by one. Assumes nothing.
use Rattle.std.specs.Prelude.{◌≡◌, ◌≢◌, ◌⊎◌, Bool, true, ◌||◌}
use Rattle.std.proofs.Math.Path.{refl, sym, ap, fun_ext}
use Rattle.std.proofs.Common.{◌∙◌, subst, inl, inr, lit<}
use Rattle.std.proofs.Math.Bool.{false, or_comm, or_assoc, or-false}
use Prim.Native.Nat.{ℕ, zero, suc, ◌-◌, ◌≤◌, ◌<◌, ◌^◌}
use native.Mathlib.Omega.{arith}
use Rattle.std.proofs.Math.Dec.{eqb}
use borrow.Author.Tests.{eq-eqb, ne_eqb}
use Rattle.sets.specs.Word.{has}
use Rattle.sets.proofs.WordLaws.{has_none, word_lt}
use Rattle.sets.specs.Set.{member, set_of, inserted}
use Rattle.sets.proofs.SetLaws.{set_ext, set_member, member_inserted}
use Rattle.sets.specs.declared.Set.{Set}
use Rattle.table.proofs.BaseLaws.{eq?}
use Rattle.table.specs.Cell.{none}
use Rattle.updates.proofs.GatherLaws.{member_upto}
use Rattle.meaning.specs.Where.{most_outwards, outwards, holds, common}

-- ---- one turn

module _ (up : ℕ → ℕ) (passes : ℕ → Bool) where
  -- no place more is looked at
  pub out_none : (k q : ℕ) → k ≤ 0 → outwards k up passes q ≡ none
  unfolding outwards
  out_none zero q l = refl
  out_none (suc k) q l = absurd (omega arith)

  -- the place passes
  pub out_hit : (k q : ℕ) → 0 < k → passes q ≡ true → outwards k up passes q ≡ q
  unfolding outwards
  out_hit zero q l e = absurd (omega arith)
  out_hit (suc k) q l e = rw e

  -- the floor does not pass
  pub out_floor : (k q : ℕ) → 0 < k → passes q ≡ false → q ≡ 0 → outwards k up passes q ≡ none
  unfolding outwards
  out_floor zero q l e z = absurd (omega arith)
  out_floor (suc k) q l e z = rw (e, eq-eqb q 0 z)

  -- another place does not pass
  pub out_more : (k q : ℕ) → 0 < k → passes q ≡ false → q ≢ 0 → outwards k up passes q ≡ outwards (k - 1) up passes (up q)
  unfolding outwards
  out_more zero q l e z = absurd (omega arith)
  out_more (suc k) q l e z = rw (e, ne_eqb q 0 z) (ap (λ (j : ℕ). outwards j up passes (up q)) (let i : k ≡ suc k - 1 = omega arith in i))

-- ---- all places on the way

module _ (up : ℕ → ℕ) where
  -- p is among the first k places from q outwards, q itself counted
  abbrev pub meets : ℕ → ℕ → ℕ → Bool
  meets k p q = eqb (outwards k up (λ v. eqb v p) q) p

  -- p is q, or met further out
  met : (k p q : ℕ) (further : Bool) → 0 < k → (q ≢ p → meets k p q ≡ further) → meets k p q ≡ (eqb p q || further)
  met k p q further l h = go (eq? p q)
    where
      go : (p ≡ q) ⊎ (p ≢ q) → meets k p q ≡ (eqb p q || further)
      go (inl e) = ap (λ (x : ℕ). eqb x p) (out_hit up (λ v. eqb v p) k q l (eq-eqb q p (sym e))) ∙ eq-eqb q p (sym e)
          ∙ sym (ap (λ (b : Bool). b || further) (eq-eqb p q e))
      go (inr n) = h (λ e. n (sym e)) ∙ sym (ap (λ (b : Bool). b || further) (ne_eqb p q n))

  -- the set so far and what is still met from q make all that is met from r
  pub record Chained (r : ℕ) (s : Set) (q k : ℕ) : Type 0 where
    pub small : s.bits < 2 ^ 64
    pub all : (p : ℕ) → p < 64 → (member s p || meets k p q) ≡ meets most_outwards p r

  pub chain_start : (r : ℕ) (s : Set) → s.bits ≡ 0 → Chained r s r most_outwards
  chain_start r s e = record {
    small = subst (λ (w : ℕ). w < 2 ^ 64) (sym e) (lit< tt);
    all = λ p l. ap (λ (w : ℕ). has w p || meets most_outwards p r) e ∙ ap (λ (b : Bool). b || meets most_outwards p r) (has_none p);
  }

  -- q is put in
  put : (r : ℕ) (s : Set) (q k : ℕ) → 0 < k → Chained r s q k → (p : ℕ) → p < 64 → (further : Bool) → (q ≢ p → meets k p q ≡ further)
      → ((eqb p q || member s p) || further) ≡ meets most_outwards p r
  put r s q k l c p m further h =
      ap (λ (b : Bool). b || further) (or_comm (eqb p q) (member s p)) ∙ or_assoc (member s p) (eqb p q) further
      ∙ ap (◌||◌ (member s p)) (sym (met k p q further l h)) ∙ c.all p m

  -- one turn puts q in and goes outwards
  pub chain_more : (r : ℕ) (s : Set) (q k : ℕ) → 0 < k → q ≢ 0 → Chained r s q k → Chained r (inserted s q) (up q) (k - 1)
  chain_more r s q k l z c = record {
    small = word_lt 64 _;
    all = λ p m.
        ap (λ (b : Bool). b || meets (k - 1) p (up q)) (member_inserted s q p m)
        ∙ put r s q k l c p m (meets (k - 1) p (up q)) (λ n. ap (λ (x : ℕ). eqb x p) (out_more up (λ v. eqb v p) k q l (ne_eqb q p n) z));
  }

  -- the floor is put in, and all are there
  pub chain_floor : (r : ℕ) (s : Set) (q k : ℕ) → 0 < k → q ≡ 0 → Chained r s q k → inserted s q ≡ set_of (λ p. holds up p r)
  unfolding holds
  chain_floor r s q k l z c = set_ext _ _ (λ p m. sym (or-false (eqb p q || member s p))
      ∙ put r s q k l c p m false (λ n. ap (λ (x : ℕ). eqb x p) (out_floor up (λ v. eqb v p) k q l (ne_eqb q p n) z) ∙ ne_eqb none p (λ e. omega arith)))

  -- no place more is looked at, and all are there
  pub chain_end : (r : ℕ) (s : Set) (q k : ℕ) → k ≤ 0 → Chained r s q k → s ≡ set_of (λ p. holds up p r)
  unfolding holds
  chain_end r s q k l c = sym (set_member s c.small) ∙ set_ext _ _ (λ p m. sym (or-false (member s p))
      ∙ ap (◌||◌ (member s p)) (sym (ap (λ (x : ℕ). eqb x p) (out_none up (λ v. eqb v p) k q l) ∙ ne_eqb none p (λ e. omega arith))) ∙ c.all p m)

  -- from q outwards the first place in the set of those that hold or are r is the innermost of both
  pub first_common : (q r : ℕ) (s : Set) → s ≡ set_of (λ p. holds up p r) → outwards most_outwards up (member s) q ≡ common up q r
  unfolding common
  first_common q r s e = ap (λ (f : ℕ → Bool). outwards most_outwards up f q) (ap member e ∙ fun_ext (member_upto (λ p. holds up p r)))
