-- What is met on a walk outwards: the first place that passes, on every way that leads to the floor; and walks along ways that agree meet the same.
-- By induction over the steps of the walk.
use Rattle.std.specs.Prelude.{◌≡◌, ◌≢◌, ◌⊎◌, Bool, true, false, ◌&&◌}
use Rattle.std.proofs.Math.Path.{refl, ap, ap₂}
use Rattle.std.proofs.Common.{sym, ◌∙◌, subst}
use Rattle.std.proofs.Math.Logic.{inl, inr}
use Rattle.std.proofs.Math.Bool.{cond}
use Prim.Native.Nat.{ℕ, zero, suc}
use Rattle.std.proofs.Math.Dec.{eqb, ltb}
use borrow.Author.Tests.{eqb-true, eqb-false, eq-eqb}
use Rattle.table.specs.Base.{iter}
use Rattle.table.proofs.BaseLaws.{Told, yea, nay, told, clash, eq?}
use Rattle.table.specs.Cell.{none}
use Rattle.meaning.specs.Where.{most_outwards, outwards, nearest, holds, common}
use Rattle.demands.specs.Where.{Encloses, around, further, HoldsOrIs}

-- what is met from q outwards, q itself counted: a place that passes, which every place that passes holds or is, or none
pub data First (up : ℕ → ℕ) (passes : ℕ → Bool) (q : ℕ) : ℕ → Type 0 where
  first : (p : ℕ) → HoldsOrIs up p q → passes p ≡ true → ((r : ℕ) → HoldsOrIs up r q → passes r ≡ true → HoldsOrIs up r p) → First up passes q p
  nobody : ((r : ℕ) → HoldsOrIs up r q → passes r ≡ false) → First up passes q none

-- ---- enclosing

module _ (up : ℕ → ℕ) where
  -- one step outwards, and back
  pub out : {p q : ℕ} → q ≢ 0 → HoldsOrIs up p (up q) → Encloses up p q
  out z (inl e) = around z e
  out z (inr e) = further z e

  pub inside : {p q : ℕ} → Encloses up p q → HoldsOrIs up p (up q)
  inside (around z e) = inl e
  inside (further z e) = inr e

  -- nothing encloses the floor
  pub off_floor : {p q : ℕ} → Encloses up p q → q ≢ 0
  off_floor (around z e) = z
  off_floor (further z e) = z

  -- what encloses an enclosing place encloses
  pub beyond : {p q r : ℕ} → Encloses up p q → Encloses up q r → Encloses up p r
  beyond {p} i (around z e) = further z (subst (Encloses up p) (sym e) i)
  beyond i (further z j) = further z (beyond i j)

  -- an enclosing place is some steps away
  pub steps : {p q : ℕ} → Encloses up p q → (n : ℕ) × (iter up (suc n) q ≡ p)
  unfolding iter
  steps (around z e) = (0, e)
  steps (further z i) = let m = steps i in (suc m.0, m.1)

  -- from q the floor is reached in k steps
  abbrev pub Leads : ℕ → ℕ → Type 0
  Leads k q = iter up k q ≡ 0

  -- the floor holds or is every such place
  pub floor_holds : (k q : ℕ) → Leads k q → HoldsOrIs up 0 q
  unfolding iter
  floor_holds zero q e = inl e
  floor_holds (suc k) q e = go (eq? q 0) (floor_holds k (up q) e)
    where
      go : (q ≡ 0) ⊎ (q ≢ 0) → HoldsOrIs up 0 (up q) → HoldsOrIs up 0 q
      go (inl z) _ = inl z
      go (inr z) h = inr (out z h)

  -- ---- the first that passes

  -- q does not pass, and is not the floor: what is met from where it stands
  lift : {passes : ℕ → Bool} {q x : ℕ} → passes q ≡ false → q ≢ 0 → First up passes (up q) x → First up passes q x
  lift {passes} {q} m z (first p h e near) = first p (inr (out z h)) e go
    where
      go : (r : ℕ) → HoldsOrIs up r q → passes r ≡ true → HoldsOrIs up r p
      go r (inl i) f = clash (ap passes i ∙ f) m
      go r (inr i) f = near r (inside i) f
  lift {passes} {q} m z (nobody f) = nobody go
    where
      go : (r : ℕ) → HoldsOrIs up r q → passes r ≡ false
      go r (inl i) = ap passes (sym i) ∙ m
      go r (inr i) = f r (inside i)

  -- the floor does not pass
  ends : {passes : ℕ → Bool} {q : ℕ} → passes q ≡ false → q ≡ 0 → First up passes q none
  ends {passes} {q} m z = nobody go
    where
      go : (r : ℕ) → HoldsOrIs up r q → passes r ≡ false
      go r (inl i) = ap passes (sym i) ∙ m
      go r (inr i) = absurd (off_floor i z)

  pub outwards_first : (k : ℕ) (passes : ℕ → Bool) (q : ℕ) → Leads k q → First up passes q (outwards (suc k) up passes q)
  unfolding outwards iter
  outwards_first zero passes q e = go (told (passes q))
    where
      go : Told (passes q) → First up passes q (outwards 1 up passes q)
      go (yea m) = rw m (first q (inl refl) m (λ r h _. h))
      go (nay m) = rw (m, eq-eqb q 0 e) (ends m e)
  outwards_first (suc k) passes q e = go (told (passes q)) (told (eqb q 0)) (outwards_first k passes (up q) e)
    where
      go : Told (passes q) → Told (eqb q 0) → First up passes (up q) (outwards (suc k) up passes (up q)) → First up passes q (outwards (suc (suc k)) up passes q)
      go (yea m) _ _ = rw m (first q (inl refl) m (λ r h _. h))
      go (nay m) (yea z) _ = rw (m, z) (ends m (eqb-true q 0 z))
      go (nay m) (nay z) f = rw (m, z) (lift m (eqb-false q 0 z) f)

-- ---- ways that agree on the places in use, which they do not leave

module _ (used : ℕ → Bool) (up other : ℕ → ℕ) (agree : (q : ℕ) → used q ≡ true → up q ≡ other q) (stay : (q : ℕ) → used q ≡ true → used (up q) ≡ true) where
  pub outwards_same : (passes pass : ℕ → Bool) → ((q : ℕ) → used q ≡ true → passes q ≡ pass q) → (k q : ℕ) → used q ≡ true
      → outwards k up passes q ≡ outwards k other pass q
  unfolding outwards
  outwards_same passes pass h zero q u = refl
  outwards_same passes pass h (suc k) q u = ap₂ (λ (b : Bool) (p : ℕ). cond b q (cond (eqb q 0) none p)) (h q u)
      (outwards_same passes pass h k (up q) (stay q u) ∙ ap (outwards k other pass) (agree q u))

  -- the two questions
  pub nearest_same : (name called : ℕ → ℕ) → ((q : ℕ) → used q ≡ true → name q ≡ called q) → (q n : ℕ) → used q ≡ true
      → nearest up name q n ≡ nearest other called q n
  unfolding nearest
  nearest_same name called h q n u = ap (λ (p : ℕ). cond (eqb q 0) none p)
      (outwards_same (λ p. eqb (name p) n) (λ p. eqb (called p) n) (λ p k. ap (λ (m : ℕ). eqb m n) (h p k)) most_outwards (up q) (stay q u)
      ∙ ap (outwards most_outwards other (λ p. eqb (called p) n)) (agree q u))

  holds_same : (p r : ℕ) → used r ≡ true → holds up p r ≡ holds other p r
  unfolding holds
  holds_same p r u = ap (λ (s : ℕ). eqb s p) (outwards_same (λ s. eqb s p) (λ s. eqb s p) (λ s k. refl) most_outwards r u)

  pub common_same : (q r : ℕ) → used q ≡ true → used r ≡ true → common up q r ≡ common other q r
  unfolding common
  common_same q r u v = outwards_same (λ p. ltb p 64 && holds up p r) (λ p. ltb p 64 && holds other p r)
      (λ p k. ap (◌&&◌ (ltb p 64)) (holds_same p r v)) most_outwards q u
