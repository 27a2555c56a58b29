-- Above and below: in a formed tree no place is both below p and on the way up from p, and a place has one way up.
-- Idea: either would be a way from a place to itself, which only the floor has.
use Rattle.std.specs.Prelude.{◌≡◌, refl, ◌≢◌, ℕ, suc, ◌+◌, ◌-◌, ltb}
use Rattle.std.proofs.Math.Path.{sym, ap}
use Rattle.std.proofs.Common.{◌∙◌, subst, arith, ltb-true, ltb-false}
use Rattle.table.specs.Base.{iter}
use Rattle.table.proofs.BaseLaws.{Told, yea, nay, told, iter_add}
use Rattle.meaning.specs.Calculus.{Tree}
use Rattle.calculus.proofs.Up.{iter_out, acyclic}
use Rattle.calculus.specs.Formed.{Formed}

-- q is p or on the way up from p
pub record Above (f : ℕ → ℕ) (p q : ℕ) : Type 0 where
  pub many : ℕ
  pub leads : iter f many p ≡ q

-- q is not the floor and p is on the way up from q
pub record Below (f : ℕ → ℕ) (p q : ℕ) : Type 0 where
  pub placed : q ≢ 0
  pub many : ℕ
  pub leads : iter f (suc many) q ≡ p

-- p is above itself, and so is what a place above p stands in
pub above_self : (f : ℕ → ℕ) (p : ℕ) → Above f p p
unfolding iter
above_self f p = record { many = 0; leads = refl }

pub above_next : {f : ℕ → ℕ} {p q : ℕ} → Above f p q → (s : ℕ) → f q ≡ s → Above f p s
above_next {f} {p} {q} a s e = record { many = suc a.many; leads = iter_out f a.many p ∙ ap f a.leads ∙ e }

-- a place that stands in p is below it, and so is one that stands in a place below p
pub below_one : {f : ℕ → ℕ} {p q : ℕ} → q ≢ 0 → f q ≡ p → Below f p q
unfolding iter
below_one d e = record { placed = d; many = 0; leads = e }

pub below_next : {f : ℕ → ℕ} {p s : ℕ} → Below f p s → (q : ℕ) → q ≢ 0 → f q ≡ s → Below f p q
unfolding iter
below_next {f} {p} b q d e = record { placed = d; many = suc b.many; leads = subst (λ r. iter f (suc b.many) r ≡ p) (sym e) b.leads }

-- equal numbers of steps
steps : (f : ℕ → ℕ) (q m n : ℕ) → m ≡ n → iter f m q ≡ iter f n q
steps f q m n e = ap (λ k. iter f k q) e

module _ (t : Tree) (w : Formed t) where
  cyclic : (q n : ℕ) → iter t.parent (suc n) q ≡ q → q ≡ 0
  cyclic q n e = acyclic t.parent w.floor_parent (w.tree q) n e

  -- no place is below p and above p
  pub not_both : {p q : ℕ} → Below t.parent p q → Above t.parent p q → ⊥
  not_both {p} {q} b a = b.placed (cyclic q (b.many + a.many)
      (steps t.parent q (suc (b.many + a.many)) (suc b.many + a.many) (omega arith)
      ∙ iter_add t.parent (suc b.many) a.many q ∙ ap (iter t.parent a.many) b.leads ∙ a.leads))

  -- a place below p is not p
  pub below_not : {p q : ℕ} → Below t.parent p q → q ≢ p
  below_not {p} b e = not_both b (subst (Above t.parent p) (sym e) (above_self t.parent p))

  later : (p q r n d : ℕ) → iter t.parent n p ≡ q → iter t.parent (n + suc d) p ≡ r → t.parent q ≡ t.parent r → r ≡ 0
  unfolding iter
  later p q r n d e f g = cyclic r d
      (ap (iter t.parent d) (sym g) ∙ ap (iter t.parent (suc d)) (sym e) ∙ sym (iter_add t.parent n (suc d) p) ∙ f)

  -- of two places with the same parent at most one is on the way up from p
  pub one_way : {p q r : ℕ} → Above t.parent p q → Above t.parent p r → t.parent q ≡ t.parent r → q ≢ 0 → r ≢ 0 → q ≡ r
  one_way {p} {q} {r} a b e q0 r0 = go (told (ltb a.many b.many)) (told (ltb b.many a.many))
    where
      go : Told (ltb a.many b.many) → Told (ltb b.many a.many) → q ≡ r
      go (yea l) k = absurd (r0 (later p q r a.many (b.many - suc a.many) a.leads
          (steps t.parent p (a.many + suc (b.many - suc a.many)) b.many (omega (arith, ltb-true a.many b.many l)) ∙ b.leads) e))
      go (nay l) (yea k) = absurd (q0 (later p r q b.many (a.many - suc b.many) b.leads
          (steps t.parent p (b.many + suc (a.many - suc b.many)) a.many (omega (arith, ltb-true b.many a.many k)) ∙ a.leads)
          (sym e)))
      go (nay l) (nay k) = sym a.leads
          ∙ steps t.parent p a.many b.many (omega (arith, ltb-false a.many b.many l, ltb-false b.many a.many k)) ∙ b.leads
