-- Tests and their answers: a test is told once, and what is known of it is kept as an equation. Assumes nothing.
use Rattle.std.specs.Prelude.{◌≡◌, refl, ◌≢◌, ◌⊎◌, Bool, true, false, ◌&&◌, ◌||◌, cond, ℕ, eqb}
use Rattle.std.proofs.Common.{sym, ◌∙◌, inl, inr, eqb-true}
use Rattle.std.proofs.lemmas.Bool.{false≢true, eqb-false}

-- a test and its answer
pub data Told (b : Bool) : Type 0 where
  yea : b ≡ true → Told b
  nay : b ≡ false → Told b

pub told : (b : Bool) → Told b
told true = yea refl
told false = nay refl

-- a test that is both true and false proves anything
pub clash : {A : Type 0} {b : Bool} → b ≡ true → b ≡ false → A
clash t f = absurd (false≢true (sym f ∙ t))

pub eq? : (m n : ℕ) → (m ≡ n) ⊎ (m ≢ n)
eq? m n = go (told (eqb m n))
  where
    go : Told (eqb m n) → (m ≡ n) ⊎ (m ≢ n)
    go (yea e) = inl (eqb-true m n e)
    go (nay e) = inr (eqb-false m n e)

-- two tests that follow from each other are equal
pub same_test : (a b : Bool) → (a ≡ true → b ≡ true) → (b ≡ true → a ≡ true) → a ≡ b
same_test true b h k = sym (h refl)
same_test false true h k = k refl
same_test false false h k = refl

pub and_left : (a b : Bool) → (a && b) ≡ true → a ≡ true
and_left true b e = refl
and_left false b e = e

pub and_right : (a b : Bool) → (a && b) ≡ true → b ≡ true
and_right true b e = e
and_right false b e = clash e refl

pub and_cong : (u x y : Bool) → (u ≡ true → x ≡ y) → (u && x) ≡ (u && y)
and_cong true x y h = h refl
and_cong false x y h = refl

pub or_cong : (u x y : Bool) → (u ≡ false → x ≡ y) → (u || x) ≡ (u || y)
or_cong true x y h = refl
or_cong false x y h = h refl

pub cond_cong : {A : Type 0} (u : Bool) (x y z : A) → (u ≡ true → x ≡ y) → cond u x z ≡ cond u y z
cond_cong true x y z h = h refl
cond_cong false x y z h = refl
