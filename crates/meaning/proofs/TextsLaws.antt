-- Laws of the texts of a place's parts (`texts_of`) and of texts joined one after the other (`joined_all`). Assumes nothing.
use Rattle.std.specs.Prelude.{◌≡◌, refl, ◌≢◌, ◌⊎◌, Bool, true, false, List, [], ◌∷◌, ◌++◌}
use Rattle.std.proofs.Common.{sym, ap, ap₂, ◌∙◌, inl, inr}
use Prim.Native.Nat.{ℕ, zero, suc, ◌≤◌, ◌<◌}
use native.Mathlib.Omega.{arith}
use Rattle.std.proofs.Math.ListN.{length}
use Rattle.table.proofs.BaseLaws.{Told, yea, nay, told, eq?}
use Rattle.meaning.specs.Text.{joined, joined_all}
use Rattle.meaning.proofs.SortedLaws.{Text}
use Rattle.meaning.specs.Listing.{texts_of}
use Rattle.meaning.specs.Every.{every_none, every_more, Every}

-- ---- the texts of those that are meant

module _ (meant : ℕ → Bool) (text : ℕ → Text) where
  -- any other adds nothing
  pub texts_miss : (n : ℕ) → meant n ≡ false → texts_of meant text (suc n) ≡ texts_of meant text n
  unfolding texts_of
  texts_miss n e = rw e

  -- and so do many of them
  pub texts_skip : (n m : ℕ) → n ≤ m → ((j : ℕ) → n ≤ j → j < m → meant j ≡ false) → texts_of meant text n ≡ texts_of meant text m
  texts_skip n zero l h = let e : n ≡ 0 = omega arith in ap (texts_of meant text) e
  texts_skip n (suc m) l h = go (eq? n (suc m)) (texts_skip n m)
    where
      go : (n ≡ suc m) ⊎ (n ≢ suc m) → (n ≤ m → ((j : ℕ) → n ≤ j → j < m → meant j ≡ false) → texts_of meant text n ≡ texts_of meant text m)
          → texts_of meant text n ≡ texts_of meant text (suc m)
      go (inl e) _ = ap (texts_of meant text) e
      go (inr d) rest = rest (omega arith) (λ j a b. h j a (omega arith)) ∙ sym (texts_miss m (h m (omega arith) (omega arith)))

  -- there are at most n
  pub texts_length : (n : ℕ) → length (texts_of meant text n) ≤ n
  unfolding texts_of
  texts_length zero = omega arith
  texts_length (suc n) = go (told (meant n)) (texts_length n)
    where
      go : Told (meant n) → length (texts_of meant text n) ≤ n → length (texts_of meant text (suc n)) ≤ suc n
      go (yea e) rest = rw e (omega arith)
      go (nay e) rest = rw e (omega arith)

  -- what is so of the text of each that is meant is so of every text
  pub texts_every : {P : Text → Type 0} → ((k : ℕ) → meant k ≡ true → P (text k)) → (n : ℕ) → Every P (texts_of meant text n)
  unfolding texts_of
  texts_every h zero = every_none
  texts_every {P} h (suc n) = go (told (meant n)) (texts_every h n)
    where
      go : Told (meant n) → Every P (texts_of meant text n) → Every P (texts_of meant text (suc n))
      go (yea e) rest = rw e (every_more (h n e) rest)
      go (nay e) rest = rw e rest

-- where the same are meant and have the same texts, the texts are the same
pub texts_same : (meant also : ℕ → Bool) (text other : ℕ → Text) → ((k : ℕ) → meant k ≡ also k) → ((k : ℕ) → meant k ≡ true → text k ≡ other k)
    → (n : ℕ) → texts_of meant text n ≡ texts_of also other n
unfolding texts_of
texts_same meant also text other e f zero = refl
texts_same meant also text other e f (suc n) = go (told (meant n)) (texts_same meant also text other e f n)
  where
    go : Told (meant n) → texts_of meant text n ≡ texts_of also other n → texts_of meant text (suc n) ≡ texts_of also other (suc n)
    go (yea t) rest = rw (t, sym (e n) ∙ t) (ap₂ ◌∷◌ (f n t) rest)
    go (nay t) rest = rw (t, sym (e n) ∙ t) rest

-- ---- texts joined

-- the parts of two lists one after the other
pub joined_append : (by s : Text) (l m : List Text) → joined_all by s (l ++ m) ≡ joined_all by (joined_all by s l) m
unfolding joined_all
joined_append by s [] m = refl
joined_append by s (x ∷ l) m = joined_append by (joined by s x) l m

-- one part more at the end
pub joined_last : (by s : Text) (l : List Text) (x : Text) → joined_all by s (l ++ (x ∷ [])) ≡ joined by (joined_all by s l) x
unfolding joined_all
joined_last by s l x = joined_append by s l (x ∷ [])
