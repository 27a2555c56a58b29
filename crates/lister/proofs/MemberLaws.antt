-- The texts of the members of a set, the highest first, and two groups of texts one after the other. Assumes nothing.
-- Idea: a number that is no member adds no text; texts that have a byte can be joined by themselves and put after others.
use Rattle.std.specs.Prelude.{◌≡◌, ◌≢◌, ◌⊎◌, Bool, List, [], ◌∷◌, ◌++◌}
use Rattle.std.proofs.Math.Path.{refl, ap}
use Rattle.std.proofs.Common.{sym, ap₂, ◌∙◌, inl, inr, append-nil, append_assoc, add-one}
use Rattle.std.proofs.Math.Bool.{true, false, cond}
use Prim.Native.Nat.{ℕ, zero, suc, ◌+◌, ◌<◌, ◌≤◌}
use native.Mathlib.Omega.{arith}
use Rattle.std.proofs.Math.ListN.{length, length-append}
use Rattle.table.proofs.BaseLaws.{Told, yea, nay, told, eq?, clash, cond_cong}
use Rattle.meaning.specs.Text.{gap, joined, joined_all}
use Rattle.meaning.specs.Sorted.{leq, insert, sorted}
use Rattle.meaning.specs.Listing.{texts_of, in_order}
use Rattle.meaning.proofs.TextsLaws.{joined_append}
use Rattle.meaning.proofs.InsertLaws.{sorted_length}
use Rattle.lister.specs.Sheet.{bar}
use Rattle.lister.specs.Marked.{barred, grouped, Filled}
use Rattle.lister.proofs.MarkedLaws.{gap_bar}

-- ---- the texts of members

-- equal members and texts below n
pub texts_ext : (P Q : ℕ → Bool) (F G : ℕ → List ℕ) (n : ℕ) → ((k : ℕ) → k < n → P k ≡ Q k) → ((k : ℕ) → k < n → Q k ≡ true → F k ≡ G k) → texts_of P F n ≡ texts_of Q G n
unfolding texts_of
texts_ext P Q F G zero f g = refl
texts_ext P Q F G (suc n) f g =
    ap₂ (λ (b : Bool) (ts : List (List ℕ)). cond b (F n ∷ ts) ts) (f n (omega arith)) (texts_ext P Q F G n (λ k l. f k (omega arith)) (λ k l. g k (omega arith)))
    ∙ cond_cong (Q n) (F n ∷ texts_of Q G n) (G n ∷ texts_of Q G n) (texts_of Q G n) (λ q. ap (λ (t : List ℕ). t ∷ texts_of Q G n) (g n (omega arith) q))

module _ (g : ℕ → Bool) (F : ℕ → List ℕ) where
  -- one member more
  pub texts_more : (x : ℕ) → g x ≡ true → F x ∷ texts_of g F x ≡ texts_of g F (x + 1)
  texts_more x e = sym (ap (texts_of g F) (add-one x) ∙ unfold texts_of in ap (λ (b : Bool). cond b (F x ∷ texts_of g F x) (texts_of g F x)) e)

  -- where there is a member there is a text
  pub texts_some : (n x : ℕ) → x < n → g x ≡ true → 0 < length (texts_of g F n)
  unfolding texts_of
  texts_some zero x l e = absurd (omega arith)
  texts_some (suc n) x l e = go (told (g n)) (eq? x n) (texts_some n x)
    where
      go : Told (g n) → (x ≡ n) ⊎ (x ≢ n) → (x < n → g x ≡ true → 0 < length (texts_of g F n)) → 0 < length (texts_of g F (suc n))
      go (yea t) _ r = rw t (omega arith)
      go (nay t) (inl q) r = clash e (ap g q ∙ t)
      go (nay t) (inr q) r = rw t (r (omega arith) e)

  -- and where there is none there is none
  pub texts_none : (n : ℕ) → ((j : ℕ) → j < n → g j ≡ false) → texts_of g F n ≡ []
  unfolding texts_of
  texts_none zero h = refl
  texts_none (suc n) h = rw (h n (omega arith)) (texts_none n (λ j l. h j (omega arith)))

  -- every text has a byte, where that of every member has one
  pub texts_filled : (n : ℕ) → ((x : ℕ) → x < n → g x ≡ true → 0 < length (F x)) → Filled (texts_of g F n)
  unfolding texts_of
  texts_filled zero h = Filled.none
  texts_filled (suc n) h = go (told (g n)) (texts_filled n (λ x l. h x (omega arith)))
    where
      go : Told (g n) → Filled (texts_of g F n) → Filled (texts_of g F (suc n))
      go (yea t) r = rw t (Filled.more (h n (omega arith) t) r)
      go (nay t) r = rw t r

  -- no turn makes the joined text shorter
  pub barred_grows : (n m : ℕ) → n ≤ m → length (barred (texts_of g F n)) ≤ length (barred (texts_of g F m))
  unfolding texts_of
  barred_grows n zero l = let e : n ≡ 0 = omega arith in let h = ap (λ (k : ℕ). length (barred (texts_of g F k))) e in omega arith
  barred_grows n (suc m) l = go (eq? n (suc m)) (barred_grows n m)
    where
      more : (b : Bool) → length (barred (texts_of g F m)) ≤ length (barred (cond b (F m ∷ texts_of g F m) (texts_of g F m)))
      more true = unfold barred in omega (arith, length-append (barred (texts_of g F m) ++ gap bar (barred (texts_of g F m))) (F m), length-append (barred (texts_of g F m)) (gap bar (barred (texts_of g F m))))
      more false = omega arith

      go : (n ≡ suc m) ⊎ (n ≢ suc m) → (n ≤ m → length (barred (texts_of g F n)) ≤ length (barred (texts_of g F m))) → length (barred (texts_of g F n)) ≤ length (barred (texts_of g F (suc m)))
      go (inl e) r = let h = ap (λ (k : ℕ). length (barred (texts_of g F k))) e in omega arith
      go (inr q) r = omega (arith, r (omega arith), more (g m))

-- ---- two groups

insert_filled : (x : List ℕ) → 0 < length x → (texts : List (List ℕ)) → Filled texts → Filled (insert x texts)
unfolding insert
insert_filled x l texts Filled.none = Filled.more l Filled.none
insert_filled x l texts (Filled.more {x = y} {earlier} m f) = go (leq y x) (insert_filled x l earlier f)
  where
    go : (b : Bool) → Filled (insert x earlier) → Filled (cond b (y ∷ insert x earlier) (x ∷ y ∷ earlier))
    go true r = Filled.more m r
    go false r = Filled.more l (Filled.more m f)

-- put in order every text still has a byte
pub sorted_filled : (texts : List (List ℕ)) → Filled texts → Filled (sorted texts)
unfolding sorted
sorted_filled texts Filled.none = Filled.none
sorted_filled texts (Filled.more {x} {earlier} l f) = insert_filled x l (sorted earlier) (sorted_filled earlier f)

-- what stands before a text that has a byte can be put there at the end
joined_after : (a y : List ℕ) → 0 < length y → (ys : List (List ℕ)) → joined_all bar (a ++ y) ys ≡ a ++ joined_all bar y ys
unfolding joined_all
joined_after a y l [] = refl
joined_after a y l (z ∷ zs) =
    ap (λ (t : List ℕ). joined_all bar t zs) one
    ∙ joined_after a (joined bar y z) (omega (arith, length-append (y ++ gap bar y) z, length-append y (gap bar y))) zs
  where
    one : joined bar (a ++ y) z ≡ a ++ joined bar y z
    one =
        ap (λ (t : List ℕ). ((a ++ y) ++ t) ++ z) (gap_bar (a ++ y) (omega (arith, length-append a y)) ∙ sym (gap_bar y l))
        ∙ ap (λ (t : List ℕ). t ++ z) (append_assoc a y (gap bar y))
        ∙ append_assoc a (y ++ gap bar y) z

-- some texts after a text: what they are by themselves, after a bar
joined_as_one : (s : List ℕ) (texts : List (List ℕ)) → Filled texts → 0 < length texts → joined_all bar s texts ≡ joined bar s (joined_all bar [] texts)
unfolding joined_all gap
joined_as_one s texts Filled.none l = absurd (omega arith)
joined_as_one s texts (Filled.more {x} {earlier} m f) l = joined_after (s ++ gap bar s) x m earlier

-- put in order there are as many
sorted_some : (texts : List (List ℕ)) → 0 < length texts → 0 < length (sorted texts)
sorted_some texts l = omega (arith, sorted_length texts)

-- two groups: the first, a bar where it has text, and the second
pub both_groups : (agents places : List (List ℕ)) → Filled places → 0 < length places → in_order agents places ≡ joined bar (grouped agents) (grouped places)
unfolding in_order grouped
both_groups agents places f l =
    joined_append bar [] (sorted agents) (sorted places)
    ∙ joined_as_one (joined_all bar [] (sorted agents)) (sorted places) (sorted_filled places f) (sorted_some places l)

-- the first alone
pub one_group : (agents places : List (List ℕ)) → places ≡ [] → in_order agents places ≡ grouped agents
unfolding in_order grouped sorted
one_group agents places e = ap (λ (ts : List (List ℕ)). joined_all bar [] (sorted agents ++ sorted ts)) e ∙ ap (joined_all bar []) (append-nil (sorted agents))

-- the first is no longer than the two
pub first_group : (agents places : List (List ℕ)) → length (grouped agents) ≤ length (in_order agents places)
unfolding in_order grouped
first_group agents places = let e = ap length (joined_append bar [] (sorted agents) (sorted places)) in omega (arith, longer (sorted places) (joined_all bar [] (sorted agents)))
  where
    longer : (texts : List (List ℕ)) (s : List ℕ) → length s ≤ length (joined_all bar s texts)
    longer [] s = unfold joined_all in omega arith
    longer (x ∷ texts) s = unfold joined_all in omega (arith, longer texts (joined bar s x), length-append (s ++ gap bar s) x, length-append s (gap bar s))
