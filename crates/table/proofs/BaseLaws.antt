-- Laws of one value changed, of searches and counts below a bound, and of tables. Assumes nothing.
-- Idea: each law goes by one number, which is the one in question or another; told and eq? tell which.
use Rattle.std.specs.Prelude.{◌≡◌, ◌≢◌, ◌⊎◌, List, Bool, true, false, ◌&&◌, ◌||◌, ltb, leb, get_or, length, set}
use Rattle.std.proofs.Math.Path.{refl, ap}
use Rattle.std.proofs.Common.{sym, ap₂, ◌∙◌, subst, inl, inr, add-zero, zero-add, le_refl, arith, add-one, length-set, ext_get_or, get_or-set_same, get_or-set_other, eq-eqb, ne_eqb, ltb-true, ltb-false, leb-true}
use Prim.Native.Nat.{ℕ, zero, suc, ◌+◌, ◌≤◌, ◌<◌, zero-le}
use Rattle.sets.specs.Word.{bit}
pub use Rattle.sets.proofs.ToldLaws.{Told, yea, nay, told, clash, eq?, same_test, and_left, and_right, and_cong, or_cong, cond_cong}
use Rattle.table.specs.Base.{upd, tab, fold_up, all_below, any_below, count_below, iter}

-- ---- one value changed

module _ {A : Type 0} where
  pub upd_same : (f : ℕ → A) (i : ℕ) (v : A) → upd f i v i ≡ v
  unfolding upd
  upd_same f i v = rw (eq-eqb i i refl)

  pub upd_at : (f : ℕ → A) (i j : ℕ) (v : A) → j ≡ i → upd f i v j ≡ v
  unfolding upd
  upd_at f i j v e = rw (eq-eqb j i e)

  pub upd_other : (f : ℕ → A) (i j : ℕ) (v : A) → j ≢ i → upd f i v j ≡ f j
  unfolding upd
  upd_other f i j v h = rw (ne_eqb j i h)

  -- a property of every value, after one is changed
  pub upd_all : (f : ℕ → A) (i : ℕ) (v : A) (P : ℕ → A → Type 0) → P i v → ((j : ℕ) → j ≢ i → P j (f j)) → (j : ℕ) → P j (upd f i v j)
  upd_all f i v P pv pf j = go (eq? j i)
    where
      go : (j ≡ i) ⊎ (j ≢ i) → P j (upd f i v j)
      go (inl e) = rw (upd_at f i j v e) (subst (λ (k : ℕ). P k v) (sym e) pv)
      go (inr n) = rw (upd_other f i j v n) (pf j n)

-- ---- loops as folds

pub fold_more : {S : Type 0} (f : ℕ → S → S) (s t : S) (i : ℕ) → t ≡ fold_up f i s → f i t ≡ fold_up f (i + 1) s
fold_more {S} f s t i e = ap (f i) e ∙ sym (ap (λ (n : ℕ). fold_up f n s) (add-one i) ∙ unfold fold_up in refl)

pub iter_add : (f : ℕ → ℕ) (n m q : ℕ) → iter f (n + m) q ≡ iter f m (iter f n q)
unfolding iter
iter_add f zero m q = ap (λ (k : ℕ). iter f k q) (zero-add m)
iter_add f (suc n) m q = ap (λ (k : ℕ). iter f k q) (more n m) ∙ iter_add f n m (f q)
  where
    more : (n m : ℕ) → suc n + m ≡ suc (n + m)
    more n m = omega arith

-- ---- every number below n

pub all_none : (P : ℕ → Bool) → true ≡ all_below P 0
unfolding all_below
all_none P = refl

pub all_more : (P : ℕ → Bool) (b : Bool) (i : ℕ) → b ≡ all_below P i → (P i && b) ≡ all_below P (i + 1)
all_more P b i e = ap (◌&&◌ (P i)) e ∙ sym (ap (all_below P) (add-one i) ∙ unfold all_below in refl)

pub all_done : (P : ℕ → Bool) (b : Bool) (i n : ℕ) → i ≡ n → b ≡ all_below P i → b ≡ all_below P n
all_done P b i n e q = q ∙ ap (all_below P) e

pub all_ext : (P Q : ℕ → Bool) (n : ℕ) → ((j : ℕ) → j < n → P j ≡ Q j) → all_below P n ≡ all_below Q n
unfolding all_below
all_ext P Q zero h = refl
all_ext P Q (suc n) h = ap₂ ◌&&◌ (h n (omega arith)) (all_ext P Q n (λ j l. h j (omega arith)))

pub all_at : (P : ℕ → Bool) (n j : ℕ) → j < n → all_below P n ≡ true → P j ≡ true
unfolding all_below
all_at P zero j l e = absurd (omega arith)
all_at P (suc n) j l e = go (eq? j n) (all_at P n j)
  where
    go : (j ≡ n) ⊎ (j ≢ n) → (j < n → all_below P n ≡ true → P j ≡ true) → P j ≡ true
    go (inl q) r = ap P q ∙ and_left (P n) (all_below P n) e
    go (inr q) r = r (omega arith) (and_right (P n) (all_below P n) e)

pub all_yes : (P : ℕ → Bool) (n : ℕ) → ((j : ℕ) → j < n → P j ≡ true) → all_below P n ≡ true
unfolding all_below
all_yes P zero h = refl
all_yes P (suc n) h = ap₂ ◌&&◌ (h n (omega arith)) (all_yes P n (λ j l. h j (omega arith)))

pub all_no : (P : ℕ → Bool) (n j : ℕ) → j < n → P j ≡ false → all_below P n ≡ false
all_no P n j l e = go (told (all_below P n))
  where
    go : Told (all_below P n) → all_below P n ≡ false
    go (yea t) = clash (all_at P n j l t) e
    go (nay t) = t

-- two tests below two bounds that follow from each other are equal
pub all_same : (P Q : ℕ → Bool) (n m : ℕ) → (((j : ℕ) → j < n → P j ≡ true) → (j : ℕ) → j < m → Q j ≡ true)
    → (((j : ℕ) → j < m → Q j ≡ true) → (j : ℕ) → j < n → P j ≡ true) → all_below P n ≡ all_below Q m
all_same P Q n m h k = same_test _ _ (λ e. all_yes Q m (h (λ j l. all_at P n j l e))) (λ e. all_yes P n (k (λ j l. all_at Q m j l e)))

-- every number from n on passes
pub all_rest : (P : ℕ → Bool) (n m : ℕ) → n ≤ m → ((j : ℕ) → n ≤ j → j < m → P j ≡ true) → all_below P n ≡ all_below P m
all_rest P n m l h = all_same P P n m (λ k j b. go k j b (told (ltb j n))) (λ k j b. k j (omega arith))
  where
    go : ((j : ℕ) → j < n → P j ≡ true) → (j : ℕ) → j < m → Told (ltb j n) → P j ≡ true
    go k j b (yea t) = k j (ltb-true j n t)
    go k j b (nay t) = h j (ltb-false j n t) b

-- ---- some number below n

pub any_ext : (P Q : ℕ → Bool) (n : ℕ) → ((j : ℕ) → j < n → P j ≡ Q j) → any_below P n ≡ any_below Q n
unfolding any_below
any_ext P Q zero h = refl
any_ext P Q (suc n) h = ap₂ ◌||◌ (h n (omega arith)) (any_ext P Q n (λ j l. h j (omega arith)))

pub any_at : (P : ℕ → Bool) (n j : ℕ) → j < n → P j ≡ true → any_below P n ≡ true
unfolding any_below
any_at P zero j l e = absurd (omega arith)
any_at P (suc n) j l e = go (eq? j n) (any_at P n j)
  where
    also : (a : Bool) → (a || true) ≡ true
    also true = refl
    also false = refl

    go : (j ≡ n) ⊎ (j ≢ n) → (j < n → P j ≡ true → any_below P n ≡ true) → (P n || any_below P n) ≡ true
    go (inl q) r = ap (λ (b : Bool). b || any_below P n) (ap P (sym q) ∙ e)
    go (inr q) r = ap (◌||◌ (P n)) (r (omega arith) e) ∙ also (P n)

pub any_found : (P : ℕ → Bool) (n : ℕ) → any_below P n ≡ true → (j : ℕ) × ((j < n) × (P j ≡ true))
unfolding any_below
any_found P zero e = clash e refl
any_found P (suc n) e = go (told (P n)) (any_found P n)
  where
    go : Told (P n) → (any_below P n ≡ true → (j : ℕ) × ((j < n) × (P j ≡ true))) → (j : ℕ) × ((j < suc n) × (P j ≡ true))
    go (yea t) r = (n, (omega arith, t))
    go (nay t) r = let f = r (sym (ap (λ (b : Bool). b || any_below P n) t) ∙ e) in (f.0, (let l = f.1.0 in omega arith, f.1.1))

pub any_no : (P : ℕ → Bool) (n : ℕ) → ((j : ℕ) → j < n → P j ≡ false) → any_below P n ≡ false
unfolding any_below
any_no P zero h = refl
any_no P (suc n) h = ap₂ ◌||◌ (h n (omega arith)) (any_no P n (λ j l. h j (omega arith)))

-- no number from n on passes
pub any_rest : (P : ℕ → Bool) (n m : ℕ) → n ≤ m → ((j : ℕ) → n ≤ j → j < m → P j ≡ false) → any_below P n ≡ any_below P m
unfolding any_below
any_rest P n zero l h = let e : n ≡ 0 = omega arith in ap (any_below P) e
any_rest P n (suc m) l h = go (eq? n (suc m)) (any_rest P n m)
  where
    go : (n ≡ suc m) ⊎ (n ≢ suc m) → (n ≤ m → ((j : ℕ) → n ≤ j → j < m → P j ≡ false) → any_below P n ≡ any_below P m) → any_below P n ≡ (P m || any_below P m)
    go (inl e) r = ap (any_below P) e
    go (inr q) r = r (omega arith) (λ j a b. h j a (omega arith)) ∙ sym (ap (λ (b : Bool). b || any_below P m) (h m (omega arith) (omega arith)))

-- ---- how many below n

pub count_ext : (P Q : ℕ → Bool) (n : ℕ) → ((j : ℕ) → j < n → P j ≡ Q j) → count_below P n ≡ count_below Q n
unfolding count_below
count_ext P Q zero h = refl
count_ext P Q (suc n) h = ap₂ (λ (k : ℕ) (b : Bool). k + bit b) (count_ext P Q n (λ j l. h j (omega arith))) (h n (omega arith))

pub count_none : (P : ℕ → Bool) (n : ℕ) → ((j : ℕ) → j < n → P j ≡ false) → count_below P n ≡ 0
unfolding count_below
count_none P zero h = refl
count_none P (suc n) h = ap₂ (λ (k : ℕ) (b : Bool). k + bit b) (count_none P n (λ j l. h j (omega arith))) (h n (omega arith))

pub count_rest : (P : ℕ → Bool) (n m : ℕ) → n ≤ m → ((j : ℕ) → n ≤ j → j < m → P j ≡ false) → count_below P n ≡ count_below P m
unfolding count_below
count_rest P n zero l h = let e : n ≡ 0 = omega arith in ap (count_below P) e
count_rest P n (suc m) l h = go (eq? n (suc m)) (count_rest P n m)
  where
    go : (n ≡ suc m) ⊎ (n ≢ suc m) → (n ≤ m → ((j : ℕ) → n ≤ j → j < m → P j ≡ false) → count_below P n ≡ count_below P m) → count_below P n ≡ count_below P m + bit (P m)
    go (inl e) r = ap (count_below P) e
    go (inr q) r = r (omega arith) (λ j a b. h j a (omega arith)) ∙ sym (ap (λ (b : Bool). count_below P m + bit b) (h m (omega arith) (omega arith)) ∙ add-zero (count_below P m))

pub count_le : (P : ℕ → Bool) (n m : ℕ) → n ≤ m → count_below P n ≤ count_below P m
unfolding count_below
count_le P n zero l = let e : n ≡ 0 = omega arith in subst (λ (k : ℕ). count_below P k ≤ 0) (sym e) zero-le
count_le P n (suc m) l = go (eq? n (suc m)) (count_le P n m)
  where
    go : (n ≡ suc m) ⊎ (n ≢ suc m) → (n ≤ m → count_below P n ≤ count_below P m) → count_below P n ≤ count_below P m + bit (P m)
    go (inl e) r = subst (λ (k : ℕ). count_below P n ≤ count_below P k) e (le_refl (count_below P n))
    go (inr q) r = let h = r (omega arith) in omega arith

-- ---- tables

module _ {A : Type 0} where
  pub length_tab : (f : ℕ → A) (n k : ℕ) → length (tab f n k) ≡ n
  unfolding tab
  length_tab f zero k = refl
  length_tab f (suc n) k = ap suc (length_tab f n (suc k))

  pub get_d_tab_from : (f : ℕ → A) (n k j : ℕ) (d : A) → j < n → get_or (tab f n k) j d ≡ f (k + j)
  unfolding tab
  get_d_tab_from f zero k j d l = absurd (omega arith)
  get_d_tab_from f (suc n) k zero d l = ap f (omega arith)
  get_d_tab_from f (suc n) k (suc j) d l = get_d_tab_from f n (suc k) j d (omega arith) ∙ ap f (omega arith)

  pub get_d_tab : (f : ℕ → A) (n j : ℕ) (d : A) → j < n → get_or (tab f n 0) j d ≡ f j
  get_d_tab f n j d l = get_d_tab_from f n 0 j d l ∙ ap f (omega arith)

  -- a list is the table of its elements
  pub as_tab : (d : A) (l : List A) (n : ℕ) (f : ℕ → A) → length l ≡ n → ((j : ℕ) → j < n → get_or l j d ≡ f j) → l ≡ tab f n 0
  as_tab d l n f e h = ext_get_or d l (tab f n 0) (e ∙ sym (length_tab f n 0))
      (λ j m. let k : j < n = subst (λ (z : ℕ). j < z) e m in h j k ∙ sym (get_d_tab f n j d k))

  pub tab_get_d : (d : A) (l : List A) (n : ℕ) → length l ≡ n → tab (λ j. get_or l j d) n 0 ≡ l
  tab_get_d d l n e = sym (as_tab d l n (λ j. get_or l j d) e (λ j m. refl))

  pub tab_ext : (d : A) (n : ℕ) (f g : ℕ → A) → ((j : ℕ) → j < n → f j ≡ g j) → tab f n 0 ≡ tab g n 0
  tab_ext d n f g h = as_tab d (tab f n 0) n g (length_tab f n 0) (λ j m. get_d_tab f n j d m ∙ h j m)

  -- an array store is one value changed
  pub set_tab : (d : A) (f : ℕ → A) (n i : ℕ) (v : A) → i < n → set (tab f n 0) i v ≡ tab (upd f i v) n 0
  set_tab d f n i v l = as_tab d (set (tab f n 0) i v) n (upd f i v) (length-set (tab f n 0) i v ∙ length_tab f n 0) at
    where
      at : (j : ℕ) → j < n → get_or (set (tab f n 0) i v) j d ≡ upd f i v j
      at j m = go (eq? j i)
        where
          go : (j ≡ i) ⊎ (j ≢ i) → get_or (set (tab f n 0) i v) j d ≡ upd f i v j
          go (inl e) = rw e (get_or-set_same (tab f n 0) i v d (subst (λ (z : ℕ). i < z) (sym (length_tab f n 0)) l)) ∙ sym (upd_at f i j v e)
          go (inr q) = get_or-set_other (tab f n 0) i j v d q ∙ get_d_tab f n j d m ∙ sym (upd_other f i j v q)

  pub set_list : (d : A) (l : List A) (n i : ℕ) (v : A) → length l ≡ n → i < n → set l i v ≡ tab (upd (λ j. get_or l j d) i v) n 0
  set_list d l n i v e h = ap (λ (z : List A). set z i v) (sym (tab_get_d d l n e)) ∙ set_tab d (λ j. get_or l j d) n i v h

-- ---- a number beyond another, for a match on ranges

pub past : (s k : ℕ) → k ≤ s → (s ≡ k → ⊥) → k < s
past s k l n = omega arith

pub under : (s k : ℕ) → s < suc k → s ≤ k
under s k l = omega arith

pub at_least : (k m s : ℕ) → leb k m ≡ true → m ≤ s → k ≤ s
at_least k m s e l = omega (arith, leb-true k m e)
