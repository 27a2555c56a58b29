-- Places that come one after the other: what a test keeps of a row that came so, and that places loaded in turn stand last, in the order in
-- which they came. Assumes nothing.
use Rattle.std.specs.Prelude.{◌≡◌, Bool, ◌&&◌, ◌||◌, cond, ℕ, zero, suc, ◌+◌, ◌≤◌, ◌<◌}
use Rattle.std.proofs.Math.Path.{refl, sym, ap, ap₂}
use Rattle.std.proofs.Common.{◌∙◌, arith, eqb-true, eq-eqb, ne_eqb}
use Rattle.std.proofs.Math.Bool.{true, false, not}
use mathlib.Core.List.{List, [], ◌∷◌, ◌++◌, append-nil, append_assoc}
use Rattle.std.proofs.Math.Dec.{eqb}
use Rattle.std.proofs.lemmas.Bool.{eqb-false}
use Rattle.sets.proofs.ToldLaws.{Told, yea, nay, told, clash}
use Rattle.order.specs.Row.{keep, later, latest, occurs, counting, counting_row, loaded_row}
use Rattle.order.proofs.RowLaws.{keep_append, occurs_append}

-- ---- what is kept depends on the numbers of the row alone

pub keep_ext : (f g : ℕ → Bool) (row : List ℕ) → ((q : ℕ) → occurs q row ≡ true → f q ≡ g q) → keep f row ≡ keep g row
unfolding keep occurs
keep_ext f g [] h = refl
keep_ext f g (q ∷ row) h = go (h q (rw (eq-eqb q q refl))) (keep_ext f g row (λ r o. h r (also (eqb r q) (occurs r row) o)))
  where
    also : (x y : Bool) → y ≡ true → (x || y) ≡ true
    also true y e = refl
    also false y e = e

    go : f q ≡ g q → keep f row ≡ keep g row → keep f (q ∷ row) ≡ keep g (q ∷ row)
    go e k = ap₂ (λ (b : Bool) (r : List ℕ). cond b (q ∷ r) r) e k

-- those that pass both
pub keep_keep : (f g : ℕ → Bool) (row : List ℕ) → keep f (keep g row) ≡ keep (λ q. g q && f q) row
unfolding keep
keep_keep f g [] = refl
keep_keep f g (q ∷ row) = go (told (g q)) (told (f q)) (keep_keep f g row)
  where
    go : Told (g q) → Told (f q) → keep f (keep g row) ≡ keep (λ q. g q && f q) row → keep f (keep g (q ∷ row)) ≡ keep (λ q. g q && f q) (q ∷ row)
    go (yea e) (yea t) h = rw (e, keep, t) (ap (λ (r : List ℕ). q ∷ r) h)
    go (yea e) (nay t) h = rw (e, keep, t) h
    go (nay e) t h = rw e h

keep_every : (row : List ℕ) → keep (λ _. true) row ≡ row
unfolding keep
keep_every [] = refl
keep_every (q ∷ row) = ap (λ (r : List ℕ). q ∷ r) (keep_every row)

keep_nobody : (row : List ℕ) → keep (λ _. false) row ≡ []
unfolding keep
keep_nobody [] = refl
keep_nobody (q ∷ row) = keep_nobody row

-- where all pass, the row; where none passes, nothing
pub keep_all : (f : ℕ → Bool) (row : List ℕ) → ((q : ℕ) → occurs q row ≡ true → f q ≡ true) → keep f row ≡ row
keep_all f row h = keep_ext f (λ _. true) row h ∙ keep_every row

pub keep_none : (f : ℕ → Bool) (row : List ℕ) → ((q : ℕ) → occurs q row ≡ true → f q ≡ false) → keep f row ≡ []
keep_none f row h = keep_ext f (λ _. false) row h ∙ keep_nobody row

-- ---- some of the later ones become the latest: the others stay in front

pub later_behind : (f : ℕ → Bool) (a b : List ℕ) → ((q : ℕ) → occurs q a ≡ true → f q ≡ false) → later f (a ++ b) ≡ a ++ later f b
unfolding later
later_behind f a b h =
    ap₂ (λ (x y : List ℕ). x ++ y)
    (keep_append (λ q. not (f q)) a b ∙ ap (λ (x : List ℕ). x ++ keep (λ q. not (f q)) b) (keep_all (λ q. not (f q)) a (λ q o. ap not (h q o))))
    (keep_append f a b ∙ ap (λ (x : List ℕ). x ++ keep f b) (keep_none f a h))
    ∙ append_assoc a (keep (λ q. not (f q)) b) (keep f b)

-- ---- each number is counted once

once_from : (n k m : ℕ) → m < k → keep (λ q. eqb q m) (counting n k) ≡ []
unfolding counting keep
once_from zero k m l = refl
once_from (suc n) k m l = rw (ne_eqb k m (λ e. omega arith)) (once_from n (suc k) m (omega arith))

pub counted_once : (n k m : ℕ) → k ≤ m → m < k + n → keep (λ q. eqb q m) (counting n k) ≡ m ∷ []
unfolding counting keep
counted_once zero k m l h = absurd (omega arith)
counted_once (suc n) k m l h = go (told (eqb k m)) (counted_once n (suc k) m)
  where
    go : Told (eqb k m) → (suc k ≤ m → m < suc k + n → keep (λ q. eqb q m) (counting n (suc k)) ≡ m ∷ []) → keep (λ q. eqb q m) (counting (suc n) k) ≡ m ∷ []
    go (yea e) r = rw e (ap₂ (λ (q : ℕ) (row : List ℕ). q ∷ row) (eqb-true k m e) (once_from n (suc k) m (let z = eqb-true k m e in omega arith)))
    go (nay e) r = rw e (r (let z = eqb-false k m e in omega arith) (omega arith))

-- ---- places loaded in turn

module _ (ns : List ℕ) (m : ℕ) (l : m < 64) (o : occurs m ns ≡ false) where
  -- m is none of those before
  new : (q : ℕ) → occurs q ns ≡ true → eqb q m ≡ false
  new q e = ne_eqb q m (λ z. clash (sym (ap (λ (r : ℕ). occurs r ns) z) ∙ e) o)

  -- the numbers that have not come, without m
  fewer : (q : ℕ) → (not (occurs q ns) && not (eqb q m)) ≡ not (occurs q (ns ++ (m ∷ [])))
  unfolding occurs
  fewer q = go (occurs q ns) (eqb q m) ∙ sym (ap not (occurs_append q ns (m ∷ [])))
    where
      go : (x y : Bool) → (not x && not y) ≡ not (x || (y || false))
      go true y = refl
      go false true = refl
      go false false = refl

  -- m is one of them
  only : (q : ℕ) → (not (occurs q ns) && eqb q m) ≡ eqb q m
  only q = go (told (occurs q ns))
    where
      go : Told (occurs q ns) → (not (occurs q ns) && eqb q m) ≡ eqb q m
      go (yea e) = rw e (sym (new q e))
      go (nay e) = rw e

  -- "Loaded places count in file order": one place more, which did not come before, is the latest
  pub loaded_more : latest m (loaded_row ns) ≡ loaded_row (ns ++ (m ∷ []))
  unfolding loaded_row later counting_row
  loaded_more =
      ap₂ (λ (x y : List ℕ). x ++ y)
      (keep_append (λ q. not (eqb q m)) (keep (λ q. not (occurs q ns)) (counting 64 0)) ns
      ∙ ap₂ (λ (x y : List ℕ). x ++ y) (keep_keep (λ q. not (eqb q m)) (λ q. not (occurs q ns)) (counting 64 0) ∙ keep_ext _ _ (counting 64 0) (λ q _. fewer q))
      (keep_all (λ q. not (eqb q m)) ns (λ q e. ap not (new q e))))
      (keep_append (λ q. eqb q m) (keep (λ q. not (occurs q ns)) (counting 64 0)) ns
      ∙ ap₂ (λ (x y : List ℕ). x ++ y)
      (keep_keep (λ q. eqb q m) (λ q. not (occurs q ns)) (counting 64 0) ∙ keep_ext _ _ (counting 64 0) (λ q _. only q) ∙ counted_once 64 0 m (omega arith) (omega arith))
      (keep_none (λ q. eqb q m) ns new))
      ∙ append_assoc (keep (λ q. not (occurs q (ns ++ (m ∷ [])))) (counting 64 0)) ns (m ∷ [])

-- before any came
pub loaded_none : counting_row ≡ loaded_row []
unfolding loaded_row occurs
loaded_none = sym (append-nil (keep (λ _. true) counting_row) ∙ keep_every counting_row)

-- numbers below 64, none of which stands in row or twice
pub data New : List ℕ → List ℕ → Type 0 where
  no_more : {row : List ℕ} → New row []
  one_more : {row ms : List ℕ} (m : ℕ) → m < 64 → occurs m row ≡ false → New (row ++ (m ∷ [])) ms → New row (m ∷ ms)

-- the row after the places ms have come, one after the other
pub in_turn : List ℕ → List ℕ → List ℕ
in_turn [] row = row
in_turn (m ∷ ms) row = in_turn ms (latest m row)

loaded_on : {ns ms : List ℕ} → New ns ms → in_turn ms (loaded_row ns) ≡ loaded_row (ns ++ ms)
unfolding in_turn
loaded_on {ns} no_more = ap loaded_row (sym (append-nil ns))
loaded_on {ns} (one_more {ms = ms} m l o n) = ap (in_turn ms) (loaded_more ns m l o) ∙ loaded_on n ∙ ap loaded_row (append_assoc ns (m ∷ []) ms)

-- different places that come one after the other from a bare floor stand last, in the order in which they came, behind all others
pub loaded_all : {ms : List ℕ} → New [] ms → in_turn ms counting_row ≡ loaded_row ms
loaded_all {ms} n = ap (in_turn ms) loaded_none ∙ loaded_on n
