-- The way to the floor, followed from place to place. Assumes nothing.
-- Idea: as many steps as there are known places lead each of them to the floor, since a place more needs one step more; a way that comes back to
-- itself goes round the same places for ever, and the floor is none of them.
use Rattle.std.specs.Prelude.{◌≡◌, ◌≢◌, ◌⊎◌, Bool, true, false, ◌||◌, List, eqb, ltb, get_or}
use Rattle.std.proofs.Math.Path.{refl}
use Rattle.std.proofs.Common.{sym, ap, ◌∙◌, subst, inr, not-suc-le-zero, arith, eq-eqb, eqb-true, ne_eqb, ltb-true, ltb-false}
use Rattle.std.proofs.Math.Logic.{inl}
use Prim.Native.Nat.{ℕ, zero, suc, ◌+◌, ◌-◌, ◌≤◌, ◌<◌}
use Rattle.sets.specs.Word.{bit}
use Rattle.sets.proofs.WordLaws.{has_past, word_lt}
use Rattle.sets.specs.Set.{member, inserted}
use Rattle.sets.proofs.SetLaws.{member_inserted}
use Rattle.sets.specs.declared.Set.{Set}
use Rattle.table.specs.Base.{count_below, iter}
use Rattle.table.proofs.BaseLaws.{Told, yea, nay, told, clash, eq?, iter_add, count_ext}
use Rattle.soundness.specs.Lead.{above, Leading, Ways, Followed}

-- ---- steps

module _ (f : ℕ → ℕ) where
  -- one step more, after the others
  iter_last : (n q : ℕ) → iter f (suc n) q ≡ f (iter f n q)
  unfolding iter
  iter_last zero q = refl
  iter_last (suc n) q = iter_last n (f q)

  -- what is at the floor stays there
  pub iter_stays : f 0 ≡ 0 → (n m q : ℕ) → n ≤ m → iter f n q ≡ 0 → iter f m q ≡ 0
  iter_stays z n zero q l e = let k : n ≡ 0 = omega arith in subst (λ (i : ℕ). iter f i q ≡ 0) k e
  iter_stays z n (suc m) q l e = go (eq? n (suc m)) (iter_stays z n m q)
    where
      go : (n ≡ suc m) ⊎ (n ≢ suc m) → (n ≤ m → iter f n q ≡ 0 → iter f m q ≡ 0) → iter f (suc m) q ≡ 0
      go (inl k) h = subst (λ (i : ℕ). iter f i q ≡ 0) k e
      go (inr k) h = iter_last m q ∙ ap f (h (omega arith) e) ∙ z

  -- steps that come back to a place passed lead to no other
  round : (known : Set) (q steps i : ℕ) → i < steps → iter f steps q ≡ iter f i q → ((k : ℕ) → k < steps → member known (iter f k q) ≡ false)
      → (m n : ℕ) → n ≤ m → member known (iter f n q) ≡ false
  round known q steps i l e fresh zero n k = fresh n (omega arith)
  round known q steps i l e fresh (suc m) n k = go (told (ltb n steps)) (round known q steps i l e fresh m (i + (n - steps)))
    where
      go : Told (ltb n steps) → (i + (n - steps) ≤ m → member known (iter f (i + (n - steps)) q) ≡ false) → member known (iter f n q) ≡ false
      go (yea t) h = fresh n (ltb-true n steps t)
      go (nay t) h =
          let b = ltb-false n steps t in
          let d = n - steps in
          let whole : n ≡ steps + d = omega arith in
          ap (member known) (ap (λ (j : ℕ). iter f j q) whole ∙ iter_add f steps d q ∙ ap (iter f d) e ∙ sym (iter_add f i d q)) ∙ h (omega arith)

-- ---- a member more

pub count_most : (P : ℕ → Bool) (n : ℕ) → count_below P n ≤ n
unfolding count_below
count_most P zero = omega arith
count_most P (suc n) = let h = count_most P n in let b = bit_most (P n) in omega arith
  where
    bit_most : (b : Bool) → bit b ≤ 1
    bit_most true = omega arith
    bit_most false = omega arith

count_one : (P Q : ℕ → Bool) (q : ℕ) → P q ≡ false → Q q ≡ true → (n : ℕ) → ((j : ℕ) → j < n → j ≢ q → Q j ≡ P j) → q < n → count_below Q n ≡ count_below P n + 1
unfolding count_below
count_one P Q q out is zero same l = absurd (not-suc-le-zero l)
count_one P Q q out is (suc n) same l = go (eq? n q) (count_one P Q q out is n (λ j k. same j (omega arith)))
  where
    go : (n ≡ q) ⊎ (n ≢ q) → (q < n → count_below Q n ≡ count_below P n + 1) → count_below Q n + bit (Q n) ≡ count_below P n + bit (P n) + 1
    go (inl e) h =
        let z : bit (Q n) ≡ 1 = ap bit (ap Q e ∙ is) in
        let y : bit (P n) ≡ 0 = ap bit (ap P e ∙ out) in
        let r = count_ext Q P n (λ j k. same j (omega arith) (λ m. omega arith)) in
        omega arith
    go (inr e) h = let r = h (omega arith) in let b = ap bit (same n (omega arith) e) in omega arith

module _ (s : Set) (q : ℕ) (l : q < 64) where
  -- what a member of the set with q is
  pub inserted_is : (j : ℕ) → member (inserted s q) j ≡ true → (j ≡ q) ⊎ (member s j ≡ true)
  inserted_is j e = small (told (ltb j 64))
    where
      or_is : (a b : Bool) → (a || b) ≡ true → (a ≡ true) ⊎ (b ≡ true)
      or_is true b t = inl refl
      or_is false b t = inr t

      one : (eqb j q ≡ true) ⊎ (member s j ≡ true) → (j ≡ q) ⊎ (member s j ≡ true)
      one (inl t) = inl (eqb-true j q t)
      one (inr t) = inr t

      small : Told (ltb j 64) → (j ≡ q) ⊎ (member s j ≡ true)
      small (yea t) = one (or_is (eqb j q) (member s j) (sym (member_inserted s q j (ltb-true j 64 t)) ∙ e))
      small (nay t) = clash e (has_past 64 (inserted s q).bits j (word_lt 64 _) (ltb-false j 64 t))

  pub inserted_own : member (inserted s q) q ≡ true
  inserted_own = member_inserted s q q l ∙ ap (λ (b : Bool). b || member s q) (eq-eqb q q refl)

  pub inserted_keeps : (j : ℕ) → j < 64 → member s j ≡ true → member (inserted s q) j ≡ true
  inserted_keeps j k e = member_inserted s q j k ∙ rw e (or_true (eqb j q))
    where
      or_true : (b : Bool) → (b || true) ≡ true
      or_true true = refl
      or_true false = refl

  pub count_inserted : member s q ≡ false → count_below (member (inserted s q)) 64 ≡ count_below (member s) 64 + 1
  count_inserted e = count_one (member s) (member (inserted s q)) q e inserted_own 64 (λ j k n. member_inserted s q j k ∙ ap (λ (b : Bool). b || member s j) (ne_eqb j q n)) l

  -- a member more does not make the members fewer
  count_grows : count_below (member s) 64 ≤ count_below (member (inserted s q)) 64
  count_grows = go (told (member s q))
    where
      same : member s q ≡ true → (j : ℕ) → j < 64 → member (inserted s q) j ≡ member s j
      same t j k = member_inserted s q j k ∙ own (told (eqb j q))
        where
          own : Told (eqb j q) → (eqb j q || member s j) ≡ member s j
          own (yea y) = rw y (sym (ap (member s) (eqb-true j q y) ∙ t))
          own (nay y) = rw y

      go : Told (member s q) → count_below (member s) 64 ≤ count_below (member (inserted s q)) 64
      go (yea t) = let r = count_ext (member (inserted s q)) (member s) 64 (same t) in omega arith
      go (nay t) = let r = count_inserted t in omega arith

-- where a place leads, one that stands on it does
pub leading_more : (f : ℕ → ℕ) (s : Set) (q : ℕ) → f 0 ≡ 0 → q < 64 → member s (f q) ≡ true → Leading f s → Leading f (inserted s q)
unfolding iter
leading_more f s q z l on h j e = go (inserted_is s q l j e) (told (member s q))
  where
    N : ℕ
    N = count_below (member (inserted s q)) 64

    go : (j ≡ q) ⊎ (member s j ≡ true) → Told (member s q) → iter f N j ≡ 0
    go (inr t) d = iter_stays f z (count_below (member s) 64) N j (count_grows s q l) (h j t)
    go (inl t) (yea d) = iter_stays f z (count_below (member s) 64) N j (count_grows s q l) (h j (ap (member s) t ∙ d))
    go (inl t) (nay d) =
        let n : N ≡ suc (count_below (member s) 64) = let r = count_inserted s q l d in omega arith in
        ap (iter f N) t ∙ ap (λ (k : ℕ). iter f k q) n ∙ h (f q) on

-- ---- the way from one place

module _ (up : List ℕ) (known : Set) (q : ℕ) where
  abbrev f : ℕ → ℕ
  f = above up

  -- after some steps from q at p: the path has the known places and those passed, none of which was known
  pub record Path (path : Set) (p : ℕ) : Type 0 where
    pub steps : ℕ
    pub at : p ≡ iter (above up) steps q
    pub start : q < 64
    pub small : p < 64
    pub size : count_below (member path) 64 ≡ count_below (member known) 64 + steps
    pub kept : (j : ℕ) → j < 64 → member known j ≡ true → member path j ≡ true
    pub back : (j : ℕ) → member path j ≡ true → (member known j ≡ true) ⊎ ((i : ℕ) × ((i < steps) × (j ≡ iter (above up) i q)))
    pub fresh : (i : ℕ) → i < steps → member known (iter (above up) i q) ≡ false
    pub own : (steps ≡ 0) ⊎ (member path q ≡ true)

  pub path_start : q < 64 → Path known q
  unfolding iter
  path_start l = record {
    steps = 0;
    at = refl;
    start = l;
    small = l;
    size = omega arith;
    kept = λ j k e. e;
    back = λ j e. inl e;
    fresh = λ i k. absurd (not-suc-le-zero k);
    own = inl refl;
  }

  module _ (path : Set) (p : ℕ) (o : Path path p) where
    -- a place that is on no path so far is passed
    pub path_more : ((j : ℕ) → get_or up j 0 < 64) → member path p ≡ false → Path (inserted path p) (get_or up p 0)
    path_more small e = record {
      steps = suc n;
      at = ap f o.at ∙ sym (iter_last f n q);
      start = o.start;
      small = small p;
      size = count_inserted path p o.small e ∙ (let r = o.size in omega arith);
      kept = λ j k t. inserted_keeps path p o.small j k (o.kept j k t);
      back = λ j t. back j (inserted_is path p o.small j t);
      fresh = λ i k. fresh i k (eq? i n);
      own = inr (own o.own);
    }
      where
        n : ℕ
        n = o.steps

        sooner : (j : ℕ) → (member known j ≡ true) ⊎ ((i : ℕ) × ((i < n) × (j ≡ iter (above up) i q))) → (member known j ≡ true) ⊎ ((i : ℕ) × ((i < suc n) × (j ≡ iter (above up) i q)))
        sooner j (inl t) = inl t
        sooner j (inr s) = inr (s.0, (let l = s.1.0 in omega arith, s.1.1))

        back : (j : ℕ) → (j ≡ p) ⊎ (member path j ≡ true) → (member known j ≡ true) ⊎ ((i : ℕ) × ((i < suc n) × (j ≡ iter (above up) i q)))
        back j (inl t) = inr (n, (omega arith, t ∙ o.at))
        back j (inr t) = sooner j (o.back j t)

        unknown : Told (member known p) → member known p ≡ false
        unknown (yea t) = clash (o.kept p o.small t) e
        unknown (nay t) = t

        fresh : (i : ℕ) → i < suc n → (i ≡ n) ⊎ (i ≢ n) → member known (iter (above up) i q) ≡ false
        fresh i k (inl t) = ap (λ (m : ℕ). member known (iter f m q)) t ∙ ap (member known) (sym o.at) ∙ unknown (told (member known p))
        fresh i k (inr t) = o.fresh i (omega arith)

        own : (n ≡ 0) ⊎ (member path q ≡ true) → member (inserted path p) q ≡ true
        own (inl t) = ap (member (inserted path p)) (sym (o.at ∙ ap (λ (m : ℕ). iter f m q) t ∙ none)) ∙ inserted_own path p o.small
          where
            none : iter f 0 q ≡ q
            none = unfold iter in refl
        own (inr t) = inserted_keeps path p o.small q o.start t

    -- a known place is reached, and so every place passed leads to the floor
    pub path_found : Ways up known → member known p ≡ true → member path p ≡ true → Followed up known q path
    path_found w is e = record { leading = λ j t. leads j (o.back j t); kept = o.kept; lost = λ t. clash (own o.own) t }
      where
        N : ℕ
        N = count_below (member path) 64

        m : ℕ
        m = count_below (member known) 64

        size : N ≡ m + o.steps
        size = o.size

        leads : (j : ℕ) → (member known j ≡ true) ⊎ ((i : ℕ) × ((i < o.steps) × (j ≡ iter (above up) i q))) → iter f N j ≡ 0
        leads j (inl t) = iter_stays f w.floor m N j (let r = size in omega arith) (w.leading j t)
        leads j (inr (i, (l, t))) =
            let d = o.steps - i in
            let k : i + d ≡ o.steps = omega arith in
            iter_stays f w.floor (d + m) N j (let r = size in omega arith)
            (iter_add f d m j ∙ ap (iter f m) (ap (iter f d) t ∙ sym (iter_add f i d q) ∙ ap (λ (n : ℕ). iter f n q) k ∙ sym o.at) ∙ w.leading p is)

        own : (o.steps ≡ 0) ⊎ (member path q ≡ true) → member path q ≡ true
        own (inl t) = ap (member path) (sym (o.at ∙ ap (λ (n : ℕ). iter f n q) t ∙ none)) ∙ e
          where
            none : iter f 0 q ≡ q
            none = unfold iter in refl
        own (inr t) = t

    -- a place of the path itself is reached, and so no step from q leads to a known place
    pub path_lost : Ways up known → member known p ≡ false → member path p ≡ true → Followed up known q known
    path_lost w out e = record { leading = w.leading; kept = λ j k t. t; lost = λ t n z. clash w.first (ap (member known) (sym z) ∙ away n) }
      where
        again : (member known p ≡ true) ⊎ ((i : ℕ) × ((i < o.steps) × (p ≡ iter (above up) i q))) → (i : ℕ) × ((i < o.steps) × (p ≡ iter (above up) i q))
        again (inl t) = clash t out
        again (inr s) = s

        away : (n : ℕ) → member known (iter f n q) ≡ false
        away n = let (i, (l, t)) = again (o.back p e) in round f known q o.steps i l (sym o.at ∙ t) o.fresh n n (omega arith)
