-- A walk over a set that puts each member into the word of its key. Assumes nothing.
-- Idea: before turn i the word of p has the members below i whose key is p.
use Rattle.std.specs.Prelude.{◌≡◌, ◌≢◌, ◌⊎◌, Bool, true, false, ◌&&◌, List, ℕ, ◌+◌, ◌<◌, ◌≤◌, eqb, ltb, set, replicate}
use Rattle.std.proofs.Math.Path.{refl, ap}
use Rattle.std.proofs.Common.{sym, ◌∙◌, inl, inr, arith, eq-eqb, ne_eqb, lt-ltb, ltb-true, ltb-false}
use Rattle.std.proofs.Math.Bool.{cond}
use Rattle.std.proofs.Math.ListN.{get_or}
use Rattle.std.proofs.lemmas.List.{length-replicate, get_or-replicate}
use Rattle.sets.specs.Word.{word_of, upto}
use Rattle.sets.proofs.WordLaws.{word_ext}
use Rattle.sets.specs.Set.{member, inserted}
use Rattle.sets.proofs.SetLaws.{collect_none, collect_more}
use Rattle.sets.proofs.WalkLaws.{rest_member, rest_from, rest_skip, rest_end}
use Rattle.sets.specs.Walk.{lowest_in, Rest}
use Rattle.sets.specs.declared.Set.{Set}
use Rattle.table.specs.Base.{upd, tab}
use Rattle.table.proofs.BaseLaws.{Told, yea, nay, told, eq?, upd_at, upd_other, get_d_tab, as_tab, tab_ext, set_tab}
use Rattle.walked.specs.Groups.{grouped_of, filed}

-- the members of f below m are those below i, where there are none between
word_skip : (f : ℕ → Bool) (i m : ℕ) → i ≤ m → ((j : ℕ) → i ≤ j → j < m → f j ≡ false) → word_of 64 (upto i f) ≡ word_of 64 (upto m f)
word_skip f i m l h = word_ext 64 _ _ (λ j _. go j (told (ltb j i)) (told (ltb j m)))
  where
    go : (j : ℕ) → Told (ltb j i) → Told (ltb j m) → (ltb j i && f j) ≡ (ltb j m && f j)
    go j (yea s) t = rw (s, lt-ltb j m (omega (arith, ltb-true j i s)))
    go j (nay s) (yea t) = rw (s, t) (sym (h j (ltb-false j i s) (ltb-true j m t)))
    go j (nay s) (nay t) = rw (s, t)

module _ (s : Set) (keys : List ℕ) where
  -- x is a member and its key is p
  abbrev keyed : ℕ → ℕ → Bool
  keyed p x = member s x && eqb (get_or keys x 0) p

  -- the words before turn i
  abbrev pub words_to : ℕ → List ℕ
  words_to i = tab (λ p. word_of 64 (upto i (keyed p))) 64 0

  none_keyed : (p x : ℕ) → get_or keys x 0 ≢ p → keyed p x ≡ false
  none_keyed p x n = ap (λ (b : Bool). member s x && b) (ne_eqb (get_or keys x 0) p n) ∙ never (member s x)
    where
      never : (b : Bool) → (b && false) ≡ false
      never true = refl
      never false = refl

  pub words_none : replicate 64 0 ≡ words_to 0
  words_none = as_tab 0 (replicate 64 0) 64 _ (length-replicate {A = ℕ} 64 0) (λ p l. get_or-replicate {A = ℕ} 64 p 0 0 l ∙ ap (λ (z : Set). z.bits) (collect_none (keyed p)))

  skip_to : (i m : ℕ) → i ≤ m → ((j : ℕ) → i ≤ j → j < m → member s j ≡ false) → words_to i ≡ words_to m
  skip_to i m l h = tab_ext 0 64 _ _ (λ p _. word_skip (keyed p) i m l (λ j a b. ap (λ (z : Bool). z && eqb (get_or keys j 0) p) (h j a b)))

  -- the word of the member's key has it, and the others stay
  put_in : (m k : ℕ) → k < 64 → k ≡ get_or keys m 0 → member s m ≡ true → (w : List ℕ) → w ≡ words_to m → set w k (inserted (record { bits = get_or w k 0 }) m).bits ≡ words_to (m + 1)
  put_in m k l e t w q =
      ap (λ (z : List ℕ). set z k v) q ∙ set_tab 0 (λ p. word_of 64 (upto m (keyed p))) 64 k v l ∙ tab_ext 0 64 _ _ (λ p _. at p (eq? p k))
    where
      v : ℕ
      v = (inserted (record { bits = get_or w k 0 }) m).bits

      own : get_or w k 0 ≡ word_of 64 (upto m (keyed k))
      own = ap (λ (z : List ℕ). get_or z k 0) q ∙ get_d_tab (λ p. word_of 64 (upto m (keyed p))) 64 k 0 l

      grows : v ≡ word_of 64 (upto (m + 1) (keyed k))
      grows = ap (λ (z : Set). z.bits) (collect_more (keyed k) (record { bits = get_or w k 0 }) m true (sym (rw (t, eq-eqb (get_or keys m 0) k (sym e)))) (λ i. record { bits = own i }))

      at : (p : ℕ) → (p ≡ k) ⊎ (p ≢ k) → upd (λ p. word_of 64 (upto m (keyed p))) k v p ≡ word_of 64 (upto (m + 1) (keyed p))
      at p (inl z) = upd_at _ k p v z ∙ grows ∙ ap (λ (j : ℕ). word_of 64 (upto (m + 1) (keyed j))) (sym z)
      at p (inr z) = upd_other _ k p v z ∙ word_skip (keyed p) m (m + 1) (omega arith) (λ j a b. none_keyed p j (λ y. z (sym (e ∙ ap (λ (i : ℕ). get_or keys i 0) (here j a b) ∙ y))))
        where
          here : (j : ℕ) → m ≤ j → j < m + 1 → m ≡ j
          here j a b = omega arith

  -- a key that is not below 64 is none
  left_out : (m : ℕ) → 64 ≤ get_or keys m 0 → words_to m ≡ words_to (m + 1)
  left_out m l = tab_ext 0 64 _ _ (λ p b. word_skip (keyed p) m (m + 1) (omega arith) (λ j a z. none_keyed p j (λ y. absurd (far j p a z b y))))
    where
      far : (j p : ℕ) → m ≤ j → j < m + 1 → p < 64 → get_or keys j 0 ≡ p → ⊥
      far j p a z b y = let e : m ≡ j = omega arith in let f = ap (λ (i : ℕ). get_or keys i 0) e in omega arith

  module _ {i : ℕ} {left : Set} (r : Rest (member s) i left) where
    reach : (k : 0 < left.bits) (w : List ℕ) → w ≡ words_to i → w ≡ words_to (lowest_in left)
    reach k w q = q ∙ skip_to i (lowest_in left) (rest_from r k) (rest_skip r k)

    words_more : 0 < left.bits → (x k : ℕ) (t : Set) (w : List ℕ) → x ≡ lowest_in left → k ≡ get_or keys x 0 → k < 64 → t ≡ inserted (record { bits = get_or w k 0 }) x → w ≡ words_to i
        → set w k t.bits ≡ words_to (lowest_in left + 1)
    words_more h x k t w e f l u q =
        ap (λ (z : Set). set w k z.bits) u ∙ ap (λ (j : ℕ). set w k (inserted (record { bits = get_or w k 0 }) j).bits) e
        ∙ put_in (lowest_in left) k l (f ∙ ap (λ (j : ℕ). get_or keys j 0) e) (rest_member r h) w (reach h w q)

    words_same : 0 < left.bits → (x k : ℕ) (w : List ℕ) → x ≡ lowest_in left → k ≡ get_or keys x 0 → 64 ≤ k → w ≡ words_to i → w ≡ words_to (lowest_in left + 1)
    words_same h x k w e f l q = reach h w q ∙ left_out (lowest_in left) (let z = f ∙ ap (λ (j : ℕ). get_or keys j 0) e in omega arith)

    pub words_all : left.bits ≡ 0 → (w : List ℕ) → w ≡ words_to i → w ≡ grouped_of s keys
    unfolding grouped_of
    words_all h w q = q ∙ skip_to i 64 r.end (rest_end r h) ∙ tab_ext 0 64 _ _ (λ p _. word_ext 64 _ _ (λ j l. ap (λ (z : Bool). z && keyed p j) (lt-ltb j 64 l)))

    -- the member of a turn, put into the word of its key
    pub words_filed : 0 < left.bits → (x k : ℕ) (w v : List ℕ) → x ≡ lowest_in left → k ≡ get_or keys x 0 → v ≡ filed w k x → w ≡ words_to i → v ≡ words_to (x + 1)
    unfolding filed
    words_filed h x k w v e f u q = u ∙ go (told (ltb k 64)) ∙ ap (λ (j : ℕ). words_to (j + 1)) (sym e)
      where
        go : Told (ltb k 64) → cond (ltb k 64) (set w k (inserted (record { bits = get_or w k 0 }) x).bits) w ≡ words_to (lowest_in left + 1)
        go (yea t) = rw t (words_more h x k (inserted (record { bits = get_or w k 0 }) x) w e f (ltb-true k 64 t) refl q)
        go (nay t) = rw t (words_same h x k w e f (ltb-false k 64 t) q)

    -- a turn of a member that has no key below 64
    pub words_left : 0 < left.bits → (x : ℕ) (w : List ℕ) → x ≡ lowest_in left → 64 ≤ get_or keys x 0 → w ≡ words_to i → w ≡ words_to (x + 1)
    words_left h x w e l q = words_same h x (get_or keys x 0) w e refl l q ∙ ap (λ (j : ℕ). words_to (j + 1)) (sym e)
