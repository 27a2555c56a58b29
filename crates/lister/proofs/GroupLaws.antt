-- A walk over a set that puts each member into the set of its key. Assumes nothing.
-- Idea: before turn i the set of p has the members below i whose key is p.
use Rattle.std.specs.Prelude.{Some, ◌≡◌, ◌≢◌, ◌⊎◌, Bool, true, false, ◌&&◌, List, ℕ, ◌+◌, ◌<◌, ◌≤◌, eqb, ltb, set, replicate}
use Rattle.std.proofs.Math.Path.{refl, ap}
use Rattle.std.proofs.Common.{sym, ◌∙◌, inl, inr, arith, eq-eqb, ne_eqb, lt-ltb, ltb-true, ltb-false}
use Rattle.std.proofs.Math.Bool.{cond}
use Rattle.std.proofs.Math.ListN.{get_or}
use Rattle.std.proofs.lemmas.List.{length-replicate, get_or-replicate}
use Rattle.sets.specs.Word.{upto}
use Rattle.sets.specs.Set.{member, set_of, inserted, empty_set}
use Rattle.sets.proofs.SetLaws.{set_ext, collect_none, collect_more}
use Rattle.sets.proofs.WalkLaws.{rest_member, rest_from, rest_skip, rest_end, turn_more}
use Rattle.sets.specs.Walk.{lowest_in, Rest, TakesLowest}
use Rattle.sets.specs.declared.Set.{Set}
use Rattle.table.specs.Base.{upd, tab}
use Rattle.table.proofs.BaseLaws.{Told, yea, nay, told, eq?, upd_at, upd_other, get_d_tab, as_tab, tab_ext, set_tab}
use Rattle.table.specs.Cell.{no_place, no_agent, has_unused}
use Rattle.table.specs.declared.Agent.{Agent}
use Rattle.table.specs.declared.Place.{Place}
use Rattle.lister.specs.Listed.{parents_of, is_listed, homes_of, grouped_of, filed}

-- the key of a place is the place that it stands in
pub parent_key : (ps : List Place) (q k : ℕ) → k ≡ q → q < 64 → cond (eqb q 0) 64 (get_or ps k no_place).parent ≡ get_or (parents_of ps) q 0
unfolding parents_of
parent_key ps q k e l = rw e (sym (get_d_tab (λ j. cond (eqb j 0) 64 (get_or ps j no_place).parent) 64 q 0 l))

-- and that of an agent its home, where it has unused actions
pub home_key : (given : Set) (crew : List Agent) (x k : ℕ) → k ≡ x → x < 64 → member given x ≡ true
    → cond (has_unused (get_or crew k no_agent)) (get_or crew k no_agent).home 64 ≡ get_or (homes_of given crew) x 0
unfolding homes_of
home_key given crew x k e l m = rw e (ap (λ (b : Bool). cond (b && has_unused (get_or crew x no_agent)) (get_or crew x no_agent).home 64) (sym m)
    ∙ sym (get_d_tab (λ j. cond (is_listed given crew j) (get_or crew j no_agent).home 64) 64 x 0 l))

-- the members of f below m are those below i, where there are none between
set_skip : (f : ℕ → Bool) (i m : ℕ) → i ≤ m → ((j : ℕ) → i ≤ j → j < m → f j ≡ false) → set_of (upto i f) ≡ set_of (upto m f)
set_skip f i m l h = set_ext _ _ (λ j _. go j (told (ltb j i)) (told (ltb j m)))
  where
    go : (j : ℕ) → Told (ltb j i) → Told (ltb j m) → (ltb j i && f j) ≡ (ltb j m && f j)
    go j (yea s) t = rw (s, lt-ltb j m (omega (arith, ltb-true j i s)))
    go j (nay s) (yea t) = rw (s, t) (sym (h j (ltb-false j i s) (ltb-true j m t)))
    go j (nay s) (nay t) = rw (s, t)

module _ (s : Set) (keys : List ℕ) where
  -- x is a member and its key is p
  abbrev keyed : ℕ → ℕ → Bool
  keyed p x = member s x && eqb (get_or keys x 0) p

  -- the sets before turn i
  abbrev pub sets_to : ℕ → List Set
  sets_to i = tab (λ p. set_of (upto i (keyed p))) 64 0

  none_keyed : (p x : ℕ) → get_or keys x 0 ≢ p → keyed p x ≡ false
  none_keyed p x n = ap (λ (b : Bool). member s x && b) (ne_eqb (get_or keys x 0) p n) ∙ never (member s x)
    where
      never : (b : Bool) → (b && false) ≡ false
      never true = refl
      never false = refl

  pub sets_none : replicate 64 empty_set ≡ sets_to 0
  sets_none = as_tab empty_set (replicate 64 empty_set) 64 _ (length-replicate {A = Set} 64 empty_set) (λ p l. get_or-replicate {A = Set} 64 p empty_set empty_set l ∙ collect_none (keyed p))

  skip_to : (i m : ℕ) → i ≤ m → ((j : ℕ) → i ≤ j → j < m → member s j ≡ false) → sets_to i ≡ sets_to m
  skip_to i m l h = tab_ext empty_set 64 _ _ (λ p _. set_skip (keyed p) i m l (λ j a b. ap (λ (z : Bool). z && eqb (get_or keys j 0) p) (h j a b)))

  -- the set of the member's key has it, and the others stay
  put_in : (m k : ℕ) → k < 64 → k ≡ get_or keys m 0 → member s m ≡ true → (w : List Set) → w ≡ sets_to m → set w k (inserted (get_or w k empty_set) m) ≡ sets_to (m + 1)
  put_in m k l e t w q =
      ap (λ (z : List Set). set z k v) q ∙ set_tab empty_set (λ p. set_of (upto m (keyed p))) 64 k v l ∙ tab_ext empty_set 64 _ _ (λ p _. at p (eq? p k))
    where
      v : Set
      v = inserted (get_or w k empty_set) m

      own : get_or w k empty_set ≡ set_of (upto m (keyed k))
      own = ap (λ (z : List Set). get_or z k empty_set) q ∙ get_d_tab (λ p. set_of (upto m (keyed p))) 64 k empty_set l

      grows : v ≡ set_of (upto (m + 1) (keyed k))
      grows = collect_more (keyed k) (get_or w k empty_set) m true (sym (rw (t, eq-eqb (get_or keys m 0) k (sym e)))) own

      at : (p : ℕ) → (p ≡ k) ⊎ (p ≢ k) → upd (λ p. set_of (upto m (keyed p))) k v p ≡ set_of (upto (m + 1) (keyed p))
      at p (inl z) = upd_at _ k p v z ∙ grows ∙ ap (λ (j : ℕ). set_of (upto (m + 1) (keyed j))) (sym z)
      at p (inr z) = upd_other _ k p v z ∙ set_skip (keyed p) m (m + 1) (omega arith) (λ j a b. none_keyed p j (λ y. z (sym (e ∙ ap (λ (i : ℕ). get_or keys i 0) (here j a b) ∙ y))))
        where
          here : (j : ℕ) → m ≤ j → j < m + 1 → m ≡ j
          here j a b = omega arith

  -- a key that is not below 64 is none
  left_out : (m : ℕ) → 64 ≤ get_or keys m 0 → sets_to m ≡ sets_to (m + 1)
  left_out m l = tab_ext empty_set 64 _ _ (λ p b. set_skip (keyed p) m (m + 1) (omega arith) (λ j a z. none_keyed p j (λ y. absurd (far j p a z b y))))
    where
      far : (j p : ℕ) → m ≤ j → j < m + 1 → p < 64 → get_or keys j 0 ≡ p → ⊥
      far j p a z b y = let e : m ≡ j = omega arith in let f = ap (λ (i : ℕ). get_or keys i 0) e in omega arith

  module _ {i : ℕ} {left : Set} (r : Rest (member s) i left) where
    reach : (k : 0 < left.bits) (w : List Set) → w ≡ sets_to i → w ≡ sets_to (lowest_in left)
    reach k w q = q ∙ skip_to i (lowest_in left) (rest_from r k) (rest_skip r k)

    pub sets_all : left.bits ≡ 0 → (w : List Set) → w ≡ sets_to i → w ≡ grouped_of s keys
    unfolding grouped_of
    sets_all h w q = q ∙ skip_to i 64 r.end (rest_end r h) ∙ tab_ext empty_set 64 _ _ (λ p _. set_ext _ _ (λ j l. ap (λ (z : Bool). z && keyed p j) (lt-ltb j 64 l)))

    -- the member of a turn, put into the set of its key
    pub sets_filed : 0 < left.bits → (x k : ℕ) (w v : List Set) → x ≡ lowest_in left → k ≡ get_or keys x 0 → v ≡ filed w k x → w ≡ sets_to i → v ≡ sets_to (x + 1)
    unfolding filed
    sets_filed h x k w v e f u q = u ∙ ap (λ (j : ℕ). cond (ltb k 64) (set w k (inserted (get_or w k empty_set) j)) w) e ∙ go (told (ltb k 64)) ∙ ap (λ (j : ℕ). sets_to (j + 1)) (sym e)
      where
        key : k ≡ get_or keys (lowest_in left) 0
        key = f ∙ ap (λ (j : ℕ). get_or keys j 0) e

        go : Told (ltb k 64) → cond (ltb k 64) (set w k (inserted (get_or w k empty_set) (lowest_in left))) w ≡ sets_to (lowest_in left + 1)
        go (yea t) = rw t (put_in (lowest_in left) k (ltb-true k 64 t) key (rest_member r h) w (reach h w q))
        go (nay t) = rw t (reach h w q ∙ left_out (lowest_in left) (let z = ltb-false k 64 t in omega (arith, key)))

    -- the same of a turn of a `for`
    pub sets_turned : {x : ℕ} {t : Set} → TakesLowest left (Some x) t → (k : ℕ) (w v : List Set) → k ≡ get_or keys x 0 → v ≡ filed w k x → w ≡ sets_to i
        → (j : ℕ) × (Rest (member s) j t × (v ≡ sets_to j))
    sets_turned {x} h k w v f u q = (x + 1, (turn_more r h, sets_filed h.0 x k w v h.1.0 f u q))
