-- The term of a formed tree has one ambient for each place but the floor; so it has room exactly if a number is unused: `room_ambients`.
-- Idea: a place is counted once for each time that the way up from it meets the floor; sums over the places above and below change places.
use Rattle.std.proofs.Math.Path.{◌≡◌, refl, sym, ap, ap₂}
use Rattle.std.proofs.Common.{◌∙◌, inl, inr, arith, eq-eqb, ne_eqb, ltb-true, ltb-false, lt-ltb, le-ltb}
use Rattle.std.specs.Prelude.{◌≢◌, ◌⊎◌, List, Bool, ◌&&◌, ltb, eqb}
use Rattle.std.proofs.Math.Bool.{true, false, not, cond}
use Prim.Native.Nat.{ℕ, zero, suc, ◌+◌, ◌≤◌, ◌<◌}
use Rattle.table.specs.Base.{upd, sum_below, iter}
use Rattle.table.proofs.BaseLaws.{Told, yea, nay, told, clash, eq?, upd_all}
use Rattle.table.proofs.SumLaws.{sum_ext, sum_le, sum_none, sum_add, sum_swap, sum_upd}
use Rattle.table.specs.Cell.{fresh_number}
use Rattle.table.proofs.FreshLaws.{fresh_unused, fresh_none}
use Rattle.table.specs.declared.Action.{Action}
use Rattle.meaning.specs.Calculus.{Tree, stands_at, has_room}
use Rattle.calculus.proofs.Up.{iter_out, sixty_three}
use Rattle.calculus.specs.Formed.{Formed}
use Rattle.calculus.specs.Terms.{Term, amb, nil, weigh, ambients, room}
use Rattle.calculus.specs.TermOf.{row, parallel, agent_at, place_at, level, contents, term}
use Rattle.calculus.proofs.Weights.{parallel_weighs, row_weighs}
use Rattle.calculus.proofs.Contents.{agent_is, agent_not}

-- ---- sums

-- a test in front of every part
sum_when : (b : Bool) (f : ℕ → ℕ) (n : ℕ) → sum_below (λ i. cond b (f i) 0) n ≡ cond b (sum_below f n) 0
sum_when true f n = refl
sum_when false f n = sum_none n

-- all parts but one are 0
sum_pick : (f : ℕ → ℕ) (q n : ℕ) → q < n → ((r : ℕ) → r ≢ q → f r ≡ 0) → sum_below f n ≡ f q
sum_pick f q n l h =
    let z = sum_ext (upd f q 0) (λ i. 0) n (λ i _. upd_all f q 0 (λ _ v. v ≡ 0) refl h i) ∙ sum_none n in
    omega (arith, z, sum_upd f n q 0 l)

-- one part is less and none is more
sum_fewer : (f g : ℕ → ℕ) (q n : ℕ) → q < n → ((i : ℕ) → f i ≤ g i) → f q < g q → sum_below f n < sum_below g n
sum_fewer f g q n l h s =
    let m = sum_le (upd f q (g q)) g n (upd_all f q (g q) (λ i v. v ≤ g i) (omega arith) (λ i _. h i)) in
    omega (arith, m, sum_upd f n q (g q) l)

-- ---- the parts of a term

-- a row of actions has no ambient
row_ambients : (l : List Action) → ambients (row l) ≡ 0
row_ambients l = let z = row_weighs 0 1 l in omega arith

module _ (t : Tree) where
  -- an agent has none
  agent_ambients : (p x : ℕ) → ambients (agent_at t p x) ≡ 0
  unfolding weigh
  agent_ambients p x = go (eq? (t.home x) p)
    where
      go : (t.home x ≡ p) ⊎ (t.home x ≢ p) → ambients (agent_at t p x) ≡ 0
      go (inl e) = ap ambients (agent_is t p x e) ∙ row_ambients (t.unused x)
      go (inr d) = ap ambients (agent_not t p x d)

  -- a place that stands in p has one more than it holds
  place_ambients : (g : ℕ → Term) (p q : ℕ) → ambients (place_at t g p q) ≡ cond (stands_at t q p) (1 + ambients (g q)) 0
  unfolding place_at weigh
  place_ambients g p q = go (stands_at t q p)
    where
      go : (b : Bool) → ambients (cond b (amb (t.name q) (g q)) nil) ≡ cond b (1 + ambients (g q)) 0
      go true = refl
      go false = refl

  -- what p holds has those of the places that stand in it
  level_ambients : (g : ℕ → Term) (p : ℕ) → ambients (level t g p) ≡ sum_below (λ q. cond (stands_at t q p) (1 + ambients (g q)) 0) 64
  unfolding level weigh
  level_ambients g p =
      let none : ambients (parallel (agent_at t p) 64) ≡ 0 =
      parallel_weighs 0 1 (agent_at t p) 64 ∙ sum_ext _ _ 64 (λ x _. agent_ambients p x) ∙ sum_none 64 in
      let some = parallel_weighs 0 1 (place_at t g p) 64 ∙ sum_ext _ _ 64 (λ q _. place_ambients g p q) in
      omega (arith, none, some)

  -- ---- how often the way up from q meets p

  -- a place in use that is not the floor
  abbrev placed : ℕ → Bool
  placed q = t.used q && not (eqb q 0)

  -- 1 where q is r
  abbrev one : ℕ → ℕ → ℕ
  one r q = cond (eqb q r) 1 0

  -- in 1 to k steps from placed places, and in 0 to k
  above : ℕ → ℕ → ℕ → ℕ
  above zero p q = 0
  above (suc k) p q = cond (placed q) (one p (t.parent q) + above k p (t.parent q)) 0

  abbrev meets : ℕ → ℕ → ℕ → ℕ
  meets k r q = one r q + above k r q

  -- a place that stands in p
  stands_when : (p q n : ℕ) → cond (stands_at t q p) n 0 ≡ cond (placed q) (cond (eqb (t.parent q) p) n 0) 0
  unfolding stands_at
  stands_when p q n = go (t.used q) (not (eqb q 0)) (eqb (t.parent q) p)
    where
      go : (a b c : Bool) → cond (a && (b && c)) n 0 ≡ cond (a && b) (cond c n 0) 0
      go true true c = refl
      go true false c = refl
      go false b c = refl

  -- q itself among the places in p
  stands_one : (p q : ℕ) → q < 64 → sum_below (λ r. cond (stands_at t r p) (one r q) 0) 64 ≡ cond (placed q) (one p (t.parent q)) 0
  stands_one p q l = sum_pick (λ r. cond (stands_at t r p) (one r q) 0) q 64 l (λ r n. none r n (stands_at t r p))
      ∙ ap (λ (b : Bool). cond (stands_at t q p) (cond b 1 0) 0) (eq-eqb q q refl) ∙ stands_when p q 1
    where
      none : (r : ℕ) → r ≢ q → (b : Bool) → cond b (one r q) 0 ≡ 0
      none r n true = rw (ne_eqb q r (λ z. n (sym z)))
      none r n false = refl

  module _ (w : Formed t) where
    parent_small : (q : ℕ) → t.parent q < 64
    parent_small q = w.small _ (w.parent_used q)

    -- p is met from q through one of its places, if the way on from q is so
    onward : (k p q : ℕ) → q < 64 → sum_below (λ r. cond (stands_at t r p) (above k r q) 0) 64 ≡ cond (placed q) (above k p (t.parent q)) 0
        → sum_below (λ r. cond (stands_at t r p) (meets k r q) 0) 64 ≡ above (suc k) p q
    unfolding above
    onward k p q l rest = split ∙ ap₂ ◌+◌ (stands_one p q l) rest ∙ joined (placed q)
      where
        both : (b : Bool) (m n : ℕ) → cond b (m + n) 0 ≡ cond b m 0 + cond b n 0
        both true m n = refl
        both false m n = refl

        split : sum_below (λ r. cond (stands_at t r p) (meets k r q) 0) 64
            ≡ sum_below (λ r. cond (stands_at t r p) (one r q) 0) 64 + sum_below (λ r. cond (stands_at t r p) (above k r q) 0) 64
        split = sum_ext _ _ 64 (λ r _. both (stands_at t r p) (one r q) (above k r q)) ∙ sum_add _ _ 64

        joined : (b : Bool) → cond b (one p (t.parent q)) 0 + cond b (above k p (t.parent q)) 0
            ≡ cond b (one p (t.parent q) + above k p (t.parent q)) 0
        joined true = refl
        joined false = refl

    through : (k p q : ℕ) → q < 64 → sum_below (λ r. cond (stands_at t r p) (meets k r q) 0) 64 ≡ above (suc k) p q
    unfolding above
    through zero p q l = onward 0 p q l (sum_ext _ (λ i. 0) 64 (λ r _. same (stands_at t r p)) ∙ sum_none 64 ∙ sym (same (placed q)))
      where
        same : (b : Bool) → ◌≡◌ {A = ℕ} (cond b 0 0) 0
        same true = refl
        same false = refl
    through (suc k) p q l = onward (suc k) p q l (sum_ext _ _ 64 (λ r _. swapped (stands_at t r p) (placed q) (meets k r (t.parent q)))
        ∙ sum_when (placed q) (λ r. cond (stands_at t r p) (meets k r (t.parent q)) 0) 64
        ∙ ap (λ (n : ℕ). cond (placed q) n 0) (through k p (t.parent q) (parent_small q)))
      where
        swapped : (b c : Bool) (n : ℕ) → cond b (cond c n 0) 0 ≡ cond c (cond b n 0) 0
        swapped true c n = refl
        swapped false true n = refl
        swapped false false n = refl

    -- so a place k levels deep counts what lies below it
    counted : (k p : ℕ) → ambients (contents t k p) ≡ sum_below (above k p) 64
    unfolding contents weigh above
    counted zero p = sym (sum_none 64)
    counted (suc k) p =
        level_ambients (contents t k) p
        ∙ sum_ext _ _ 64 (λ r l. inner r l (counted k r))
        ∙ sum_swap (λ r q. cond (stands_at t r p) (meets k r q) 0) 64 64
        ∙ sum_ext _ _ 64 (λ q l. through k p q l)
      where
        itself : (r : ℕ) → r < 64 → sum_below (one r) 64 ≡ 1
        itself r l = sum_pick (one r) r 64 l (λ q n. rw (ne_eqb q r n)) ∙ rw (eq-eqb r r refl)

        inner : (r : ℕ) → r < 64 → ambients (contents t k r) ≡ sum_below (above k r) 64
            → cond (stands_at t r p) (1 + ambients (contents t k r)) 0 ≡ sum_below (λ q. cond (stands_at t r p) (meets k r q) 0) 64
        inner r l below = ap (λ (n : ℕ). cond (stands_at t r p) n 0)
            (let all = sum_add (one r) (above k r) 64 in let self = itself r l in
            let z : 1 + ambients (contents t k r) ≡ sum_below (meets k r) 64 = omega arith in z)
            ∙ sym (sum_when (stands_at t r p) (meets k r) 64)

    -- the way up from a place meets the floor once
    met_once : (k q : ℕ) → iter t.parent k q ≡ 0 → above k 0 q ≡ cond (placed q) 1 0
    unfolding above iter
    met_once zero q e = ap (λ (b : Bool). cond b 1 0) (sym (floor (t.used q)))
      where
        floor : (b : Bool) → (b && not (eqb q 0)) ≡ false
        floor true = rw (eq-eqb q 0 e)
        floor false = refl
    met_once (suc k) q e = ap (λ (n : ℕ). cond (placed q) (one 0 (t.parent q) + n) 0) (met_once k (t.parent q) e) ∙ both (placed q)
      where
        either : (b : Bool) → cond b 1 0 + cond (true && not b) 1 0 ≡ 1
        either true = refl
        either false = refl

        both : (b : Bool) → cond b (one 0 (t.parent q) + cond (placed (t.parent q)) 1 0) 0 ≡ cond b 1 0
        both true = ap (λ (u : Bool). one 0 (t.parent q) + cond (u && not (eqb (t.parent q) 0)) 1 0) (w.parent_used q) ∙ either (eqb (t.parent q) 0)
        both false = refl

    -- the term has an ambient for each place but the floor
    places_ambients : ambients (term t) ≡ sum_below (λ q. cond (placed q) 1 0) 64
    unfolding term
    places_ambients = counted 64 0 ∙ sum_ext _ _ 64 (λ q l. met_once 64 q (home q l))
      where
        home : (q : ℕ) → q < 64 → iter t.parent 64 q ≡ 0
        home q l = iter_out t.parent 63 q
            ∙ ap t.parent (sixty_three t.parent w.floor_parent (λ r _. parent_small r) l (w.tree q)) ∙ w.floor_parent

    -- a number is unused exactly if there are fewer than 63 ambients
    pub room_ambients : has_room t ≡ room (term t)
    unfolding has_room
    room_ambients = go (told (ltb (fresh_number t.used) 64))
      where
        all : sum_below (λ q. cond (not (eqb q 0)) 1 0) 64 ≡ 63
        all = unfold sum_below in refl

        go : Told (ltb (fresh_number t.used) 64) → ltb (fresh_number t.used) 64 ≡ ltb (ambients (term t)) 63
        go (yea e) =
            let l = ltb-true (fresh_number t.used) 64 e in
            let f = fresh_unused t.used l in
            e ∙ sym (lt-ltb (ambients (term t)) 63 (omega (
              arith,
              places_ambients,
              all,
              sum_fewer (λ q. cond (placed q) 1 0) (λ q. cond (not (eqb q 0)) 1 0) (fresh_number t.used) 64 l
                  (λ q. fewer (t.used q) (not (eqb q 0))) (less f),
            )))
          where
            fewer : (a b : Bool) → cond (a && b) 1 0 ≤ cond b 1 0
            fewer true b = omega arith
            fewer false true = omega arith
            fewer false false = omega arith

            less : t.used (fresh_number t.used) ≡ false → cond (placed (fresh_number t.used)) 1 0 < cond (not (eqb (fresh_number t.used) 0)) 1 0
            less f = rw (f, ne_eqb (fresh_number t.used) 0 (λ z. clash (ap t.used z ∙ w.floor_used) f)) (omega arith)
        go (nay e) =
            let u = fresh_none t.used (ltb-false (fresh_number t.used) 64 e) in
            e ∙ sym (le-ltb (ambients (term t)) 63 (omega (
              arith,
              places_ambients,
              all,
              sum_ext (λ q. cond (placed q) 1 0) (λ q. cond (not (eqb q 0)) 1 0) 64 (λ q l. rw (u q l)),
            )))
