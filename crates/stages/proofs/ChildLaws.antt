-- The children of a place by a key, and the walk that takes out those that something is on its way to. Assumes nothing.
-- Idea: a place that is not in use is on its way nowhere, so what holds below one place in use holds up to the next.
use Rattle.std.specs.Prelude.{◌≡◌, ◌≢◌, ◌⊎◌, Bool, ◌&&◌, ◌||◌, cond, eqb, List, get_or, Some}
use Rattle.std.proofs.Math.Path.{refl, sym, ap}
use Rattle.std.proofs.Common.{ap₂, subst, ◌∙◌, inl, inr, arith, add-one, eq-eqb, ne_eqb}
use Rattle.std.proofs.Math.Bool.{true, false, not}
use Prim.Native.Nat.{ℕ, ◌+◌, ◌^◌, ◌<◌}
use Rattle.sets.specs.Set.{member, set_of, inserted_if, removed}
use Rattle.sets.proofs.SetLaws.{set_ext, member_set, set_member}
use Rattle.sets.proofs.WalkLaws.{rest_end, rest_member, rest_from, rest_skip, rest_more, Turn, turn_of}
use Rattle.sets.specs.Walk.{Rest, lowest_in, TakesLowest}
use Rattle.sets.specs.declared.Set.{Set}
use Rattle.table.specs.Base.{any_below}
use Rattle.table.proofs.BaseLaws.{eq?, any_rest}
use Rattle.table.specs.Cell.{Land, no_place, key_of, linked_to, travels}
use Rattle.table.specs.declared.Place.{Place}
use Rattle.updates.proofs.GatherLaws.{Gathered, gathered_more}
use Rattle.meaning.specs.Step.{on_way_to, awaited, named}
use Rattle.stages.specs.Changes.{child_named}

-- ---- children

-- the children whose key for this kind is n are those in use that stand so and have this key
pub child_split : (kind : ℕ) (l : Land) (p n : ℕ)
    → set_of (λ q. l.used q && (eqb (l.place q).way 0 && eqb (l.place q).parent p && named kind l q n)) ≡ set_of (child_named kind l p n)
unfolding linked_to
child_split kind l p n = set_ext _ _ (λ q _. go (l.used q) (eqb (l.place q).way 0 && eqb (l.place q).parent p) (named kind l q n))
  where
    go : (u v w : Bool) → (u && (v && w)) ≡ ((u && v) && w)
    go true v w = refl
    go false v w = refl

-- place q stands in p, and n is its key for this kind
abbrev pub named_child : List Place → ℕ → ℕ → ℕ → ℕ → Bool
named_child ps kind p n q = eqb (get_or ps q no_place).way 0 && eqb (get_or ps q no_place).parent p && eqb (key_of kind (get_or ps q no_place).name) n

-- a turn of a `for` that gathers, which takes j
pub gathered_turn : {g h : ℕ → Bool} {found rest others : Set} {j : ℕ} → Gathered g h found rest → TakesLowest rest (Some j) others → (b : Bool) → b ≡ h j
    → Gathered g h (inserted_if found j b) others
gathered_turn {g} {h} {found} {rest} {others} {j} a step b e =
    let t : Turn rest j others = turn_of a.left.small step in
    subst (Gathered g h (inserted_if found j b)) (sym t.left)
    (subst (λ (i : ℕ). Gathered g h (inserted_if found i b) (removed rest (lowest_in rest))) (sym t.lowest) (gathered_more a t.some b (e ∙ ap h t.lowest)))

-- ---- taking out

eqb_swap : (m n : ℕ) → eqb m n ≡ eqb n m
eqb_swap m n = go (eq? m n)
  where
    go : (m ≡ n) ⊎ (m ≢ n) → eqb m n ≡ eqb n m
    go (inl e) = eq-eqb m n e ∙ sym (eq-eqb n m (sym e))
    go (inr h) = ne_eqb m n h ∙ sym (ne_eqb n m (λ e. h (sym e)))

module _ (l : Land) (among : Set) where
  -- what holds before each turn: those that a place below some number is on its way to are taken out
  pub record Unmet (s rest : Set) : Type 0 where
    pub i : ℕ
    pub left : Rest l.used i rest
    pub got : s ≡ set_of (λ q. member among q && not (any_below (on_way_to l q) i))

  -- what is not in use is on its way nowhere
  unused : (q r : ℕ) → l.used r ≡ false → on_way_to l q r ≡ false
  unfolding on_way_to travels
  unused q r e = rw e

  pub unmet_start : (rest : Set) → among.bits < 2 ^ 64 → Rest l.used 0 rest → Unmet among rest
  unfolding any_below
  unmet_start rest h r = record { i = 0; left = r; got = sym (set_member among h) ∙ set_ext _ _ (λ q _. plain (member among q)) }
    where
      plain : (b : Bool) → b ≡ (b && true)
      plain true = refl
      plain false = refl

  module _ {s rest : Set} (a : Unmet s rest) where
    pub unmet_end : rest.bits ≡ 0 → s ≡ set_of (λ q. member among q && not (awaited l q))
    unfolding awaited
    unmet_end e = a.got ∙ set_ext _ _ (λ q _. ap (λ (b : Bool). member among q && not b)
        (any_rest (on_way_to l q) a.i 64 a.left.end (λ r m k. unused q r (rest_end a.left e r m k))))

    -- a turn: the place of this turn is on its way to d, or nowhere
    pub unmet_more : 0 < rest.bits → (d : ℕ) → d ≡ cond (not (eqb (lowest_in rest) 0) && not (eqb (l.place (lowest_in rest)).way 0)) (l.place (lowest_in rest)).parent 64
        → Unmet (removed s d) (removed rest (lowest_in rest))
    unfolding any_below on_way_to travels
    unmet_more k d e = record { i = lowest_in rest + 1; left = rest_more a.left k; got = set_ext _ _ at }
      where
        m : ℕ
        m = lowest_in rest

        away : Bool
        away = not (eqb m 0) && not (eqb (l.place m).way 0)

        before : (q : ℕ) → any_below (on_way_to l q) a.i ≡ any_below (on_way_to l q) m
        before q = any_rest (on_way_to l q) a.i m (rest_from a.left k) (λ r x y. unused q r (rest_skip a.left k r x y))

        here : (q : ℕ) → on_way_to l q m ≡ (away && eqb (l.place m).parent q)
        here q = rw (rest_member a.left k)

        next : (q : ℕ) → any_below (on_way_to l q) (m + 1) ≡ (away && eqb (l.place m).parent q || any_below (on_way_to l q) m)
        next q = ap (any_below (on_way_to l q)) (add-one m) ∙ ap (λ (b : Bool). b || any_below (on_way_to l q) m) (here q)

        go : (q : ℕ) → q < 64 → (t x y : Bool) → (not (eqb q (cond t (l.place m).parent 64)) && (x && not y)) ≡ (x && not (t && eqb (l.place m).parent q || y))
        go q b true x y = rw (eqb_swap q (l.place m).parent) (both (eqb (l.place m).parent q) x y)
          where
            both : (u x y : Bool) → (not u && (x && not y)) ≡ (x && not (u || y))
            both true true y = refl
            both true false y = refl
            both false x y = refl
        go q b false x y = rw (ne_eqb q 64 (λ h. omega arith))

        at : (q : ℕ) → q < 64 → (not (eqb q d) && member s q) ≡ (member among q && not (any_below (on_way_to l q) (m + 1)))
        at q b = ap₂ (λ (x : ℕ) (y : Bool). not (eqb q x) && y) e
            (ap (λ (z : Set). member z q) a.got ∙ member_set _ q b ∙ ap (λ (y : Bool). member among q && not y) (before q))
            ∙ go q b away (member among q) (any_below (on_way_to l q) m) ∙ sym (ap (λ (y : Bool). member among q && not y) (next q))

    -- a turn of a `for`, which takes j
    pub unmet_turn : {others : Set} {j : ℕ} → TakesLowest rest (Some j) others → (d : ℕ)
        → d ≡ cond (not (eqb j 0) && not (eqb (l.place j).way 0)) (l.place j).parent 64 → Unmet (removed s d) others
    unmet_turn {others} {j} step d e =
        let t : Turn rest j others = turn_of a.left.small step in
        subst (Unmet (removed s d)) (sym t.left)
        (unmet_more t.some d (e ∙ ap (λ (i : ℕ). cond (not (eqb i 0) && not (eqb (l.place i).way 0)) (l.place i).parent 64) t.lowest))
