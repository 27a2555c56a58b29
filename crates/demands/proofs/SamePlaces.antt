-- Two lands that agree on what is in use pass the same tests, so stage 2 chooses the same place in both.
-- Idea: every test asks first whether a place is in use, and reads of it a name with its keys, a parent and whether it is linked.
use Rattle.std.specs.Prelude.{◌≡◌, refl, Bool}
use Rattle.std.proofs.Math.Path.{ap, ap₂, fun_ext}
use Rattle.std.proofs.Common.{◌∙◌}
use Prim.Native.Nat.{ℕ}
use mathlib.Core.List.{List}
use Rattle.std.proofs.Math.Bool.{true, not, ◌&&◌, cond}
use Rattle.std.proofs.Math.Dec.{eqb}
use Rattle.sets.specs.Word.{upto}
use Rattle.table.proofs.BaseLaws.{and_left, and_cong, any_ext}
use Rattle.table.specs.Cell.{Land, linked, linked_to, travels, enter_kind, exit_kind, open_kind, key_of}
use Rattle.table.specs.declared.Name.{Name}
use Rattle.meaning.specs.Step.{on_way_to, awaited, named, enters_at, exits_from, opens_at, qualifies, chosen_of, choose}

-- l and m have the same places in use, each with the same name, keys and parent, and linked in both or in neither, in the same order
pub record Alike (l m : Land) : Type 0 where
  pub used : (q : ℕ) → l.used q ≡ m.used q
  pub name : (q : ℕ) → m.used q ≡ true → (l.place q).name ≡ (m.place q).name
  pub parent : (q : ℕ) → m.used q ≡ true → (l.place q).parent ≡ (m.place q).parent
  pub way : (q : ℕ) → m.used q ≡ true → eqb (l.place q).way 0 ≡ eqb (m.place q).way 0
  pub order : l.order ≡ m.order

module _ (l m : Land) (s : Alike l m) where
  -- two tests of a place in use that agree
  in_use : (q : ℕ) (a b : Bool) → (m.used q ≡ true → a ≡ b) → (l.used q && a) ≡ (m.used q && b)
  in_use q a b h = ap (λ (u : Bool). u && a) (s.used q) ∙ and_cong (m.used q) a b h

  linked_alike : (q : ℕ) → linked l q ≡ linked m q
  unfolding linked
  linked_alike q = in_use q _ _ (s.way q)

  linked_to_alike : (q p : ℕ) → linked_to l q p ≡ linked_to m q p
  unfolding linked_to
  linked_to_alike q p = in_use q _ _ (λ u. ap₂ ◌&&◌ (s.way q u) (ap (λ (r : ℕ). eqb r p) (s.parent q u)))

  travels_alike : (q : ℕ) → travels l q ≡ travels m q
  unfolding travels
  travels_alike q = in_use q _ _ (λ u. ap (λ (b : Bool). not (eqb q 0) && not b) (s.way q u))

  awaited_alike : (q : ℕ) → awaited l q ≡ awaited m q
  unfolding awaited on_way_to
  awaited_alike q = any_ext _ _ 64 (λ r _. ap (λ (b : Bool). b && eqb (l.place r).parent q) (travels_alike r)
      ∙ and_cong (travels m r) _ _ (λ t. ap (λ (z : ℕ). eqb z q) (s.parent r (there r t))))
    where
      there : (r : ℕ) → travels m r ≡ true → m.used r ≡ true
      there r t = and_left (m.used r) (not (eqb r 0) && not (eqb (m.place r).way 0)) (unfold travels in t)

  -- a place linked to p, with its key and one test more
  child_alike : (kind n p q : ℕ) (a b : Bool) → a ≡ b → (linked_to l q p && (named kind l q n && a)) ≡ (linked_to m q p && (named kind m q n && b))
  child_alike kind n p q a b e = ap (λ (u : Bool). u && (named kind l q n && a)) (linked_to_alike q p)
      ∙ and_cong (linked_to m q p) _ _ (λ k. ap₂ (λ (z : Name) (c : Bool). eqb (key_of kind z) n && c) (s.name q (there k)) e)
    where
      there : linked_to m q p ≡ true → m.used q ≡ true
      there k = and_left (m.used q) (eqb (m.place q).way 0 && eqb (m.place q).parent p) (unfold linked_to in k)

  exits_alike : (n p : ℕ) → exits_from l n p ≡ exits_from m n p
  unfolding exits_from
  exits_alike n p = ap (λ (u : Bool). u && named exit_kind l p n) (linked_alike p)
      ∙ and_cong (linked m p) _ _ (λ k. ap (λ (z : Name). eqb (key_of exit_kind z) n) (s.name p (there k)))
    where
      there : linked m p ≡ true → m.used p ≡ true
      there k = and_left (m.used p) (eqb (m.place p).way 0) (unfold linked in k)

  qualifies_alike : (kind n home p q : ℕ) → qualifies l kind n home p q ≡ qualifies m kind n home p q
  unfolding qualifies enters_at opens_at
  qualifies_alike kind n home p q =
      ap₂ (λ (x y : Bool). cond (eqb kind enter_kind) x y) (child_alike enter_kind n p q (not (eqb q home)) (not (eqb q home)) refl)
      (ap₂ (λ (x y : Bool). cond (eqb kind exit_kind) (eqb q p && x) y) (exits_alike n p)
      (child_alike open_kind n p q (not (awaited l q)) (not (awaited m q)) (ap not (awaited_alike q))))

  -- stage 2 chooses the same place in both
  pub choose_alike : (kind n home p wish : ℕ) → choose l kind n home p wish ≡ choose m kind n home p wish
  unfolding choose
  choose_alike kind n home p wish =
      ap₂ (λ (row : List ℕ) (f : ℕ → Bool). chosen_of row (upto 64 f) wish) s.order (fun_ext (qualifies_alike kind n home p))
