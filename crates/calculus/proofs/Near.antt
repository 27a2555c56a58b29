-- A change near one place p leaves what every other place holds as it was, but for the places above p.
-- Idea: a place that is neither above p nor touched has only such places in it; from p the change is carried up to the floor, one ambient at a time.
use Rattle.std.specs.Prelude.{◌≡◌, ◌≢◌, ◌⊎◌, Bool, true}
use Rattle.std.proofs.Math.Path.{refl, fun_ext}
use Rattle.std.proofs.Common.{sym, ◌∙◌, subst, inl, inr}
use Prim.Native.Nat.{ℕ, zero, suc}
use Rattle.table.specs.Base.{upd}
use Rattle.table.proofs.BaseLaws.{eq?}
use Rattle.meaning.specs.Calculus.{Tree, stands_at}
use Rattle.calculus.specs.Up.{Up, base, up}
use Rattle.calculus.specs.Formed.{Formed}
use Rattle.calculus.proofs.MoveCases.{Stands, stands_in, in_stands}
use Rattle.calculus.proofs.Above.{Above, above_self, above_next, Below, below_one, below_next, not_both, one_way}
use Rattle.calculus.specs.Terms.{amb, nil, ◌∣◌, ◌≅◌}
use Rattle.calculus.proofs.TermLaws.{◌⨾◌, of_path, renamed, pars}
use Rattle.calculus.proofs.Spots.{Spot, within}
use Rattle.calculus.specs.TermOf.{parallel, agent_at, place_at, level, contents, held}
use Rattle.calculus.proofs.Contents.{agents_of, places_but, upd_eq, place_eq, place_first}

-- t becomes u near p; E are the places below p that the change touches, with p above each of them and nothing untouched between
pub record Local (t u : Tree) (p : ℕ) (E : ℕ → Type 0) : Type 0 where
  pub agents : (s : ℕ) → s ≢ p → (E s → ⊥) → (x : ℕ) → agent_at t s x ≡ agent_at u s x
  pub places : (s q : ℕ) → s ≢ p → (E s → ⊥) → stands_at t q s ≡ stands_at u q s
  pub names : (s q : ℕ) → s ≢ p → (E s → ⊥) → Stands t q s → t.name q ≡ u.name q
  pub near : (s q : ℕ) → Stands t q s → E q → (s ≡ p) ⊎ E s
  pub low : (q : ℕ) → E q → Below t.parent p q

-- s is neither above p nor touched
record Clean (t : Tree) (p : ℕ) (E : ℕ → Type 0) (s : ℕ) : Type 0 where
  not_above : Above t.parent p s → ⊥
  not_touched : E s → ⊥

module _ (t u : Tree) (w : Formed t) (v : Formed u) (p : ℕ) (E : ℕ → Type 0) (c : Local t u p E) where
  clean_far : (s : ℕ) → Clean t p E s → s ≢ p
  clean_far s k e = k.not_above (subst (Above t.parent p) (sym e) (above_self t.parent p))

  clean_inside : (s q : ℕ) → Clean t p E s → Stands t q s → Clean t p E q
  clean_inside s q k i = record {
    not_above = λ a. k.not_above (above_next a s i.parent);
    not_touched = λ e. go (c.near s q i e);
  }
    where
      go : (s ≡ p) ⊎ E s → ⊥
      go (inl e) = clean_far s k e
      go (inr e) = k.not_touched e

  same : (k s : ℕ) → Clean t p E s → contents t k s ≡ contents u k s
  unfolding contents level
  same zero s l = refl
  same (suc k) s l =
      let d = clean_far s l in
      λ j. parallel (fun_ext (c.agents s d l.not_touched) j) 64
      ∣ parallel (fun_ext (λ q. place_eq t u (contents t k) (contents u k) s s q (c.places s q d l.not_touched) (c.names s q d l.not_touched)
      (λ i. same k q (clean_inside s q l i))) j) 64

  -- a place that stands in p or below it and is not touched holds what it held
  pub low_same : (s q : ℕ) → (s ≡ p) ⊎ Below t.parent p s → Stands t q s → (E q → ⊥) → held t q ≡ held u q
  low_same s q l i n = same 64 q (record { not_above = λ a. not_both t w (go l) a; not_touched = n })
    where
      go : (s ≡ p) ⊎ Below t.parent p s → Below t.parent p q
      go (inl e) = below_one i.placed (i.parent ∙ e)
      go (inr b) = below_next b q i.placed i.parent

  -- q is p or above it, and stands in s
  module _ (s q : ℕ) (a : Above t.parent p q) (i : Stands t q s) where
    far : s ≢ p
    far e = not_both t w (below_one i.placed (i.parent ∙ e)) a

    untouched : E s → ⊥
    untouched e = not_both t w (below_next (c.low s e) q i.placed i.parent) a

    beside_clean : (r : ℕ) → r ≢ q → Stands t r s → Clean t p E r
    beside_clean r d j = record {
      not_above = λ b. d (one_way t w b a (j.parent ∙ sym i.parent) j.placed i.placed);
      not_touched = λ e. go (c.near s r j e);
    }
      where
        go : (s ≡ p) ⊎ E s → ⊥
        go (inl e) = far e
        go (inr e) = untouched e

    beside_same : (r : ℕ) → upd (place_at t (held t) s) q nil r ≡ upd (place_at u (held u) s) q nil r
    beside_same = upd_eq (place_at t (held t) s) (place_at u (held u) s) q (λ r d.
        place_eq t u (held t) (held u) s s r (c.places s r far untouched) (c.names s r far untouched) (λ j. same 64 r (beside_clean r d j)))

    -- one ambient up: beside q, all is as it was
    pub climbs : held u s ≅ amb (t.name q) (held u q) ∣ (agents_of t s ∣ places_but t s q)
    climbs =
        let i' : Stands u q s = stands_in u q s (sym (c.places s q far untouched) ∙ in_stands t q s i) in
        place_first u v s q i' ⨾ pars (renamed (sym (c.names s q far untouched i)))
        (of_path (λ j. parallel (fun_ext (λ x. sym (c.agents s far untouched x)) j) 64 ∣ parallel (fun_ext (λ r. sym (beside_same r)) j) 64))

  -- from p up to the floor
  pub ascends : {room : Bool} {q : ℕ} → Up t.parent q → t.used q ≡ true → Above t.parent p q → Spot room (held t q) (held u q)
      → Spot room (held t 0) (held u 0)
  ascends base k a s = s
  ascends {room} (up q y) k a s = go (eq? q 0) (λ b r. ascends y (w.parent_used q) b r)
    where
      go : (q ≡ 0) ⊎ (q ≢ 0) → (Above t.parent p (t.parent q) → Spot room (held t (t.parent q)) (held u (t.parent q))
          → Spot room (held t 0) (held u 0)) → Spot room (held t 0) (held u 0)
      go (inl e) f = subst (λ r. Spot room (held t r) (held u r)) e s
      go (inr d) f =
          let i : Stands t q (t.parent q) = record { used = k; placed = d; parent = refl } in
          f (above_next a (t.parent q) refl) (within s (place_first t w (t.parent q) q i) (climbs (t.parent q) q a i))
