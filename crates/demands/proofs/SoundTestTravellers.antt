-- "a place on its way has exactly one of its agents at stages 4 to 6, the floor and a linked place none": the count and the
-- propositions say the same.
-- Idea: who goes from a place is one set of agents in both; the count of a set is 0, or 1, by what it has.
use Rattle.std.specs.Prelude.{◌≡◌, refl, ◌≢◌, ◌⊎◌, Bool, true, false, cond, ℕ, ◌≤◌, ◌<◌, eqb}
use Rattle.std.proofs.Math.Path.{sym, ap}
use Rattle.std.proofs.Common.{◌∙◌, inl, inr, arith}
use borrow.Author.Tests.{eqb-true, eq-eqb, ne_eqb}
use Rattle.table.specs.Base.{count_below}
use Rattle.table.proofs.BaseLaws.{Told, yea, nay, told, clash, eq?, and_left, and_right, count_none}
use Rattle.table.specs.Cell.{State, linked}
use Rattle.table.specs.Sound.{going_from, goes, travellers_fit}
use Rattle.demands.specs.Reading.{agent_in}
use Rattle.demands.proofs.ReadingLaws.{agent_given}
use Rattle.demands.specs.Invariant.{Away, Travels, Mover, Sound}
use Rattle.demands.proofs.Facts.{not_yes}
use Rattle.demands.proofs.Stages.{travels_away}
use Rattle.demands.proofs.GivenLaws.{stage_given}
use Rattle.demands.proofs.SoundTestCounts.{count_some, count_found, count_most, count_single}
use Rattle.demands.proofs.SoundTestStages.{travels_true, travels_holds}

module _ (c : State) where
  -- ---- who goes from a place

  goes_true : (q x : ℕ) → Travels (agent_in c x) → (agent_in c x).home ≡ q → goes c q x ≡ true
  unfolding goes
  goes_true q x t e =
      let g = stage_given c x (λ z. absurd (omega (arith, t.to))) in
      rw (g, eq-eqb q (going_from (c.agent x)) (sym e ∙ sym (travels_true (agent_in c x) t) ∙ ap going_from (agent_given c x g)))

  goes_holds : (q x : ℕ) → q < 64 → goes c q x ≡ true → ((agent_in c x).home ≡ q) × Travels (agent_in c x)
  unfolding goes
  goes_holds q x l e =
      let g = and_left (c.given x) _ e in
      travels_holds (agent_in c x) q (eqb-true _ _ (and_right (c.given x) (eqb q (going_from (c.agent x))) e)
      ∙ ap going_from (sym (agent_given c x g)))
      (λ z. absurd (omega arith))

  -- how many go from q
  abbrev going : ℕ → ℕ
  going q = count_below (goes c q) 64

  abbrev way : ℕ → ℕ
  way q = (c.land.place q).way

  link_way : (q : ℕ) → c.land.used q ≡ true → linked c.land q ≡ eqb (way q) 0
  unfolding linked
  link_way q u = rw u

  -- ---- from the proposition to the test

  module _ (i : Sound c) where
    none_go : (q : ℕ) → q < 64 → (linked c.land q ≡ true) ⊎ (q ≡ 0) → going q ≡ 0
    none_go q l d = count_none (goes c q) 64 (λ x _. not_yes _ (λ e. bad x (goes_holds q x l e) d))
      where
        bad : (x : ℕ) → ((agent_in c x).home ≡ q) × Travels (agent_in c x) → (linked c.land q ≡ true) ⊎ (q ≡ 0) → ⊥
        bad x v (inl k) = clash (ap (linked c.land) v.0 ∙ k) (travels_away v.1 (i.ok x)).loose
        bad x v (inr z) = (travels_away v.1 (i.ok x)).placed (v.0 ∙ z)

    one_goes : (q : ℕ) → c.land.used q ≡ true → q ≢ 0 → linked c.land q ≡ false → going q ≡ 1
    one_goes q u n k =
        let m = i.mover q u n k in
        let l = i.places.small q u in
        let low = count_some (goes c q) 64 m.who (i.few m.who (stage_given c m.who (λ z. absurd (omega (arith, m.goes.to)))))
        (goes_true q m.who m.goes m.lives) in
        let high = count_most (goes c q) 64 (λ x y _ _ e f. let v = goes_holds q x l e in let w = goes_holds q y l f in
        i.single x y v.1 w.1 (v.0 ∙ sym w.0)) in
        omega arith

    -- a sound cell has as many as the test asks for
    pub travellers_true : (q : ℕ) → c.land.used q ≡ true → travellers_fit q (way q) (going q) ≡ true
    travellers_true q u = go (eq? q 0) (told (eqb (way q) 0))
      where
        l : q < 64
        l = i.places.small q u

        go : (q ≡ 0) ⊎ (q ≢ 0) → Told (eqb (way q) 0) → travellers_fit q (way q) (going q) ≡ true
        go (inl z) _ = rw (eq-eqb q 0 z, none_go q l (inr z))
        go (inr n) (yea e) = rw (ne_eqb q 0 n, e, none_go q l (inl (link_way q u ∙ e)))
        go (inr n) (nay e) = rw (ne_eqb q 0 n, e, one_goes q u n (link_way q u ∙ e))

  -- ---- and back

  module _ (small : (q : ℕ) → c.land.used q ≡ true → q < 64) (few : (x : ℕ) → c.given x ≡ true → x < 64)
      (fits : (q : ℕ) → c.land.used q ≡ true → travellers_fit q (way q) (going q) ≡ true) where
    low : (x : ℕ) → Travels (agent_in c x) → x < 64
    low x t = few x (stage_given c x (λ z. absurd (omega (arith, t.to))))

    count_is : (q : ℕ) → c.land.used q ≡ true → going q ≡ cond (eqb q 0) 0 (cond (eqb (way q) 0) 0 1)
    count_is q u = eqb-true _ _ (fits q u)

    -- the place of an agent at stages 4 to 6 is on its way
    pub away_holds : (x : ℕ) → c.land.used (agent_in c x).home ≡ true → Travels (agent_in c x) → Away c.land (agent_in c x)
    away_holds x u t = record { loose = link_way h u ∙ not_yes _ (λ e. linked_no e (eq? h 0)); placed = λ z. omega (arith, some, floor_no z) }
      where
        h : ℕ
        h = (agent_in c x).home

        some : 1 ≤ going h
        some = count_some (goes c h) 64 x (low x t) (goes_true h x t refl)

        floor_no : h ≡ 0 → going h ≡ 0
        floor_no z = count_is h u ∙ rw (eq-eqb h 0 z)

        linked_no : eqb (way h) 0 ≡ true → (h ≡ 0) ⊎ (h ≢ 0) → ⊥
        linked_no e (inl z) = omega (arith, some, floor_no z)
        linked_no e (inr n) = let z : going h ≡ 0 = count_is h u ∙ rw (ne_eqb h 0 n, e) in omega (arith, some)

    -- a place on its way has an agent that goes from it
    pub mover_holds : (q : ℕ) → c.land.used q ≡ true → q ≢ 0 → linked c.land q ≡ false → Mover (agent_in c) q
    mover_holds q u n k =
        let one : going q ≡ 1 = count_is q u ∙ rw (ne_eqb q 0 n, sym (link_way q u) ∙ k) in
        let f = count_found (goes c q) 64 (omega arith) in
        let v = goes_holds q f.0 (small q u) f.1.1 in
        record { who = f.0; lives = v.0; goes = v.1 }

    -- and only one
    pub single_holds : (x y : ℕ) → c.land.used (agent_in c x).home ≡ true → Travels (agent_in c x) → Travels (agent_in c y)
        → (agent_in c x).home ≡ (agent_in c y).home → x ≡ y
    single_holds x y u t v e = count_single (goes c h) 64 x y (most (eqb h 0) (eqb (way h) 0) (count_is h u)) (low x t) (low y v)
        (goes_true h x t refl) (goes_true h y v (sym e))
      where
        h : ℕ
        h = (agent_in c x).home

        most : (a b : Bool) → going h ≡ cond a 0 (cond b 0 1) → going h ≤ 1
        most true b z = omega arith
        most false true z = omega arith
        most false false z = omega arith
