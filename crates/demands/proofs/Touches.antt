-- The sum of the touches over places in use: a touch call adds to it, an opening pools two counts into one, any other step keeps
-- each, and a place that is put out has none.
-- Idea: a sum changes by what one of its parts changes; an opening changes two parts, and what one loses the other gains.
use Rattle.std.specs.Prelude.{◌≡◌, ◌≢◌, ◌⊎◌, true, false, eqb}
use Rattle.std.proofs.Math.Path.{ap}
use Rattle.std.proofs.Common.{◌∙◌, inl, inr, arith, eq-eqb, ne_eqb}
use Rattle.std.proofs.Math.Bool.{cond}
use Prim.Native.Nat.{ℕ, ◌+◌, ◌%◌, ◌^◌, ◌<◌, ◌≤◌}
use Rattle.table.specs.Base.{upd}
use Rattle.table.proofs.BaseLaws.{Told, yea, nay, told, eq?, upd_other}
use Rattle.table.proofs.SumLaws.{sum_ext, sum_upd}
use Rattle.table.specs.Cell.{State}
use Rattle.table.specs.Sound.{touches_at, touch_sum, most_touches}
use Rattle.table.specs.declared.Agent.{Agent}
use Rattle.meaning.specs.Step.{pooled, dissolve}
use Rattle.meaning.specs.Touch.{add_touches}

-- ---- the same touches

-- where places in use stay so with the same touches, and those that come into use have none, the sum is the same
pub same_sum : (c d : State) → ((q : ℕ) → c.land.used q ≡ true → d.land.used q ≡ true)
    → ((q : ℕ) → c.land.used q ≡ true → d.touches q ≡ c.touches q)
    → ((q : ℕ) → c.land.used q ≡ false → d.land.used q ≡ true → d.touches q ≡ 0)
    → touch_sum d ≡ touch_sum c
unfolding touch_sum
same_sum c d used same fresh = sum_ext (touches_at d) (touches_at c) 64 (λ q _. go q (told (c.land.used q)) (told (d.land.used q)))
  where
    go : (q : ℕ) → Told (c.land.used q) → Told (d.land.used q) → touches_at d q ≡ touches_at c q
    go q (yea u) _ = rw (u, used q u) (same q u)
    go q (nay u) (yea v) = rw (u, v) (fresh q u v)
    go q (nay u) (nay v) = rw (u, v)

-- ---- a touch call

-- the sum grows by what is added
pub touch_sum_lem : (c : State) (q n : ℕ) → c.land.used q ≡ true → q < 64 → touch_sum (add_touches c q n) ≡ touch_sum c + n
unfolding touch_sum upd
touch_sum_lem c q n u l =
    let once = sum_upd (touches_at c) 64 q (touches_at c q + n) l in
    let same = sum_ext (touches_at (add_touches c q n)) (upd (touches_at c) q (touches_at c q + n)) 64 (λ r _. at r (eq? r q)) in
    omega (arith, once, same)
  where
    at : (r : ℕ) → (r ≡ q) ⊎ (r ≢ q) → touches_at (add_touches c q n) r ≡ upd (touches_at c) q (touches_at c q + n) r
    at r (inl e) = rw (eq-eqb r q e, ap c.land.used e, u)
    at r (inr d) = rw (ne_eqb r q d)

-- ---- an opening: t is dissolved into p

-- two counts of places in use come nowhere near 64 bits where the sum of all is small
pub pooled_exact : (c : State) (p t : ℕ) → c.land.used p ≡ true → c.land.used t ≡ true → ((q : ℕ) → c.land.used q ≡ true → q < 64) → t ≢ p
    → touch_sum c ≤ most_touches → (c.touches p + c.touches t) % 2 ^ 64 ≡ c.touches p + c.touches t
unfolding touch_sum
pooled_exact c p t u v small n most =
    let one = sum_upd (touches_at c) 64 p 0 (small p u) in
    let two = sum_upd (upd (touches_at c) p 0) 64 t 0 (small t v) in
    let at : upd (touches_at c) p 0 t ≡ touches_at c t = upd_other (touches_at c) p t 0 n in
    let first : touches_at c p ≡ c.touches p = rw u in
    let second : touches_at c t ≡ c.touches t = rw v in
    omega (arith, one, two, at, first, second, most)

module _ (c : State) (p t : ℕ) where
  -- then p has the sum of the two, t none, and no other changes
  pub pooled_at : (c.touches p + c.touches t) % 2 ^ 64 ≡ c.touches p + c.touches t
      → (q : ℕ) → pooled c.touches p t q ≡ cond (eqb q t) 0 (cond (eqb q p) (c.touches q + c.touches t) (c.touches q))
  unfolding upd
  pooled_at exact q = go (eq? q p)
    where
      go : (q ≡ p) ⊎ (q ≢ p) → pooled c.touches p t q ≡ cond (eqb q t) 0 (cond (eqb q p) (c.touches q + c.touches t) (c.touches q))
      go (inl e) = rw (eq-eqb q p e, exact, ap c.touches e)
      go (inr m) = rw (ne_eqb q p m)

  -- and the sum of all is as it was
  pub pooled_sum : c.land.used p ≡ true → c.land.used t ≡ true → ((q : ℕ) → c.land.used q ≡ true → q < 64) → t ≢ p
      → (c.touches p + c.touches t) % 2 ^ 64 ≡ c.touches p + c.touches t
      → (x : ℕ) (a : Agent) → touch_sum (dissolve c x a p t).cell ≡ touch_sum c
  unfolding touch_sum dissolve upd
  pooled_sum u v small n exact x a =
      let once = sum_upd f 64 p (f p + f t) (small p u) in
      let twice = sum_upd g 64 t 0 (small t v) in
      let at : g t ≡ f t = upd_other f p t (f p + f t) n in
      sum_ext (touches_at (dissolve c x a p t).cell) (upd g t 0) 64 (λ q _. same q (eq? q t) (eq? q p)) ∙ omega (arith, once, twice, at)
    where
      f : ℕ → ℕ
      f = touches_at c

      g : ℕ → ℕ
      g = upd f p (f p + f t)

      same : (q : ℕ) → (q ≡ t) ⊎ (q ≢ t) → (q ≡ p) ⊎ (q ≢ p) → touches_at (dissolve c x a p t).cell q ≡ upd g t 0 q
      same q (inl e) _ = rw (eq-eqb q t e)
      same q (inr m) (inl e) = rw (ne_eqb q t m, eq-eqb q p e, ap c.land.used e ∙ u, u, v, exact)
      same q (inr m) (inr k) = rw (ne_eqb q t m, ne_eqb q p k)
