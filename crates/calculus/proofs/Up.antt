-- "Following parents or destinations leads every place to the floor", as an inductive predicate, kept by each move of the calculus.
-- A move keeps it because the way up from the new place does not meet the place that moves; 63 steps are enough by counting.
use Rattle.std.specs.Prelude.{◌≡◌, ◌≢◌, ◌⊎◌, Bool, true, not, ◌&&◌, cond, eqb}
use Rattle.std.proofs.Math.Path.{refl, sym, ap}
use Rattle.std.proofs.Common.{◌∙◌, subst, arith, eqb-true, ne_eqb}
use Rattle.std.proofs.Math.Logic.{inl, inr}
use Prim.Native.Nat.{ℕ, zero, suc, ◌≤◌, ◌<◌}
use Rattle.std.proofs.lemmas.Bool.{eqb-false}
use Rattle.table.specs.Base.{upd, iter, count_below}
use Rattle.table.proofs.BaseLaws.{Told, yea, nay, told, eq?, upd_at, upd_other}
use Rattle.calculus.specs.Up.{Up, Off, base, up, off0, offs}

-- one step more is the parent of where the others lead
pub iter_out : (f : ℕ → ℕ) (n q : ℕ) → iter f (suc n) q ≡ f (iter f n q)
unfolding iter
iter_out f zero q = refl
iter_out f (suc n) q = iter_out f n (f q)

-- from the floor every step stays there
pub iter_floor : (f : ℕ → ℕ) → f 0 ≡ 0 → (n : ℕ) → iter f n 0 ≡ 0
unfolding iter
iter_floor f z zero = refl
iter_floor f z (suc n) = rw z (iter_floor f z n)

module _ (f : ℕ → ℕ) (z : f 0 ≡ 0) where
  -- no place but the floor is above itself
  pub acyclic : {q : ℕ} → Up f q → (n : ℕ) → iter f (suc n) q ≡ q → q ≡ 0
  unfolding iter
  acyclic base n e = refl
  acyclic (up q u) n e =
      let p0 : f q ≡ 0 = acyclic u n (iter_out f (suc n) q ∙ ap f e) in
      sym e ∙ ap (iter f n) p0 ∙ iter_floor f z n

  -- h is on the way from q, or it is not
  pub on? : (h : ℕ) {q : ℕ} → Up f q → Off f h q ⊎ ((n : ℕ) × (iter f n q ≡ h))
  unfolding iter
  on? h base = inl off0
  on? h (up q u) = go (eq? q h) (on? h u)
    where
      go : (q ≡ h) ⊎ (q ≢ h) → Off f h (f q) ⊎ ((n : ℕ) × (iter f n (f q) ≡ h)) → Off f h q ⊎ ((n : ℕ) × (iter f n q ≡ h))
      go (inl e) r = inr (0, e)
      go (inr d) (inl o) = inl (offs q d o)
      go (inr d) (inr m) = inr (suc m.0, m.1)

  -- the way from a place's parent does not meet the place
  pub above_off : {h : ℕ} → h ≢ 0 → Up f h → Off f h (f h)
  above_off h0 base = absurd (h0 refl)
  above_off h0 (up h u) = go (on? h u)
    where
      go : Off f h (f h) ⊎ ((n : ℕ) × (iter f n (f h) ≡ h)) → Off f h (f h)
      go (inl o) = o
      go (inr m) = absurd (h0 (acyclic (up h u) m.0 (unfold iter in m.1)))

  -- a way that does not meet h is a way after h has moved
  off_up : (h d : ℕ) → h ≢ 0 → {q : ℕ} → Off f h q → Up (upd f h d) q
  off_up h d h0 off0 = base
  off_up h d h0 (offs q n o) = up q (rw upd_other (off_up h d h0 o))

  -- h moves to d, whose way up does not meet h: every place still leads to the floor
  pub move_up : (h d : ℕ) → h ≢ 0 → Off f h d → {q : ℕ} → Up f q → Up (upd f h d) q
  move_up h d h0 o base = base
  move_up h d h0 o (up q u) = go (eq? q h) (move_up h d h0 o u)
    where
      go : (q ≡ h) ⊎ (q ≢ h) → Up (upd f h d) (f q) → Up (upd f h d) q
      go (inl e) r = up q (rw (upd_at f h q d e) (off_up h d h0 o))
      go (inr n) r = up q (rw (upd_other f h q d n) r)

  -- nor does the way from the parent of d
  off_parent : {h q : ℕ} → h ≢ 0 → Off f h q → Off f h (f q)
  off_parent h0 off0 = rw z off0
  off_parent h0 (offs q n o) = o

  -- into a sibling d
  pub enter_up : (h d : ℕ) → h ≢ 0 → d ≢ h → f d ≡ f h → ((q : ℕ) → Up f q) → (q : ℕ) → Up (upd f h d) q
  enter_up h d h0 dh e us q = move_up h d h0 (offs d dh (rw e (above_off h0 (us h)))) (us q)

  -- out to the grandparent
  pub exit_up : (h : ℕ) → h ≢ 0 → ((q : ℕ) → Up f q) → (q : ℕ) → Up (upd f h (f (f h))) q
  exit_up h h0 us q = move_up h (f (f h)) h0 (off_parent h0 (above_off h0 (us h))) (us q)

  -- a way from a place that is not h, where nothing stands in h
  off_new : {h : ℕ} → ((q : ℕ) → f q ≢ h) → {q : ℕ} → q ≢ h → Up f q → Off f h q
  off_new never n base = off0
  off_new never n (up q u) = offs q n (off_new never (never q) u)

  -- h, in which nothing stands, is put into d
  pub put_up : (h d : ℕ) → h ≢ 0 → d ≢ h → ((q : ℕ) → f q ≢ h) → ((q : ℕ) → Up f q) → (q : ℕ) → Up (upd f h d) q
  put_up h d h0 dh never us q = move_up h d h0 (off_new never dh (us d)) (us q)

  -- t is opened: what stood in it stands in p, its parent
  abbrev pub opened : ℕ → ℕ → ℕ → ℕ
  opened t p q = cond (eqb q t) 0 (cond (eqb (f q) t) p (f q))

  -- by the way up, a place and its parent together
  opened_both : (t p : ℕ) → f t ≡ p → {q : ℕ} → Up f q → Up (opened t p) q × Up (opened t p) (f q)
  opened_both t p tp base = (base, rw z base)
  opened_both t p tp (up q u) = go (told (eqb q t)) (told (eqb (f q) t)) (opened_both t p tp u)
    where
      go : Told (eqb q t) → Told (eqb (f q) t) → Up (opened t p) (f q) × Up (opened t p) (f (f q)) → Up (opened t p) q × Up (opened t p) (f q)
      go (yea e) _ r = (up q (rw e base), r.0)
      go (nay e) (yea g) r = (up q (rw (e, g) (subst (Up (opened t p)) (ap f (eqb-true (f q) t g) ∙ tp) r.1)), r.0)
      go (nay e) (nay g) r = (up q (rw (e, g) r.0), r.0)

  -- so every place still leads to the floor
  pub opened_up : (t p : ℕ) → f t ≡ p → ((q : ℕ) → Up f q) → (q : ℕ) → Up (opened t p) q
  opened_up t p tp us q = (opened_both t p tp (us q)).0

-- a set of places without h
less : (ℕ → Bool) → ℕ → ℕ → Bool
less S h q = not (eqb q h) && S q

-- it has no more places than the set
count_le : (S : ℕ → Bool) (h n : ℕ) → count_below (less S h) n ≤ count_below S n
unfolding count_below less
count_le S h zero = omega arith
count_le S h (suc n) = go (told (eqb n h)) (told (S n)) (count_le S h n)
  where
    go : Told (eqb n h) → Told (S n) → count_below (less S h) n ≤ count_below S n → count_below (less S h) (suc n) ≤ count_below S (suc n)
    go (yea e) (yea s) r = rw (e, s) (omega arith)
    go (yea e) (nay s) r = rw (e, s) (omega arith)
    go (nay e) (yea s) r = rw (e, s) (omega arith)
    go (nay e) (nay s) r = rw (e, s) (omega arith)

-- and one less, if h was in the set
count_less : (S : ℕ → Bool) (h n : ℕ) → h < n → S h ≡ true → count_below (less S h) n < count_below S n
unfolding count_below less
count_less S h zero hn s = omega arith
count_less S h (suc n) hn s = go (told (eqb n h)) (told (S n)) (λ k. count_less S h n k s)
  where
    go : Told (eqb n h) → Told (S n) → (h < n → count_below (less S h) n < count_below S n) → count_below (less S h) (suc n) < count_below S (suc n)
    go (yea e) (yea g) r = rw (e, g) (omega (arith, count_le S h n))
    go (yea e) (nay g) r = let b : ◌≡◌ {A = ℕ} 0 1 = cc (eqb-true n h e) in omega arith
    go (nay e) (yea g) r = let d : n ≢ h = eqb-false n h e in rw (e, g) (omega (arith, r (omega arith)))
    go (nay e) (nay g) r = let d : n ≢ h = eqb-false n h e in rw (e, g) (omega (arith, r (omega arith)))

-- the places on the way, the floor left out, are in S and below 64
data In (f : ℕ → ℕ) (S : ℕ → Bool) : ℕ → Type 0 where
  in0 : In f S 0
  ins : (q : ℕ) → S q ≡ true → q < 64 → In f S (f q) → In f S q

-- a way that does not meet h is in the set without h
in_less : {f : ℕ → ℕ} {S : ℕ → Bool} {h q : ℕ} → Off f h q → In f S q → In f (less S h) q
unfolding less
in_less off0 i = in0
in_less (offs q d o) in0 = in0
in_less {f} {S} {h} (offs q d o) (ins r s l i) = ins r (rw (ne_eqb r h d, s)) l (in_less o i)

module _ (f : ℕ → ℕ) (z : f 0 ≡ 0) where
  -- a way in a set of n places is over after n steps, since each step leaves one place of the set behind
  short : (n : ℕ) (S : ℕ → Bool) {q : ℕ} → count_below S 64 ≤ n → Up f q → In f S q → iter f n q ≡ 0
  unfolding iter
  short zero S le u in0 = refl
  short zero S le u (ins q s l i) = absurd (omega (arith, count_less S q 64 l s))
  short (suc n) S le u in0 = iter_floor f z (suc n)
  short (suc n) S le base (ins q s l i) = iter_floor f z (suc n)
  short (suc n) S le (up q u) (ins r s l i) = go (eq? q 0) (λ k j. short n (less S q) k u j)
    where
      go : (q ≡ 0) ⊎ (q ≢ 0) → (count_below (less S q) 64 ≤ n → In f (less S q) (f q) → iter f n (f q) ≡ 0) → iter f n (f q) ≡ 0
      go (inl e) h = rw (e, z) (iter_floor f z n)
      go (inr d) h = h (omega (arith, count_less S q 64 l s)) (in_less (above_off f z d (up q u)) i)

  -- the places but the floor
  nonzero : ℕ → Bool
  nonzero q = not (eqb q 0)

  -- every way is among them
  path_in : ((q : ℕ) → q < 64 → f q < 64) → {q : ℕ} → q < 64 → Up f q → In f nonzero q
  unfolding nonzero
  path_in b l base = in0
  path_in b l (up q u) = go (eq? q 0) (path_in b (b q l) u)
    where
      go : (q ≡ 0) ⊎ (q ≢ 0) → In f nonzero (f q) → In f nonzero q
      go (inl e) i = rw e in0
      go (inr d) i = ins q (rw (ne_eqb q 0 d)) l i

  -- 63 steps lead every place to the floor
  pub sixty_three : ((q : ℕ) → q < 64 → f q < 64) → {q : ℕ} → q < 64 → Up f q → iter f 63 q ≡ 0
  unfolding nonzero count_below
  sixty_three b l u = short 63 nonzero (omega arith) u (path_in b l u)

  -- a place that some number of steps leads to the floor is up
  pub up_of : (n : ℕ) {q : ℕ} → iter f n q ≡ 0 → Up f q
  unfolding iter
  up_of zero e = rw e base
  up_of (suc n) {q} e = up q (up_of n e)
