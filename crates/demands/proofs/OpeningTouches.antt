-- Where the touches of an opened place go: its count is pooled into the opener's place, and the freed number has none.
-- The opener's place and the place that it opens are two places in use, and the sum of all touches is small.
use Rattle.std.specs.Prelude.{◌≡◌, refl, ◌≢◌, true, cond, ℕ, ◌+◌, ◌%◌, ◌^◌, eqb}
use Rattle.std.proofs.Common.{sym, ap, ◌∙◌, eq-eqb, ne_eqb}
use Rattle.table.specs.Cell.{State}
use Rattle.table.specs.Sound.{touch_sum}
use Rattle.meaning.specs.Step.{dissolve}
use Rattle.demands.specs.Invariant.{Sound}
use Rattle.demands.proofs.Facts.{link_used}
use Rattle.demands.proofs.OpeningPlaces.{child_not_self}
use Rattle.demands.proofs.OpeningLocks.{Opener}
use Rattle.demands.proofs.Touches.{pooled_exact, pooled_at, pooled_sum}

module _ {c : State} {x p t : ℕ} (i : Sound c) (o : Opener c x p t) where
  home_used : c.land.used p ≡ true
  home_used = ap c.land.used (sym o.under.parent) ∙ i.places.parent_used t

  chosen_used : c.land.used t ≡ true
  chosen_used = link_used c.land t o.under.link

  other : t ≢ p
  other e = child_not_self i.places o.under (sym e)

  -- pooling never wraps
  pub pool_exact : (c.touches p + c.touches t) % 2 ^ 64 ≡ c.touches p + c.touches t
  pool_exact = pooled_exact c p t home_used chosen_used i.places.small other i.touched

  -- the opener's place has the sum of the two counts, the freed number none, and no other count changes
  pub open_touches : (q : ℕ) → (dissolve c x (c.agent x) p t).cell.touches q ≡ cond (eqb q t) 0 (cond (eqb q p) (c.touches q + c.touches t) (c.touches q))
  unfolding dissolve
  open_touches = pooled_at c p t pool_exact

  pub opened_home : (dissolve c x (c.agent x) p t).cell.touches p ≡ c.touches p + c.touches t
  opened_home = open_touches p ∙ rw (ne_eqb p t (λ e. other (sym e)), eq-eqb p p refl)

  pub opened_freed : (dissolve c x (c.agent x) p t).cell.touches t ≡ 0
  opened_freed = open_touches t ∙ rw (eq-eqb t t refl)

  -- the sum of all is as it was
  pub open_sum : touch_sum (dissolve c x (c.agent x) p t).cell ≡ touch_sum c
  open_sum = pooled_sum c p t home_used chosen_used i.places.small other pool_exact x (c.agent x)
