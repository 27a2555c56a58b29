-- What is in use neither before nor after stays as it is: what a change of agents, locks and places in use leaves alone.
-- One value changed at a number in use is no change at one that is not.
use Rattle.std.specs.Prelude.{◌≡◌, refl, Bool, ◌≢◌, List, ℕ, ◌≤◌}
use Rattle.std.proofs.Common.{ap, ◌∙◌}
use Rattle.std.proofs.Math.Bool.{true, false}
use Rattle.table.specs.Base.{upd}
use Rattle.table.proofs.BaseLaws.{clash, upd_at, upd_other}
use Rattle.table.specs.Bounds.{Bounded}
use Rattle.table.specs.Cell.{State, none}
use Rattle.table.specs.declared.Place.{Place}
use Rattle.table.specs.declared.Agent.{Agent}
use Rattle.meaning.specs.Update.{with_places, with_order, with_land, with_locks, with_agents, with_agent, released}
use Rattle.meaning.specs.Step.{wake, put, dissolve, dissolve_lock}
use Rattle.demands.specs.NoMore.{Untouched}

-- ---- one value and another

-- one value changed where P holds: elsewhere a function is as it was
pub upd_outside : {A : Type 0} (P : ℕ → Bool) (f : ℕ → A) (i : ℕ) (v : A) → P i ≡ true → (j : ℕ) → P j ≡ false → upd f i v j ≡ f j
upd_outside P f i v u j n = upd_other f i j v (λ e. clash (ap P e ∙ u) n)

-- the locks of p and q released
pub released_outside : (P : ℕ → Bool) (lock : ℕ → ℕ) (p q : ℕ) → P p ≡ true → P q ≡ true → (j : ℕ) → P j ≡ false → released lock p q j ≡ lock j
released_outside P lock p q u v j n = upd_outside P (upd lock p none) q none v j n ∙ upd_outside P lock p none u j n

-- ---- no change

pub untouched_none : (c : State) → Untouched c c
untouched_none c = record { place = λ q u v. refl; lock = λ q u v. refl; agent = λ y n. refl; given = refl; touches = λ q u v. refl }

-- what reads nothing at and past 64 reads nothing there after, where no number there comes into use
pub untouched_bounded : {c d : State} → Untouched c d → ((q : ℕ) → 64 ≤ q → d.land.used q ≡ false) → Bounded c → Bounded d
untouched_bounded m used b = record {
  place = λ q l. m.place q (b.used q l) (used q l) ∙ b.place q l;
  used = used;
  lock = λ q l. m.lock q (b.used q l) (used q l) ∙ b.lock q l;
  agent = λ y l. m.agent y (b.given y l) ∙ b.agent y l;
  given = λ y l. ap (λ (f : ℕ → Bool). f y) m.given ∙ b.given y l;
  touches = λ q l. m.touches q (b.used q l) (used q l) ∙ b.touches q l;
}

-- ---- the changes of a step of agent x

module _ (c : State) (x : ℕ) (g : c.given x ≡ true) where
  -- one agent and locks of places in use change
  pub turned_untouched : (a : Agent) (locks : ℕ → ℕ) → ((q : ℕ) → c.land.used q ≡ false → locks q ≡ c.lock q)
      → Untouched c (with_locks (with_agent c x a) locks)
  turned_untouched a locks same = record {
    place = λ q u v. refl;
    lock = λ q u v. same q u;
    agent = upd_outside c.given c.agent x a g;
    given = refl;
    touches = λ q u v. refl;
  }

  -- sleepers are woken, place h changes too, and so may the row
  pub woken_untouched : (p q r h : ℕ) (a : Agent) (locks : ℕ → ℕ) (new : Place) (row : List ℕ) → c.land.used h ≡ true
      → ((s : ℕ) → c.land.used s ≡ false → locks s ≡ c.lock s)
      → Untouched c (with_land (with_locks (with_agents c (upd (wake c p q r) x a)) locks) (with_order (with_places c.land (upd c.land.place h new)) row))
  unfolding wake
  woken_untouched p q r h a locks new row u same = record {
    place = λ s n _. upd_outside c.land.used c.land.place h new u s n;
    lock = λ s n _. same s n;
    agent = λ y n. upd_outside c.given (wake c p q r) x a g y n ∙ rw n;
    given = refl;
    touches = λ s n _. refl;
  }

  -- place t is dissolved into p
  pub opened_untouched : (p t : ℕ) → c.land.used p ≡ true → c.land.used t ≡ true → Untouched c (dissolve c x (c.agent x) p t).cell
  unfolding dissolve dissolve_lock
  opened_untouched p t v w = record {
    place = λ q u _. rw u;
    lock = λ q u _. released_outside c.land.used (dissolve_lock c t) p t v w q u ∙ rw u;
    agent = λ y n. upd_outside c.given _ x _ g y n ∙ rw n;
    given = refl;
    touches = λ q u _. upd_outside c.land.used _ t _ w q u ∙ upd_outside c.land.used _ p _ v q u;
  }

  -- a new place q is put into the place that the agent remembers
  pub put_untouched : (q : ℕ) → c.land.used (c.agent x).remembered ≡ true → Untouched c (put c x (c.agent x) q).cell
  unfolding put wake
  put_untouched q u = record {
    place = λ s _ v. upd_other c.land.place q s _ (other s v);
    lock = λ s n v. upd_other _ q s none (other s v) ∙ upd_outside c.land.used c.lock _ none u s n;
    agent = λ y n. upd_outside c.given (wake c _ _ _) x _ g y n ∙ rw n;
    given = refl;
    touches = λ s _ v. upd_other c.touches q s 0 (other s v);
  }
    where
      other : (s : ℕ) → upd c.land.used q true s ≡ false → s ≢ q
      other s v z = clash (upd_at c.land.used q s true z) v
