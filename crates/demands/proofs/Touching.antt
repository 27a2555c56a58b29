-- A touch call changes the touches of one place and nothing else, keeps the cell sound, and leaves every sleeper its reason to sleep.
-- Idea: no rule but the one on the sum reads touches; the call is refused where the sum would pass the bound.
use Rattle.std.specs.Prelude.{◌≡◌, refl, ◌↔◌, true, ℕ, ◌+◌, ◌≤◌, leb}
use Rattle.std.proofs.Common.{sym, leb-true}
use Rattle.std.proofs.Math.Path.{subst}
use Rattle.table.proofs.BaseLaws.{Told, yea, nay, told, upd_same, upd_other}
use Rattle.table.specs.Bounds.{Sized}
use Rattle.table.specs.Cell.{State, cell_of, table_of}
use Rattle.table.proofs.CellLaws.{bounded, forth, sized_table}
use Rattle.table.specs.Sound.{sound, touch_sum, most_touches}
use Rattle.table.proofs.SoundParts.{sound_touches}
use Rattle.table.specs.declared.Cell.{Cell}
use Rattle.meaning.specs.declared.Touched.{Touched}
use Rattle.meaning.specs.Answers.{Count}
use Rattle.meaning.specs.Refusals.{place_too_large, not_yet_given, unsound_table, too_many_touches}
use Rattle.meaning.specs.Touch.{add_touches, counted, untouched, touch_of}
use Rattle.demands.specs.Reading.{agent_in}
use Rattle.demands.specs.Invariant.{Sound, Inv}
use Rattle.demands.specs.NoMore.{Untouched, OnlyTouches}
use Rattle.demands.proofs.Unused.{upd_outside, untouched_bounded}
use Rattle.demands.proofs.Touches.{touch_sum_lem}
use Rattle.demands.proofs.SoundTest.{sound_true, sound_bounded}

-- ---- a cell with some touches more

module _ (c : State) (q n : ℕ) where
  pub touch_only : (new : ℕ) → OnlyTouches c q n (add_touches c q n) (Count new)
  touch_only new = record {
    land = refl;
    lock = refl;
    agent = refl;
    given = refl;
    count = upd_same c.touches q (c.touches q + n);
    touches = λ r d. upd_other c.touches q r _ d;
  }

  pub touch_untouched : c.land.used q ≡ true → Untouched c (add_touches c q n)
  touch_untouched u = record {
    place = λ r v w. refl;
    lock = λ r v w. refl;
    agent = λ y g. refl;
    given = refl;
    touches = λ r v _. upd_outside c.land.used c.touches q _ u r v;
  }

  module _ (u : c.land.used q ≡ true) (l : touch_sum c + n ≤ most_touches) where
    pub touch_sound : Sound c → Sound (add_touches c q n)
    unfolding agent_in
    touch_sound i = record {
      places = i.places;
      homes = i.homes;
      fit = i.fit;
      few = i.few;
      ok = i.ok;
      locks = i.locks;
      mover = i.mover;
      touched = subst (λ (m : ℕ). m ≤ most_touches) (sym (touch_sum_lem c q n u (i.places.small q u))) l;
      single = i.single;
    }

    pub touch_inv : Inv c → Inv (add_touches c q n)
    unfolding agent_in
    touch_inv i = record { sound = touch_sound i.sound; sleep = i.sleep }

-- "15 .. if that call would make it so": the cell with the touches more passes the test exactly if the sum stays within the bound
pub touch_passes : (c : State) → Sound c → (q n : ℕ) → c.land.used q ≡ true → (sound (add_touches c q n) ≡ true) ↔ (touch_sum c + n ≤ most_touches)
touch_passes c i q n u = (
  λ e. subst (λ (m : ℕ). m ≤ most_touches) (touch_sum_lem c q n u (i.places.small q u)) (sound_touches (add_touches c q n) e),
  λ l. sound_true (add_touches c q n) (touch_sound c q n u l i),
)

-- ---- touch calls on a table

-- what a touch call leaves and answers: a refusal and the table as it was, or the cell with some touches more, whose sum stays within the bound
pub touched : (P : Touched → Type 0) (t : Cell) (q n : ℕ) → ((number : ℕ) → P (untouched t number))
    → ((cell_of t).land.used q ≡ true → touch_sum (cell_of t) + n ≤ most_touches → P (counted (cell_of t) q n))
    → P (touch_of t q n)
unfolding touch_of
touched P t q n old new = go (told (sound (cell_of t))) (told (leb 64 q)) (told ((cell_of t).land.used q)) (told (leb (touch_sum (cell_of t) + n) most_touches))
  where
    go : Told (sound (cell_of t)) → Told (leb 64 q) → Told ((cell_of t).land.used q) → Told (leb (touch_sum (cell_of t) + n) most_touches)
        → P (touch_of t q n)
    go (nay e) _ _ _ = rw e (old unsound_table)
    go (yea e) (yea l) _ _ = rw (e, l) (old place_too_large)
    go (yea e) (nay l) (nay u) _ = rw (e, l, u) (old not_yet_given)
    go (yea e) (nay l) (yea u) (nay m) = rw (e, l, u, m) (old too_many_touches)
    go (yea e) (nay l) (yea u) (yea m) = rw (e, l, u, m) (new u (leb-true (touch_sum (cell_of t) + n) most_touches m))

module _ (t : Cell) (q n : ℕ) (z : Sized t) where
  -- the table after it has the cell with the touches more
  pub touch_back : (cell_of t).land.used q ≡ true → cell_of (table_of (add_touches (cell_of t) q n)) ≡ add_touches (cell_of t) q n
  touch_back u = forth _ (untouched_bounded (touch_untouched (cell_of t) q n u) (bounded t z).used (bounded t z))

  -- and the sizes of the struct
  pub sized_touched : Sized (touch_of t q n).cell
  unfolding counted untouched
  sized_touched = touched (λ s. Sized s.cell) t q n (λ _. z) (λ _ _. sized_table _)

  -- its cell keeps the invariant
  pub inv_touched : Inv (cell_of t) → Inv (cell_of (touch_of t q n).cell)
  unfolding counted untouched
  inv_touched i = touched (λ s. Inv (cell_of s.cell)) t q n (λ _. i) (λ u l. subst Inv (sym (touch_back u)) (touch_inv (cell_of t) q n u l i))

  -- and stays sound
  pub sound_touched : sound (cell_of t) ≡ true → sound (cell_of (touch_of t q n).cell) ≡ true
  unfolding counted untouched
  sound_touched e = touched (λ s. sound (cell_of s.cell) ≡ true) t q n (λ _. e)
      (λ u l. subst (λ (c : State). sound c ≡ true) (sym (touch_back u))
      (sound_true _ (touch_sound (cell_of t) q n u l (sound_bounded (cell_of t) (bounded t z) e))))
