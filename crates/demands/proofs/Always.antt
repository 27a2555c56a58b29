-- Every step keeps a cell sound and gives every sleeper a reason to sleep, from every sound cell, and so does every list of calls on a table.
-- Each way that a step can go has its own lemma; this file collects them, and goes from cells to tables: what a step makes of a table's cell
-- reads nothing at and past 64, so the table after it has just that cell.
use Rattle.std.specs.Prelude.{◌≡◌, refl, true, List, [], ◌∷◌, ℕ}
use Rattle.std.proofs.Common.{sym, subst, inl, arith}
use Rattle.table.proofs.BaseLaws.{Told, yea, nay, told}
use Rattle.table.specs.Bounds.{Sized, Bounded}
use Rattle.table.specs.Cell.{State, cell_of, table_of}
use Rattle.table.proofs.CellLaws.{bounded, forth, sized_table}
use Rattle.table.specs.Sound.{sound}
use Rattle.table.specs.declared.Cell.{Cell}
use Rattle.meaning.specs.Step.{Outcome, still, step}
use Rattle.meaning.specs.Run.{Call, step_call, touch_call, commit_call, step_of, made, turned_away, call_of, run}
use Rattle.meaning.proofs.AskLaws.{committed}
use Rattle.demands.specs.Invariant.{Sound, Inv}
use Rattle.demands.proofs.Facts.{not_yes}
use Rattle.demands.specs.Ways.{Way, is_done, is_asleep, held_first, held_second, held_own, held_destination, looks_up, looks_at_home}
use Rattle.demands.specs.Ways.{sleeps_alone, takes_first, goes_back, sleeps_stuck, takes_second, puts, sleeps_full, gives_up, enters, exits, opens}
use Rattle.demands.specs.Ways.{takes_own, takes_destination, comes}
use Rattle.demands.proofs.StepWays.{step_way}
use Rattle.demands.proofs.Change.{Keeps, keeps_inv}
use Rattle.demands.proofs.Quiet.{keep_look, keep_look_home, keep_sleep_alone, keep_take_first, keep_back, keep_sleep_stuck, keep_sleep_full}
use Rattle.demands.proofs.Quiet.{keep_take_second, keep_give_up, keep_take_own, keep_take_destination}
use Rattle.demands.proofs.Leaving.{keep_enter, keep_exit}
use Rattle.demands.proofs.Coming.{keep_come}
use Rattle.demands.proofs.Opening.{open_keeps}
use Rattle.demands.proofs.Putting.{keep_put}
use Rattle.demands.proofs.Unused.{untouched_none, untouched_bounded}
use Rattle.demands.proofs.SoundTest.{sound_true, sound_bounded}
use Rattle.demands.proofs.Touching.{sized_touched, inv_touched, sound_touched}

-- ---- one step of a cell

module _ (c : State) (i : Sound c) (x : ℕ) (g : c.given x ≡ true) where
  -- where nothing changes
  same : Keeps c x c
  same = record { sound = i; sleep = λ s. s; untouched = untouched_none c; touched = refl; others = λ y n. inl refl }

  -- every way keeps the cell
  pub way_keeps : {wish : ℕ} {o : Outcome} → Way c x wish o → Keeps c x o.cell
  unfolding still
  way_keeps (is_done _) = same
  way_keeps (is_asleep _) = same
  way_keeps (held_first _ _) = same
  way_keeps (held_second _ _ _ _ _) = same
  way_keeps (held_own _ _) = same
  way_keeps (held_destination _ _) = same
  way_keeps (looks_up s k _) = keep_look c i x g s k
  way_keeps (looks_at_home s _) = keep_look_home c i x g s
  way_keeps (sleeps_alone s k e) = keep_sleep_alone c i x g s k e
  way_keeps (takes_first s e) = keep_take_first c i x g s e
  way_keeps (goes_back s _) = keep_back c i x g s
  way_keeps {wish} (sleeps_stuck s k e l) = keep_sleep_stuck c i x g wish s k e l
  way_keeps {wish} (takes_second q s k e f l h) = keep_take_second c i x g wish q s k e f l h
  way_keeps (puts q s k e l) = keep_put c i x g s k q l e
  way_keeps (sleeps_full s k f) = keep_sleep_full c i x g s k f
  way_keeps (gives_up s _) = keep_give_up c i x g s
  way_keeps (enters s k e) = keep_enter c i x g s k e
  way_keeps (exits s k _) = keep_exit c i x g s k
  way_keeps (opens s k e) = open_keeps c i x g s k e
  way_keeps (takes_own s e) = keep_take_own c i x g s e
  way_keeps (takes_destination s e) = keep_take_destination c i x g s e
  way_keeps (comes s) = keep_come c i x g s

  -- so does every step
  pub step_keeps : (wish : ℕ) → Keeps c x (step c x wish).cell
  step_keeps wish = way_keeps (step_way c i x g wish)

-- a step keeps a cell sound, reached or not
pub step_sound : (c : State) → Sound c → (x : ℕ) → c.given x ≡ true → (wish : ℕ) → Sound (step c x wish).cell
step_sound c i x g wish = (step_keeps c i x g wish).sound

-- a step keeps the invariant
pub step_inv : (c : State) → Inv c → (x : ℕ) → c.given x ≡ true → (wish : ℕ) → Inv (step c x wish).cell
step_inv c i x g wish = keeps_inv (step_keeps c i.sound x g wish) i

-- ---- step calls on a table

-- what a step call leaves: the table as it was, or that of a step of a given agent in a sound cell
pub stepped : (P : Cell → Type 0) (t : Cell) (x wish : ℕ) → P t
    → (sound (cell_of t) ≡ true → (cell_of t).given x ≡ true → P (table_of (step (cell_of t) x wish).cell))
    → P (step_of t x wish).cell
unfolding step_of made turned_away
stepped P t x wish old new = go (told (sound (cell_of t))) (told ((cell_of t).given x))
  where
    go : Told (sound (cell_of t)) → Told ((cell_of t).given x) → P (step_of t x wish).cell
    go (yea e) (yea g) = rw (e, g) (new e g)
    go (yea e) (nay g) = rw (e, g) old
    go (nay e) _ = rw e old

-- the table after a step has the cell that the step makes
pub step_back : (t : Cell) → Sized t → Sound (cell_of t) → (x : ℕ) → (cell_of t).given x ≡ true → (wish : ℕ)
    → cell_of (table_of (step (cell_of t) x wish).cell) ≡ (step (cell_of t) x wish).cell
step_back t z i x g wish =
    let k = step_keeps (cell_of t) i x g wish in
    forth _ (untouched_bounded k.untouched (λ q l. not_yes _ (λ u. omega (arith, k.sound.places.small q u))) (bounded t z))

-- the table after a call has the sizes of the struct
pub sized_stepped : (t : Cell) (x wish : ℕ) → Sized t → Sized (step_of t x wish).cell
sized_stepped t x wish z = stepped Sized t x wish z (λ _ _. sized_table _)

-- and its cell the invariant
pub inv_stepped : (t : Cell) (x wish : ℕ) → Sized t → Inv (cell_of t) → Inv (cell_of (step_of t x wish).cell)
inv_stepped t x wish z i = stepped (λ (u : Cell). Inv (cell_of u)) t x wish i
    (λ _ g. subst Inv (sym (step_back t z i.sound x g wish)) (step_inv (cell_of t) i x g wish))

-- ---- any call

-- what any call leaves has the sizes of the struct
pub sized_called : (t : Cell) (k : Call) → Sized t → Sized (call_of t k).cell
unfolding call_of turned_away
sized_called t (step_call x wish) z = sized_stepped t x wish z
sized_called t (touch_call q n) z = sized_touched t q n z
sized_called t (commit_call x wish word woken place) z = committed (λ s. Sized s.cell) t x wish word woken place (sized_stepped t x wish z) z

-- and the invariant
pub inv_called : (t : Cell) (k : Call) → Sized t → Inv (cell_of t) → Inv (cell_of (call_of t k).cell)
unfolding call_of turned_away
inv_called t (step_call x wish) z i = inv_stepped t x wish z i
inv_called t (touch_call q n) z i = inv_touched t q n z i
inv_called t (commit_call x wish word woken place) z i = committed (λ s. Inv (cell_of s.cell)) t x wish word woken place (inv_stepped t x wish z i) i

-- so has every table after a list of calls
pub sized_run : (t : Cell) (calls : List Call) → Sized t → Sized (run t calls)
unfolding run
sized_run t [] z = z
sized_run t (k ∷ calls) z = sized_run (call_of t k).cell calls (sized_called t k z)

-- and its cell the invariant
pub inv_run : (t : Cell) (calls : List Call) → Sized t → Inv (cell_of t) → Inv (cell_of (run t calls))
unfolding run
inv_run t [] z i = i
inv_run t (k ∷ calls) z i = inv_run (call_of t k).cell calls (sized_called t k z) (inv_called t k z i)

-- ---- soundness as a test

-- a step in a cell that passes the test gives a cell that passes it
pub step_keeps_sound : (c : State) → Bounded c → (x : ℕ) → c.given x ≡ true → (wish : ℕ) → sound c ≡ true → sound (step c x wish).cell ≡ true
step_keeps_sound c b x g wish e = sound_true _ (step_sound c (sound_bounded c b e) x g wish)

-- a step call on a table whose cell is sound leaves one, whatever it answers; the table has the sizes of the struct, as every value of it has
pub sound_stepped : (t : Cell) (x wish : ℕ) → Sized t → sound (cell_of t) ≡ true → sound (cell_of (step_of t x wish).cell) ≡ true
sound_stepped t x wish z e = stepped (λ (u : Cell). sound (cell_of u) ≡ true) t x wish e
    (λ _ g. let i = sound_bounded (cell_of t) (bounded t z) e in
    subst (λ (c : State). sound c ≡ true) (sym (step_back t z i x g wish)) (sound_true _ (step_sound (cell_of t) i x g wish)))

-- so does every call
pub sound_called : (t : Cell) (k : Call) → Sized t → sound (cell_of t) ≡ true → sound (cell_of (call_of t k).cell) ≡ true
unfolding call_of turned_away
sound_called t (step_call x wish) z e = sound_stepped t x wish z e
sound_called t (touch_call q n) z e = sound_touched t q n z e
sound_called t (commit_call x wish word woken place) z e =
    committed (λ s. sound (cell_of s.cell) ≡ true) t x wish word woken place (sound_stepped t x wish z e) e

-- and every list of calls: a sound table is never turned away with 10
pub sound_run : (t : Cell) (calls : List Call) → Sized t → sound (cell_of t) ≡ true → sound (cell_of (run t calls)) ≡ true
unfolding run
sound_run t [] z e = e
sound_run t (k ∷ calls) z e = sound_run (call_of t k).cell calls (sized_called t k z) (sound_called t k z e)
