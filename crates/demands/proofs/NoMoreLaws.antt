-- A call changes what its step says, and no more: of every table, every agent and wish, and over every list of calls.
-- Each way that a step can go leaves alone what is not in use; only the one that opens makes a number unused and moves touches, and only the one
-- that puts brings a number into use.
use Rattle.std.specs.Prelude.{◌≡◌, refl, Bool, true, false, ◌||◌, List, [], ◌∷◌, ℕ, ◌+◌, eqb}
use Rattle.std.proofs.Common.{sym, ◌∙◌, subst, add-zero}
use Rattle.std.proofs.Math.Path.{ap}
use Rattle.std.proofs.Math.Bool.{cond}
use Rattle.order.specs.Row.{latest}
use Rattle.table.specs.Base.{upd}
use Rattle.table.proofs.BaseLaws.{Told, yea, nay, told}
use Rattle.table.specs.Bounds.{Sized}
use Rattle.table.specs.Cell.{State, cell_of, table_of, fresh_number}
use Rattle.table.proofs.CellLaws.{bounded}
use Rattle.table.specs.Sound.{sound}
use Rattle.table.specs.declared.Cell.{Cell}
use Rattle.meaning.specs.Answers.{Did, Refused, Count}
use Rattle.meaning.specs.Step.{Outcome, still, put, leave, dissolve, arrive, step}
use Rattle.meaning.specs.Run.{Call, step_call, touch_call, commit_call, step_of, made, turned_away, call_of, run}
use Rattle.meaning.specs.Ask.{commit_of}
use Rattle.meaning.proofs.AskLaws.{committed}
use Rattle.meaning.specs.Touch.{counted, untouched, touch_of}
use Rattle.demands.specs.ByWord.{used_after, touches_after, order_by}
use Rattle.demands.specs.NoMore.{Untouched, NeverUsed, UntouchedAlong, NoMore, OnlyTouches}
use Rattle.demands.specs.Invariant.{Sound}
use Rattle.demands.specs.Ways.{Way, is_done, is_asleep, held_first, held_second, held_own, held_destination, looks_up, looks_at_home}
use Rattle.demands.specs.Ways.{sleeps_alone, takes_first, goes_back, sleeps_stuck, takes_second, puts, sleeps_full, gives_up, enters, exits, opens}
use Rattle.demands.specs.Ways.{takes_own, takes_destination, comes}
use Rattle.demands.proofs.StepWays.{step_way}
use Rattle.demands.proofs.Unused.{untouched_none}
use Rattle.demands.proofs.OpeningLocks.{opener}
use Rattle.demands.proofs.OpeningTouches.{open_touches}
use Rattle.demands.proofs.Touching.{touch_only, touch_untouched, touched, touch_back}
use Rattle.demands.proofs.ChangesLaws.{way_changes}
use Rattle.demands.proofs.SoundTest.{sound_bounded}
use Rattle.demands.proofs.Always.{step_keeps, step_back, sized_called}

-- ---- one step of a cell

-- the number of a place that is put comes into use
put_used_lem : (used : ℕ → Bool) (n q : ℕ) → fresh_number used ≡ n → upd used n true q ≡ (eqb q (fresh_number used) || used q)
unfolding upd
put_used_lem used n q f = same (eqb q n) (used q) ∙ ap (λ (m : ℕ). eqb q m || used q) (sym f)
  where
    same : (b u : Bool) → cond b true u ≡ (b || u)
    same true u = refl
    same false u = refl

-- and has no touches
put_touches_lem : (touches : ℕ → ℕ) (used : ℕ → Bool) (n q : ℕ) → fresh_number used ≡ n
    → upd touches n 0 q ≡ cond (eqb q (fresh_number used)) 0 (touches q)
unfolding upd
put_touches_lem touches used n q f = ap (λ (m : ℕ). cond (eqb q m) 0 (touches q)) (sym f)

-- the places in use after each way
way_used : {c : State} {x wish : ℕ} {o : Outcome} → Way c x wish o
    → (q : ℕ) → o.cell.land.used q ≡ used_after (Did o.word o.woken) (c.agent x) c.land.used q
unfolding still put leave dissolve arrive
way_used (is_done _) q = refl
way_used (is_asleep _) q = refl
way_used (held_first _ _) q = refl
way_used (held_second _ _ _ _ _) q = refl
way_used (held_own _ _) q = refl
way_used (held_destination _ _) q = refl
way_used (looks_up _ _ _) q = refl
way_used (looks_at_home _ _) q = refl
way_used (sleeps_alone _ _ _) q = refl
way_used (takes_first _ _) q = refl
way_used (goes_back _ _) q = refl
way_used (sleeps_stuck _ _ _ _) q = refl
way_used (takes_second _ _ _ _ _ _ _) q = refl
way_used {c} (puts n _ _ f _) q = put_used_lem c.land.used n q f
way_used (sleeps_full _ _ _) q = refl
way_used (gives_up _ _) q = refl
way_used (enters _ _ _) q = refl
way_used (exits _ _ _) q = refl
way_used (opens _ _ _) q = refl
way_used (takes_own _ _) q = refl
way_used (takes_destination _ _) q = refl
way_used (comes _) q = refl

-- the touches after each way: the opener remembers its home
way_touches : {c : State} {x wish : ℕ} {o : Outcome} → Sound c → c.given x ≡ true → Way c x wish o
    → (q : ℕ) → o.cell.touches q ≡ touches_after (Did o.word o.woken) (c.agent x) c.land.used c.touches q
unfolding still put leave arrive
way_touches i g (is_done _) q = refl
way_touches i g (is_asleep _) q = refl
way_touches i g (held_first _ _) q = refl
way_touches i g (held_second _ _ _ _ _) q = refl
way_touches i g (held_own _ _) q = refl
way_touches i g (held_destination _ _) q = refl
way_touches i g (looks_up _ _ _) q = refl
way_touches i g (looks_at_home _ _) q = refl
way_touches i g (sleeps_alone _ _ _) q = refl
way_touches i g (takes_first _ _) q = refl
way_touches i g (goes_back _ _) q = refl
way_touches i g (sleeps_stuck _ _ _ _) q = refl
way_touches i g (takes_second _ _ _ _ _ _ _) q = refl
way_touches {c} i g (puts n _ _ f _) q = put_touches_lem c.touches c.land.used n q f
way_touches i g (sleeps_full _ _ _) q = refl
way_touches i g (gives_up _ _) q = refl
way_touches i g (enters _ _ _) q = refl
way_touches i g (exits _ _ _) q = refl
way_touches {c} {x} i g (opens s k _) q =
    let o = opener c i x g s k in
    open_touches i o q ∙ (unfold dissolve in
    ap (λ (h : ℕ). cond (eqb q (c.agent x).chosen) 0 (cond (eqb q h) (c.touches q + c.touches (c.agent x).chosen) (c.touches q))) (sym o.home))
way_touches i g (takes_own _ _) q = refl
way_touches i g (takes_destination _ _) q = refl
way_touches i g (comes _) q = refl

-- the row of places after each way
way_order : {c : State} {x wish : ℕ} {o : Outcome} → Way c x wish o → o.cell.land.order ≡ order_by o.word c x
unfolding still put leave dissolve arrive
way_order (is_done _) = refl
way_order (is_asleep _) = refl
way_order (held_first _ _) = refl
way_order (held_second _ _ _ _ _) = refl
way_order (held_own _ _) = refl
way_order (held_destination _ _) = refl
way_order (looks_up _ _ _) = refl
way_order (looks_at_home _ _) = refl
way_order (sleeps_alone _ _ _) = refl
way_order (takes_first _ _) = refl
way_order (goes_back _ _) = refl
way_order (sleeps_stuck _ _ _ _) = refl
way_order (takes_second _ _ _ _ _ _ _) = refl
way_order {c} (puts n _ _ f _) = ap (λ (m : ℕ). latest m c.land.order) (sym f)
way_order (sleeps_full _ _ _) = refl
way_order (gives_up _ _) = refl
way_order (enters _ _ _) = refl
way_order (exits _ _ _) = refl
way_order (opens _ _ _) = refl
way_order (takes_own _ _) = refl
way_order (takes_destination _ _) = refl
way_order (comes _) = refl

-- a step of a given agent in a sound cell
pub step_no_more : (c : State) → Sound c → (x : ℕ) → c.given x ≡ true → (wish : ℕ)
    → NoMore c x wish (step c x wish).cell (Did (step c x wish).word (step c x wish).woken)
step_no_more c i x g wish = record {
  untouched = (step_keeps c i x g wish).untouched;
  used = way_used (step_way c i x g wish);
  touches = way_touches i g (step_way c i x g wish);
  order = way_order (step_way c i x g wish);
  changes = way_changes c i x g wish (step_way c i x g wish);
}

-- a refused call
refused_no_more : (c : State) (x wish number : ℕ) → NoMore c x wish c (Refused number)
refused_no_more c x wish number = record { untouched = untouched_none c; used = λ q. refl; touches = λ q. refl; order = refl; changes = refl }

-- ---- calls on a table

-- the table after a step has the cell that the step makes
made_no_more : (t : Cell) → Sized t → Sound (cell_of t) → (x : ℕ) → (cell_of t).given x ≡ true → (wish : ℕ)
    → NoMore (cell_of t) x wish (cell_of (table_of (step (cell_of t) x wish).cell)) (Did (step (cell_of t) x wish).word (step (cell_of t) x wish).woken)
made_no_more t z i x g wish = subst (λ (d : State). NoMore (cell_of t) x wish d (Did (step (cell_of t) x wish).word (step (cell_of t) x wish).woken))
    (sym (step_back t z i x g wish)) (step_no_more (cell_of t) i x g wish)

-- a step call changes nothing that is not in use, makes no number unused but that of the place that it opens, brings none into use but that of the
-- place that it puts, moves the opened place's touches to the opener's place and no others, and of the row those that arrive and no others; of what
-- is in use it changes what the sentence of its word lists; the table has the sizes of the struct, as every value of it has
pub no_more : (t : Cell) (x wish : ℕ) → Sized t → NoMore (cell_of t) x wish (cell_of (step_of t x wish).cell) (step_of t x wish).answer
unfolding step_of made turned_away
no_more t x wish z = go (told (sound (cell_of t))) (told ((cell_of t).given x))
  where
    go : Told (sound (cell_of t)) → Told ((cell_of t).given x) → NoMore (cell_of t) x wish (cell_of (step_of t x wish).cell) (step_of t x wish).answer
    go (yea e) (yea g) = rw (e, g) (made_no_more t z (sound_bounded (cell_of t) (bounded t z) e) x g wish)
    go (yea e) (nay g) = rw (e, g) (refused_no_more (cell_of t) x wish _)
    go (nay e) _ = rw e (refused_no_more (cell_of t) x wish _)

-- a commit changes what the step that it makes changes, and no more, and nothing if it is refused
pub commit_no_more : (t : Cell) (x wish word woken place : ℕ) → Sized t
    → NoMore (cell_of t) x wish (cell_of (commit_of t x wish word woken place).cell) (commit_of t x wish word woken place).answer
unfolding turned_away
commit_no_more t x wish word woken place z = committed (λ s. NoMore (cell_of t) x wish (cell_of s.cell) s.answer) t x wish word woken place
    (no_more t x wish z) (refused_no_more (cell_of t) x wish _)

-- a touch call changes nothing but the touches of the place that it names, which grow by its number, or not at all if it is refused
pub only_touches : (t : Cell) (q n : ℕ) → Sized t → OnlyTouches (cell_of t) q n (cell_of (touch_of t q n).cell) (touch_of t q n).answer
unfolding counted untouched
only_touches t q n z = touched (λ s. OnlyTouches (cell_of t) q n (cell_of s.cell) s.answer) t q n
    (λ _. record { land = refl; lock = refl; agent = refl; given = refl; count = sym (add-zero ((cell_of t).touches q)); touches = λ r d. refl })
    (λ u _. subst (λ (d : State). OnlyTouches (cell_of t) q n d (Count ((cell_of t).touches q + n))) (sym (touch_back t q n z u))
    (touch_only (cell_of t) q n ((cell_of t).touches q + n)))

-- and nothing of a number that is not in use
touched_untouched : (t : Cell) (q n : ℕ) → Sized t → Untouched (cell_of t) (cell_of (touch_of t q n).cell)
unfolding counted untouched
touched_untouched t q n z = touched (λ s. Untouched (cell_of t) (cell_of s.cell)) t q n (λ _. untouched_none (cell_of t))
    (λ u _. subst (Untouched (cell_of t)) (sym (touch_back t q n z u)) (touch_untouched (cell_of t) q n u))

-- any call leaves alone what is not in use
pub called_untouched : (t : Cell) (k : Call) → Sized t → Untouched (cell_of t) (cell_of (call_of t k).cell)
unfolding call_of
called_untouched t (step_call x wish) z = (no_more t x wish z).untouched
called_untouched t (touch_call q n) z = touched_untouched t q n z
called_untouched t (commit_call x wish word woken place) z = (commit_no_more t x wish word woken place z).untouched

-- ---- a list of calls

-- one call before a list of calls
untouched_before : (t : Cell) (k : Call) (calls : List Call) → Untouched (cell_of t) (cell_of (call_of t k).cell) → UntouchedAlong (call_of t k).cell calls
    → UntouchedAlong t (k ∷ calls)
unfolding run
untouched_before t k calls m n = record {
  place = λ q never. n.place q (along q never) ∙ m.place q (before_it q never) (after_it q never);
  lock = λ q never. n.lock q (along q never) ∙ m.lock q (before_it q never) (after_it q never);
  agent = λ y g. n.agent y (ap (λ (f : ℕ → Bool). f y) m.given ∙ g) ∙ m.agent y g;
  given = n.given ∙ m.given;
  touches = λ q never. n.touches q (along q never) ∙ m.touches q (before_it q never) (after_it q never);
}
  where
    -- before the call, after it and along the rest
    before_it : (q : ℕ) → NeverUsed t (k ∷ calls) q → (cell_of t).land.used q ≡ false
    before_it q never = never [] (k ∷ calls) refl

    after_it : (q : ℕ) → NeverUsed t (k ∷ calls) q → (cell_of (call_of t k).cell).land.used q ≡ false
    after_it q never = never (k ∷ []) calls refl

    along : (q : ℕ) → NeverUsed t (k ∷ calls) q → NeverUsed (call_of t k).cell calls q
    along q never first rest e = never (k ∷ first) rest (ap (λ (s : List Call). k ∷ s) e)

-- over a list of calls what never is in use along it is as it was, and so is every agent that is not given; the same agents are given
pub no_more_run : (t : Cell) (calls : List Call) → Sized t → UntouchedAlong t calls
unfolding run
no_more_run t [] z = record { place = λ q never. refl; lock = λ q never. refl; agent = λ y g. refl; given = refl; touches = λ q never. refl }
no_more_run t (k ∷ calls) z = untouched_before t k calls (called_untouched t k z) (no_more_run (call_of t k).cell calls (sized_called t k z))
