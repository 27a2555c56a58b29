-- How many step calls change a table: exactly those whose answer says so, and no more than the rank of the cell that they start from.
-- Idea: a step call that says so lowers the rank, so the table is another; any other leaves the table as it was; a touch call leaves the rank.
use Rattle.std.specs.Prelude.{◌≡◌, List, [], ◌∷◌, Bool, true, false, ℕ, ◌+◌, ◌≤◌, ◌<◌}
use Rattle.std.proofs.Math.Path.{refl, ap}
use Rattle.std.proofs.Common.{sym, ◌∙◌, subst, zero-le, zero-add, le_trans, arith}
use Rattle.std.proofs.Math.Nat.{le_refl, le_of_eq}
use Rattle.table.proofs.BaseLaws.{Told, yea, nay, told, clash}
use Rattle.table.specs.Bounds.{Sized}
use Rattle.table.specs.Cell.{State, cell_of, table_of}
use Rattle.table.proofs.CellLaws.{back, bounded}
use Rattle.table.specs.Sound.{sound}
use Rattle.table.specs.declared.Cell.{Cell}
use Rattle.meaning.specs.declared.Stepped.{Stepped}
use Rattle.meaning.specs.Touch.{touch_of, counted, untouched}
use Rattle.meaning.specs.Run.{Call, step_call, touch_call, commit_call, step_reply, step_of, made, turned_away, call_of, run, answers}
use Rattle.meaning.specs.Limit.{changes_left}
use Rattle.meaning.proofs.AskLaws.{committed}
use Rattle.demands.specs.Invariant.{Sound}
use Rattle.demands.proofs.StepWays.{step_way}
use Rattle.demands.proofs.SoundTest.{sound_bounded}
use Rattle.demands.proofs.Touching.{touched, touch_back}
use Rattle.demands.proofs.Always.{step_keeps, step_back, sized_called, sound_called}
use Rattle.ceiling.specs.Ceiling.{is_step, Changing, no_call, no_step, unchanged, changed, says_change, changes_said}
use Rattle.ceiling.specs.Rank.{rank}
use Rattle.ceiling.proofs.RankLaws.{lower_rank, rank_touches, left_lower, left_touches}
use Rattle.ceiling.proofs.Lowering.{SameOrLower, same, lower, way_lowers}

-- ---- one call

-- the table after a step call, by whether its answer says that the cell changed: the same, or one whose cell has a lower rank
pub record EqualOrLower (t : Cell) (said : Bool) (t' : Cell) : Type 0 where
  pub equal : said ≡ false → t' ≡ t
  pub lowers : said ≡ true → rank (cell_of t') < rank (cell_of t)
  pub left : changes_left (cell_of t') ≤ changes_left (cell_of t)

-- the same table
equal_table : {t t' : Cell} → t' ≡ t → EqualOrLower t false t'
equal_table {t} e = record {
  equal = λ _. e;
  lowers = λ s. clash s refl;
  left = subst (λ (u : Cell). changes_left (cell_of u) ≤ changes_left (cell_of t)) (sym e) (le_refl _);
}

-- what a step call answers and leaves
abbrev Leaves : Cell → Stepped → Type 0
Leaves t r = EqualOrLower t (says_change (step_reply r.answer)) r.cell

module _ (t : Cell) (z : Sized t) (s : sound (cell_of t) ≡ true) where
  is_sound : Sound (cell_of t)
  is_sound = sound_bounded (cell_of t) (bounded t z) s

  -- the table of the cell after a step
  step_leaves : {said : Bool} {c' : State} → c'.given ≡ (cell_of t).given → cell_of (table_of c') ≡ c' → SameOrLower (cell_of t) said c'
      → EqualOrLower t said (table_of c')
  step_leaves given b same = equal_table (back t z)
  step_leaves {c'} given b (lower l) = record {
    equal = λ q. clash refl q;
    lowers = λ _. subst (λ (d : State). rank d < rank (cell_of t)) (sym b) (lower_rank given l);
    left = subst (λ (d : State). changes_left d ≤ changes_left (cell_of t)) (sym b) (left_lower given l);
  }

  -- the table after a step call for any agent
  stepped_leaves : (x wish : ℕ) → Leaves t (step_of t x wish)
  unfolding step_of made turned_away
  stepped_leaves x wish = go (told ((cell_of t).given x))
    where
      go : Told ((cell_of t).given x) → Leaves t (step_of t x wish)
      go (yea g) = rw (s, g)
          (step_leaves (step_keeps (cell_of t) is_sound x g wish).untouched.given (step_back t z is_sound x g wish)
          (way_lowers (cell_of t) is_sound x g (step_way (cell_of t) is_sound x g wish)))
      go (nay g) = rw (s, g) (equal_table refl)

  -- the table after any step call; a commit is one, or is refused
  pub call_leaves : (k : Call) → is_step k ≡ true → EqualOrLower t (says_change (call_of t k).reply) (call_of t k).cell
  unfolding call_of turned_away
  call_leaves (step_call x wish) _ = stepped_leaves x wish
  call_leaves (touch_call q n) e = clash e refl
  call_leaves (commit_call x wish word woken place) _ = committed (Leaves t) t x wish word woken place (stepped_leaves x wish) (equal_table refl)

  -- a step call that says so leaves another table
  pub says_changed : (k : Call) → is_step k ≡ true → says_change (call_of t k).reply ≡ true → (call_of t k).cell ≡ t → ⊥
  says_changed k e q f = omega (arith, (call_leaves k e).lowers q, ap (λ (u : Cell). rank (cell_of u)) f)

  -- a touch call leaves the rank
  touch_rank : (q n : ℕ) → rank (cell_of (touch_of t q n).cell) ≡ rank (cell_of t)
  unfolding counted untouched
  touch_rank q n = touched (λ r. rank (cell_of r.cell) ≡ rank (cell_of t)) t q n (λ _. refl)
      (λ u _. ap rank (touch_back t q n z u) ∙ rank_touches (cell_of t) _)

  -- no call makes more of the step calls that can still change the table
  pub call_left : (k : Call) → changes_left (cell_of (call_of t k).cell) ≤ changes_left (cell_of t)
  unfolding call_of counted untouched
  call_left (step_call x wish) = (call_leaves (step_call x wish) refl).left
  call_left (commit_call x wish word woken place) = (call_leaves (commit_call x wish word woken place) refl).left
  call_left (touch_call q n) = touched (λ r. changes_left (cell_of r.cell) ≤ changes_left (cell_of t)) t q n (λ _. le_refl _)
      (λ u _. le_of_eq (ap changes_left (touch_back t q n z u) ∙ left_touches (cell_of t) _))

-- ---- a list of calls

-- nor does a list of them
pub run_left : (t : Cell) (calls : List Call) → Sized t → sound (cell_of t) ≡ true → changes_left (cell_of (run t calls)) ≤ changes_left (cell_of t)
unfolding run
run_left t [] z s = le_refl _
run_left t (k ∷ calls) z s = le_trans (run_left (call_of t k).cell calls (sized_called t k z) (sound_called t k z s)) (call_left t z s k)

-- the step calls that change the table are those that say so, and no more than its rank
pub record Counted (t : Cell) (calls : List Call) : Type 0 where
  pub counts : Changing t calls (changes_said (answers t calls))
  pub few : changes_said (answers t calls) ≤ rank (cell_of t)

-- a step call and the rest
step_first : (t : Cell) → Sized t → sound (cell_of t) ≡ true → (k : Call) → is_step k ≡ true → (calls : List Call) → Counted (call_of t k).cell calls
    → Counted t (k ∷ calls)
unfolding answers changes_said
step_first t z s k e calls r = go (told (says_change (call_of t k).reply))
  where
    go : Told (says_change (call_of t k).reply) → Counted t (k ∷ calls)
    go (yea q) = record {
      counts = rw q (changed e (says_changed t z s k e q) r.counts);
      few = rw q (omega (arith, (call_leaves t z s k e).lowers q, r.few));
    }
    go (nay q) = let f = (call_leaves t z s k e).equal q in record {
      counts = rw (q, zero-add) (unchanged e f r.counts);
      few = rw (q, zero-add) (subst (λ (u : Cell). changes_said (answers (call_of t k).cell calls) ≤ rank (cell_of u)) f r.few);
    }

pub run_counted : (calls : List Call) (t : Cell) → Sized t → sound (cell_of t) ≡ true → Counted t calls
unfolding answers changes_said call_of
run_counted [] t z s = record { counts = no_call; few = zero-le }
run_counted (step_call x wish ∷ calls) t z s = let k : Call = step_call x wish in
    step_first t z s k refl calls (run_counted calls (call_of t k).cell (sized_called t k z) (sound_called t k z s))
run_counted (commit_call x wish word woken place ∷ calls) t z s = let k : Call = commit_call x wish word woken place in
    step_first t z s k refl calls (run_counted calls (call_of t k).cell (sized_called t k z) (sound_called t k z s))
run_counted (touch_call q n ∷ calls) t z s =
    let k : Call = touch_call q n in
    let r = run_counted calls (call_of t k).cell (sized_called t k z) (sound_called t k z s) in
    record {
      counts = rw (zero-add) (no_step refl r.counts);
      few = rw (zero-add) (subst (λ (m : ℕ). changes_said (answers (call_of t k).cell calls) ≤ m) (touch_rank t z s q n) r.few);
    }

-- no other number of them does
pub one_count : {t : Cell} {calls : List Call} {n m : ℕ} → Changing t calls n → Changing t calls m → n ≡ m
one_count no_call no_call = refl
one_count (no_step a r) (no_step b s) = one_count r s
one_count (no_step a r) (unchanged b f s) = clash b a
one_count (no_step a r) (changed b f s) = clash b a
one_count (unchanged a e r) (no_step b s) = clash a b
one_count (unchanged a e r) (unchanged b f s) = one_count r s
one_count (unchanged a e r) (changed b f s) = absurd (f e)
one_count (changed a e r) (no_step b s) = clash a b
one_count (changed a e r) (unchanged b f s) = absurd (e f)
one_count (changed a e r) (changed b f s) = ap (λ (n : ℕ). 1 + n) (one_count r s)
