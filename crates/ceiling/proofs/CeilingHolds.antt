-- No order can churn forever (document 02, W12): of every loaded cell, in every list of calls, at most 5 × G × (2 × A + 1) + 2 × A of the step
-- calls change the cell, and every other is refused or answers held, asleep or done; and of every sound table at most as many as the call for
-- the ceiling answers.
-- Idea: each step call that changes the cell lowers its rank, and the rank is at most that number.
use Rattle.std.specs.Prelude.{◌≡◌, refl, List, Bool, true, false, ◌&&◌, cond, ℕ, zero, suc, ◌+◌, ◌*◌, ◌≤◌, length}
use Rattle.std.proofs.Math.Path.{ap}
use Rattle.std.proofs.Common.{◌∙◌, subst, ⊎_elim, le_trans, arith}
use Rattle.sets.specs.Word.{bit}
use Rattle.table.specs.Base.{count_below, sum_below}
use Rattle.table.proofs.BaseLaws.{Told, yea, nay, told, count_none}
use Rattle.table.specs.Bounds.{Sized}
use Rattle.table.specs.Cell.{State, cell_of, table_of, unused}
use Rattle.table.proofs.CellLaws.{sized_table}
use Rattle.table.specs.Sound.{sound}
use Rattle.table.specs.declared.Agent.{Agent}
use Rattle.table.specs.declared.Cell.{Cell}
use Rattle.meaning.specs.Answers.{AtMost}
use Rattle.meaning.specs.File.{load, accepted}
use Rattle.meaning.specs.Run.{Call, run, answers}
use Rattle.meaning.specs.Limit.{agents_of, is_away, moves_of, moves_left, changes_left, ceiling_of}
use Rattle.demands.proofs.ReadingLaws.{agent_given}
use Rattle.demands.proofs.Facts.{not_yes}
use Rattle.demands.proofs.SoundTest.{sound_true}
use Rattle.demands.proofs.Always.{sized_run, sound_run}
use Rattle.demands.specs.Fresh.{Fresh}
use Rattle.demands.proofs.LoadingFile.{accepted_fresh}
use Rattle.demands.proofs.LoadingLaws.{fresh_stage, fresh_inv, fresh_forth}
use Rattle.demands.specs.AfterCalls.{answered}
use Rattle.ceiling.specs.Ceiling.{actions_of, away_of, ceiling, changes_said, UnderCeiling, UnderLimit}
use Rattle.ceiling.proofs.RankLaws.{rank_most}
use Rattle.ceiling.proofs.Counting.{call_leaves, says_changed, run_left, Counted, run_counted, one_count}

-- ---- any sound table

-- no more of the step calls change it than the call for the ceiling answers
pub under_limit : (t : Cell) → Sized t → sound (cell_of t) ≡ true → (calls : List Call) → UnderLimit t calls
under_limit t z s calls = record {
  few = λ n h. subst (λ (m : ℕ). m ≤ changes_left (cell_of t)) (one_count all.counts h) said;
  few_said = said;
  counted = all.counts;
  others = λ k e. (λ h. not_yes _ (λ q. says_changed u v w k e q h), (call_leaves u v w k e).equal);
  no_more = run_left t calls z s;
}
  where
    all : Counted t calls
    all = run_counted calls t z s

    said : changes_said (answers t calls) ≤ changes_left (cell_of t)
    said = le_trans all.few (rank_most (cell_of t))

    u : Cell
    u = run t calls

    v : Sized u
    v = sized_run t calls z

    w : sound (cell_of u) ≡ true
    w = sound_run t calls z s

-- ---- the moves that are left

-- two for each unused action, and one for each agent whose place is on its way
pub moves_counted : (c : State) → moves_left c ≡ 2 * actions_of c + away_of c
unfolding moves_left sum_below count_below
moves_counted c = go 64
  where
    both : (b v : Bool) (n : ℕ) → cond b (2 * n + bit v) 0 ≡ 2 * cond b n 0 + bit (b && v)
    both true v n = refl
    both false v n = refl

    go : (n : ℕ) → sum_below (λ x. cond (c.given x) (moves_of (c.agent x)) 0) n
        ≡ 2 * sum_below (λ x. cond (c.given x) (length (unused (c.agent x))) 0) n + count_below (λ x. c.given x && is_away (c.agent x).stage) n
    go zero = refl
    go (suc n) = omega (arith, go n, both (c.given n) (is_away (c.agent n).stage) (length (unused (c.agent n))))

-- ---- a cell as it is loaded

module _ (c : State) (f : Fresh c) where
  -- nothing is on its way
  fresh_away : away_of c ≡ 0
  fresh_away = count_none _ 64 (λ x _. go x (told (c.given x)))
    where
      at_home : (x : ℕ) → c.given x ≡ true → is_away (c.agent x).stage ≡ false
      at_home x g = subst (λ (a : Agent). is_away a.stage ≡ false) (agent_given c x g) (⊎_elim (ap is_away) (ap is_away) (fresh_stage c f x))

      go : (x : ℕ) → Told (c.given x) → (c.given x && is_away (c.agent x).stage) ≡ false
      go x (yea g) = rw (g, at_home x g)
      go x (nay g) = rw g

  -- two moves for each action
  fresh_moves : moves_left c ≡ 2 * actions_of c
  fresh_moves = omega (arith, moves_counted c, fresh_away)

  -- so of a loaded cell the number is the ceiling
  pub fresh_left : changes_left c ≡ ceiling c
  unfolding changes_left
  fresh_left = ap (λ (m : ℕ). 5 * agents_of c * (m + 1) + m) fresh_moves

  -- its table is sound
  fresh_sound : sound (cell_of (table_of c)) ≡ true
  fresh_sound = ap sound (fresh_forth c f) ∙ sound_true c (fresh_inv c f).sound

  -- and the call answers it
  pub ceiling_told : ceiling_of (table_of c) ≡ AtMost (ceiling c)
  unfolding ceiling_of
  ceiling_told = rw fresh_sound (ap AtMost (ap changes_left (fresh_forth c f) ∙ fresh_left))

  -- the request, of every cell that is as a load leaves one
  pub fresh_ceiling : (calls : List Call) → UnderCeiling c calls
  fresh_ceiling calls = record {
    few = λ n h. subst (λ (m : ℕ). n ≤ m) same (all.few n h);
    few_said = subst (λ (m : ℕ). changes_said (answered c calls) ≤ m) same all.few_said;
    counted = all.counted;
    others = all.others;
  }
    where
      all : UnderLimit (table_of c) calls
      all = under_limit (table_of c) (sized_table c) fresh_sound calls

      same : changes_left (cell_of (table_of c)) ≡ ceiling c
      same = ap changes_left (fresh_forth c f) ∙ fresh_left

-- ---- the request

-- request W12, of the cell c that a file s gives and a list of calls
pub under_ceiling : (s : List ℕ) (c : State) → load s ≡ accepted c → (calls : List Call) → UnderCeiling c calls
under_ceiling s c e = fresh_ceiling c (accepted_fresh s c e)
