-- An agent's row of actions, read from the next one to the last. Assumes nothing.
-- Idea: before next and from count on nothing is asked of an action.
use Rattle.std.specs.Prelude.{◌≡◌, Bool, ◌&&◌, ℕ, ◌+◌, ◌≤◌, ◌<◌, ltb, get_or, None, Some}
use Rattle.std.proofs.Math.Path.{refl, sym}
use Rattle.std.proofs.Common.{ap, ◌∙◌, le_trans, arith}
use Rattle.std.proofs.Math.Bool.{true, false, cond}
use borrow.Author.Tests.{lt-ltb, le-ltb, le-leb, lt-leb}
use Rattle.table.specs.Base.{all_below}
use Rattle.table.proofs.BaseLaws.{all_yes, all_no, all_at, all_more, all_rest}
use Rattle.soundness.specs.Pass.{sixteen_fit}
use Rattle.soundness.specs.Turn.{row_kind}
use Rattle.table.specs.Cell.{no_action, next_action, kind_of}
use Rattle.table.specs.Sound.{action_fits, action_at, actions_fit}
use Rattle.table.specs.declared.Action.{Action}
use Rattle.table.specs.declared.Agent.{Agent}

-- the kind of the next action, where one is left and where none is
pub kind_some : (a : Agent) → a.next < a.count → a.count ≤ 16 → kind_of a ≡ (get_or a.actions a.next no_action).kind
kind_some a l h = ap (λ (v : Action). v.kind) next_is
  where
    next_is : next_action a ≡ get_or a.actions a.next no_action
    next_is = unfold next_action in rw (lt-ltb a.next a.count l, lt-ltb a.next 16 (omega arith))

pub kind_none : (a : Agent) → a.count ≤ a.next → kind_of a ≡ 0
kind_none a l = ap (λ (v : Action). v.kind) next_is
  where
    next_is : next_action a ≡ no_action
    next_is = unfold next_action in rw (le-ltb a.next a.count l)

-- a row that ends before it starts, or has more than sixteen actions, is out of range
pub row_crossed : (a : Agent) → a.count < a.next → false ≡ actions_fit a
unfolding actions_fit
row_crossed a l = sym (rw (lt-leb a.next a.count l))

pub row_long : (a : Agent) → a.next ≤ a.count → 16 < a.count → false ≡ actions_fit a
unfolding actions_fit
row_long a n l = sym (rw (le-leb a.next a.count n, lt-leb a.count 16 l))

module _ (a : Agent) (n : a.next ≤ a.count) (m : a.count ≤ 16) where
  row_is : actions_fit a ≡ all_below (action_at a) 16
  unfolding actions_fit
  row_is = rw (le-leb a.next a.count n, le-leb a.count 16 m)

  pub row_start : all_below (action_at a) a.next ≡ true
  row_start = all_yes (action_at a) a.next (λ j l. rw (lt-ltb j a.next l))

  -- the action at j, one of the unused
  module _ (j : ℕ) (from : a.next ≤ j) (to : j < a.count) where
    action_is : action_at a j ≡ action_fits (get_or a.actions j no_action)
    action_is = rw (le-ltb j a.next from, lt-ltb j a.count to)

    pub row_stop : action_fits (get_or a.actions j no_action) ≡ false → false ≡ actions_fit a
    row_stop e = sym (row_is ∙ all_no (action_at a) 16 j (omega arith) (action_is ∙ e))

    pub row_more : all_below (action_at a) j ≡ true → action_fits (get_or a.actions j no_action) ≡ true → all_below (action_at a) (j + 1) ≡ true
    row_more b e = sym (all_more (action_at a) true j (sym b)) ∙ ap (λ (x : Bool). x && true) (action_is ∙ e)

  pub row_end_lem : (j : ℕ) → a.count ≤ j → j ≤ a.count → all_below (action_at a) j ≡ true → true ≡ actions_fit a
  row_end_lem j g h b =
      let e : j ≡ a.count = omega arith in
      sym (row_is ∙ sym (all_rest (action_at a) a.count 16 m (λ k l _. rw (le-ltb k a.next (le_trans n l), le-ltb k a.count l))) ∙ sym (ap (all_below (action_at a)) e) ∙ b)

  -- a row of which all sixteen are in range
  pub row_full : sixteen_fit a.actions ≡ true → true ≡ actions_fit a
  unfolding sixteen_fit
  row_full e = sym (row_is ∙ all_yes (action_at a) 16 (λ j l. fits j (all_at (λ i. action_fits (get_or a.actions i no_action)) 16 j l e)))
    where
      both : (b c : Bool) → cond b true (cond c true true) ≡ true
      both true c = refl
      both false true = refl
      both false false = refl

      fits : (j : ℕ) → action_fits (get_or a.actions j no_action) ≡ true → action_at a j ≡ true
      fits j h = ap (λ (b : Bool). cond (ltb j a.next) true (cond (ltb j a.count) b true)) h ∙ both (ltb j a.next) (ltb j a.count)

-- ---- what is answered

pub kind_told : (a : Agent) (n : ℕ) → true ≡ actions_fit a → n ≡ kind_of a → Some n ≡ row_kind a
kind_told a n e k = rw (← e) (ap Some k)

pub kind_untold : (a : Agent) → false ≡ actions_fit a → None ≡ row_kind a
kind_untold a e = rw (← e)

-- the kind is told just of a row in range
module _ (a : Agent) where
  go_some : (b : Bool) (n k : ℕ) → Some n ≡ cond b (Some k) None → (b ≡ true) × (n ≡ k)
  go_some true n k e = (refl, (cc))
  go_some false n k e = absurd (cc)

  go_none : (b : Bool) (k : ℕ) → None ≡ cond b (Some k) None → b ≡ false
  go_none true k e = absurd (cc)
  go_none false k e = refl

  pub told_fits : (n : ℕ) → Some n ≡ row_kind a → actions_fit a ≡ true
  told_fits n e = (go_some (actions_fit a) n (kind_of a) e).0

  pub told_kind : (n : ℕ) → Some n ≡ row_kind a → n ≡ kind_of a
  told_kind n e = (go_some (actions_fit a) n (kind_of a) e).1

  pub told_out : None ≡ row_kind a → actions_fit a ≡ false
  told_out e = go_none (actions_fit a) (kind_of a) e
