-- "0 means nobody may" (document 02, W6): the calculus permits no action on a place whose key of the action's kind is 0.
-- Idea: a permitted action has the number of that key, and an action in range has a number that is not 0; a release is of no place, it gets a
-- number that is not in use.
use Rattle.std.specs.Prelude.{◌≡◌, true, false, not, ℕ, ltb, eqb}
use Rattle.std.proofs.Math.Path.{ap}
use Rattle.std.proofs.Common.{◌∙◌, arith}
use borrow.Author.Tests.{eqb-true, ltb-true}
use Rattle.table.proofs.BaseLaws.{Told, yea, nay, told, clash, and_left, and_right}
use Rattle.table.specs.Cell.{enter_kind, exit_kind, open_kind, release_kind, key_of, fresh_number}
use Rattle.table.proofs.FreshLaws.{fresh_unused}
use Rattle.meaning.specs.Calculus.{Tree, next_of, stands_at, may_enter, may_exit, may_open, has_room, may_release, permits}
use Rattle.calculus.specs.Formed.{Formed}
use Rattle.calculus.proofs.MoveFormed.{good_first}

module _ (t : Tree) (a m : ℕ) where
  -- n is the key of place m for actions of this kind and the number of the agent's next action
  abbrev Fits : ℕ → Type 0
  Fits kind = key_of kind (t.name m) ≡ (next_of t a).name

  enter_key : may_enter t a m ≡ true → Fits enter_kind
  unfolding may_enter
  enter_key e = eqb-true _ _ (and_right (not (eqb m (t.home a))) _ (and_right (stands_at t m (t.parent (t.home a))) _ (and_right (not (eqb (t.home a) 0)) _ e)))

  exit_key : may_exit t a m ≡ true → Fits exit_kind
  unfolding may_exit
  exit_key e = eqb-true _ _ (and_right (eqb m (t.parent (t.home a))) _ (and_right (not (eqb (t.home a) 0)) _ e))

  open_key : may_open t a m ≡ true → Fits open_kind
  unfolding may_open
  open_key e = eqb-true _ _ (and_right (stands_at t m (t.home a)) _ e)

  release_free : may_release t m ≡ true → t.used m ≡ false
  unfolding may_release has_room
  release_free e = ap t.used (eqb-true m _ (and_right (ltb (fresh_number t.used) 64) _ e))
      ∙ fresh_unused t.used (ltb-true (fresh_number t.used) 64 (and_left (ltb (fresh_number t.used) 64) _ e))

  -- a permitted action is an enter, an exit or an open, and its number is the key of that kind on the place, or a release, and m is not in use
  pub data Permitted : Type 0 where
    enters : (next_of t a).kind ≡ enter_kind → Fits enter_kind → Permitted
    exits : (next_of t a).kind ≡ exit_kind → Fits exit_kind → Permitted
    opens : (next_of t a).kind ≡ open_kind → Fits open_kind → Permitted
    releases : (next_of t a).kind ≡ release_kind → t.used m ≡ false → Permitted

  pub permitted_key : permits t a m ≡ true → Permitted
  unfolding permits
  permitted_key e = go (told (eqb (next_of t a).kind enter_kind)) (told (eqb (next_of t a).kind exit_kind)) (told (eqb (next_of t a).kind open_kind))
      (told (eqb (next_of t a).kind release_kind))
    where
      go : Told (eqb (next_of t a).kind enter_kind) → Told (eqb (next_of t a).kind exit_kind) → Told (eqb (next_of t a).kind open_kind)
          → Told (eqb (next_of t a).kind release_kind) → Permitted
      go (yea k) _ _ _ = enters (eqb-true _ _ k) (enter_key (rw k at e))
      go (nay k) (yea l) _ _ = exits (eqb-true _ _ l) (exit_key (rw (k, l) at e))
      go (nay k) (nay l) (yea n) _ = opens (eqb-true _ _ n) (open_key (rw (k, l, n) at e))
      go (nay k) (nay l) (nay n) (yea r) = releases (eqb-true _ _ r) (release_free (rw (k, l, n, r) at e))
      go (nay k) (nay l) (nay n) (nay r) = clash e (rw (k, l, n, r))

  -- "0 means nobody may", of every place, which is a number in use
  pub nobody_may : Formed t → t.used m ≡ true → key_of (next_of t a).kind (t.name m) ≡ 0 → permits t a m ≡ false
  nobody_may w u z = go (told (permits t a m))
    where
      none : Permitted → ⊥
      none (enters k n) = omega (arith, good_first (w.good a) (omega arith), ap (λ (i : ℕ). key_of i (t.name m)) k, z, n)
      none (exits k n) = omega (arith, good_first (w.good a) (omega arith), ap (λ (i : ℕ). key_of i (t.name m)) k, z, n)
      none (opens k n) = omega (arith, good_first (w.good a) (omega arith), ap (λ (i : ℕ). key_of i (t.name m)) k, z, n)
      none (releases k f) = clash u f

      go : Told (permits t a m) → permits t a m ≡ false
      go (yea e) = absurd (none (permitted_key e))
      go (nay e) = e
