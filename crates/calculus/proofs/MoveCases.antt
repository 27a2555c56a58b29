-- A move by its kind: an enter, an exit, an open or a release, its conditions as facts; each move is one of these and each of these is a move.
-- The tests `permits` and `move` are opened once, here, by the four tests on the kind of the agent's next action.
use Rattle.std.specs.Prelude.{◌≡◌, refl, ◌≢◌, Bool, true, false, not, ◌&&◌, ℕ, ◌≤◌, ◌<◌, ltb, eqb}
use Rattle.std.proofs.Common.{sym, ap, ◌∙◌, subst, arith}
use Rattle.std.proofs.Math.Bool.{and-false}
use borrow.Author.Tests.{eqb-true, eqb-false, eq-eqb, ne_eqb, ltb-true, lt-ltb, not-true}
use Rattle.table.proofs.BaseLaws.{Told, yea, nay, told, clash, and_left, and_right}
use Rattle.table.specs.Cell.{enter_kind, exit_kind, open_kind, release_kind, key_of, fresh_number}
use Rattle.meaning.specs.Calculus.{Tree, next_of, stands_at, may_enter, may_exit, may_open, has_room, may_release, permits, put_into, open_up, put_out, move, Move}

-- place m stands in p; the floor stands in none
pub record Stands (t : Tree) (m p : ℕ) : Type 0 where
  pub used : t.used m ≡ true
  pub placed : m ≢ 0
  pub parent : t.parent m ≡ p

-- what agent a's next action may do, with the tree it makes
pub data MoveCase (t : Tree) (a : ℕ) : Tree → Type 0 where
  -- its own place goes into another place m that stands beside it
  by_enter : (m : ℕ) → (next_of t a).kind ≡ enter_kind → t.home a ≢ 0 → Stands t m (t.parent (t.home a)) → m ≢ t.home a
      → key_of enter_kind (t.name m) ≡ (next_of t a).name
      → MoveCase t a (put_into t a m)
  -- its own place goes out of the place around it
  by_exit : (next_of t a).kind ≡ exit_kind → t.home a ≢ 0 → key_of exit_kind (t.name (t.parent (t.home a))) ≡ (next_of t a).name
      → MoveCase t a (put_into t a (t.parent (t.parent (t.home a))))
  -- a place m that stands in its own is opened
  by_open : (m : ℕ) → (next_of t a).kind ≡ open_kind → Stands t m (t.home a) → key_of open_kind (t.name m) ≡ (next_of t a).name
      → MoveCase t a (open_up t a m)
  -- a new place m is put into its own, under the smallest unused number
  by_release : (m : ℕ) → (next_of t a).kind ≡ release_kind → m < 64 → fresh_number t.used ≡ m → MoveCase t a (put_out t a m)

-- ---- tests and facts

-- a number that is not the other is another
pub differ : (q p : ℕ) → not (eqb q p) ≡ true → q ≢ p
differ q p e = eqb-false q p (not-true (eqb q p) e)

-- a test with a last part that is false
pub and_no : (b c : Bool) → b && (c && false) ≡ false
and_no b c = ap (λ (d : Bool). b && d) (and-false c) ∙ and-false b

-- both parts of a test
both : (b c : Bool) → (b && c) ≡ true → (b ≡ true) × (c ≡ true)
both b c e = (and_left b c e, and_right b c e)

-- the test that q stands in p says so
pub stands_in : (t : Tree) (q p : ℕ) → stands_at t q p ≡ true → Stands t q p
unfolding stands_at
stands_in t q p e =
    let x = both (t.used q) (not (eqb q 0) && eqb (t.parent q) p) e in
    let y = both (not (eqb q 0)) (eqb (t.parent q) p) x.1 in
    record { used = x.0; placed = differ q 0 y.0; parent = eqb-true (t.parent q) p y.1 }

pub in_stands : (t : Tree) (q p : ℕ) → Stands t q p → stands_at t q p ≡ true
unfolding stands_at
in_stands t q p i = rw (i.used, ne_eqb q 0 i.placed, eq-eqb (t.parent q) p i.parent)

module _ (t : Tree) (a m : ℕ) where
  -- the tests that enter, exit and open share
  abbrev off_floor : Bool
  off_floor = not (eqb (t.home a) 0)

  abbrev named : ℕ → Bool
  named kind = eqb (key_of kind (t.name m)) (next_of t a).name

  name_is : (kind : ℕ) → named kind ≡ true → key_of kind (t.name m) ≡ (next_of t a).name
  name_is kind e = eqb-true (key_of kind (t.name m)) (next_of t a).name e

  enter_case : (next_of t a).kind ≡ enter_kind → may_enter t a m ≡ true → MoveCase t a (put_into t a m)
  unfolding may_enter
  enter_case k e =
      let x = both off_floor (stands_at t m (t.parent (t.home a)) && (not (eqb m (t.home a)) && named enter_kind)) e in
      let y = both (stands_at t m (t.parent (t.home a))) (not (eqb m (t.home a)) && named enter_kind) x.1 in
      let z = both (not (eqb m (t.home a))) (named enter_kind) y.1 in
      by_enter m k (differ (t.home a) 0 x.0) (stands_in t m (t.parent (t.home a)) y.0) (differ m (t.home a) z.0) (name_is enter_kind z.1)

  exit_case : (next_of t a).kind ≡ exit_kind → may_exit t a m ≡ true → MoveCase t a (put_into t a (t.parent (t.parent (t.home a))))
  unfolding may_exit
  exit_case k e =
      let x = both off_floor (eqb m (t.parent (t.home a)) && named exit_kind) e in
      let y = both (eqb m (t.parent (t.home a))) (named exit_kind) x.1 in
      by_exit k (differ (t.home a) 0 x.0) (ap (λ q. key_of exit_kind (t.name q)) (sym (eqb-true m (t.parent (t.home a)) y.0)) ∙ name_is exit_kind y.1)

  open_case : (next_of t a).kind ≡ open_kind → may_open t a m ≡ true → MoveCase t a (open_up t a m)
  unfolding may_open
  open_case k e =
      let x = both (stands_at t m (t.home a)) (named open_kind) e in
      by_open m k (stands_in t m (t.home a) x.0) (name_is open_kind x.1)

  release_case : (next_of t a).kind ≡ release_kind → may_release t m ≡ true → MoveCase t a (put_out t a m)
  unfolding may_release has_room
  release_case k e =
      let x = both (ltb (fresh_number t.used) 64) (eqb m (fresh_number t.used)) e in
      let l = ltb-true (fresh_number t.used) 64 x.0 in
      let f = eqb-true m (fresh_number t.used) x.1 in
      by_release m k (omega arith) (sym f)

  permitted_case : permits t a m ≡ true → MoveCase t a (move t a m)
  unfolding permits move
  permitted_case e = go (told (eqb (next_of t a).kind enter_kind)) (told (eqb (next_of t a).kind exit_kind)) (told (eqb (next_of t a).kind open_kind))
      (told (eqb (next_of t a).kind release_kind))
    where
      go : Told (eqb (next_of t a).kind enter_kind) → Told (eqb (next_of t a).kind exit_kind) → Told (eqb (next_of t a).kind open_kind)
          → Told (eqb (next_of t a).kind release_kind) → MoveCase t a (move t a m)
      go (yea k) _ _ _ = rw (k, move) (enter_case (eqb-true (next_of t a).kind enter_kind k) (rw (k, permits) at e))
      go (nay k) (yea l) _ _ = rw (k, l, move) (exit_case (eqb-true (next_of t a).kind exit_kind l) (rw (k, l, permits) at e))
      go (nay k) (nay l) (yea n) _ = rw (k, l, n, move) (open_case (eqb-true (next_of t a).kind open_kind n) (rw (k, l, n, permits) at e))
      go (nay k) (nay l) (nay n) (yea r) = rw (k, l, n, move) (release_case (eqb-true (next_of t a).kind release_kind r) (rw (k, l, n, r, permits) at e))
      go (nay k) (nay l) (nay n) (nay r) = clash e (rw (k, l, n, r, permits))

-- ---- both ways

-- a move is an enter, an exit, an open or a release
pub move_case : {t u : Tree} {a : ℕ} → Move t a u → MoveCase t a u
move_case {t} {u} {a} v = subst (MoveCase t a) (sym v.result) (permitted_case t a v.place v.permitted)

-- an enter, an exit, an open and a release are moves
pub case_move : {t : Tree} {a : ℕ} {u : Tree} → MoveCase t a u → Move t a u
unfolding permits move may_enter may_exit may_open may_release has_room
case_move {t} {a} (by_enter m k h s d n) = record {
  place = m;
  permitted = rw (
    k,
    ne_eqb (t.home a) 0 h,
    in_stands t m (t.parent (t.home a)) s,
    ne_eqb m (t.home a) d,
    eq-eqb (key_of enter_kind (t.name m)) (next_of t a).name n,
  );
  result = rw k;
}
case_move {t} {a} (by_exit k h n) = record {
  place = t.parent (t.home a);
  permitted = rw (
    k,
    ne_eqb (t.home a) 0 h,
    eq-eqb (t.parent (t.home a)) (t.parent (t.home a)) refl,
    eq-eqb (key_of exit_kind (t.name (t.parent (t.home a)))) (next_of t a).name n,
  );
  result = rw k;
}
case_move {t} {a} (by_open m k s n) = record {
  place = m;
  permitted = rw (k, in_stands t m (t.home a) s, eq-eqb (key_of open_kind (t.name m)) (next_of t a).name n);
  result = rw k;
}
case_move {t} {a} (by_release m k l e) = record {
  place = m;
  permitted = rw (k, e, lt-ltb m 64 l, eq-eqb m m refl);
  result = rw k;
}

-- a move of release is made under the smallest unused number
pub release_only : {t : Tree} {a : ℕ} {u : Tree} → MoveCase t a u → (next_of t a).kind ≡ release_kind
    → (fresh_number t.used < 64) × (u ≡ put_out t a (fresh_number t.used))
release_only (by_enter m k h s d n) r = absurd (omega arith)
release_only (by_exit k h n) r = absurd (omega arith)
release_only (by_open m k s n) r = absurd (omega arith)
release_only {t} {a} (by_release m k l e) r = (subst (λ (q : ℕ). q < 64) (sym e) l, ap (put_out t a) (sym e))

-- an agent that moves has an action left
pub case_kind : {t : Tree} {a : ℕ} {u : Tree} → MoveCase t a u → 1 ≤ (next_of t a).kind
case_kind (by_enter m k h s d n) = omega arith
case_kind (by_exit k h n) = omega arith
case_kind (by_open m k s n) = omega arith
case_kind (by_release m k l e) = omega arith
