-- A move keeps a tree formed, and the agent that makes it has a number below 64.
-- Idea: an enter and an exit change one parent to a place in use (`enter_up`, `exit_up` keep the way to the floor); an opening replaces one place by
-- the agent's own wherever it was named (`opened_up`); a release puts a place in which nothing stands (`put_up`).
use Rattle.std.specs.Prelude.{◌≡◌, refl, ◌≢◌, List, [], ℕ, ◌≤◌, ◌<◌, Bool, cond, ltb, eqb}
use Rattle.std.proofs.Common.{sym, ap, ◌∙◌, subst, arith}
use Rattle.std.proofs.Math.Bool.{true, false}
use borrow.Author.Tests.{eqb-false, ne_eqb, ltb-true, ltb-false}
use Rattle.table.specs.Base.{upd}
use Rattle.table.proofs.BaseLaws.{Told, yea, nay, told, clash, upd_other, upd_all}
use Rattle.table.specs.Cell.{no_name, plain_name, exit_kind, key_of, fresh_number}
use Rattle.table.proofs.FreshLaws.{fresh_unused}
use Rattle.table.specs.declared.Action.{Action}
use Rattle.meaning.specs.Calculus.{Tree, first_of, rest_of, next_of, put_into, open_up, put_out, Move}
use Rattle.calculus.proofs.Up.{enter_up, exit_up, put_up, opened_up}
use Rattle.calculus.specs.Up.{Up}
use Rattle.calculus.specs.Formed.{Good, none, more, Formed}
use Rattle.calculus.proofs.MoveCases.{Stands, MoveCase, by_enter, by_exit, by_open, by_release, move_case, case_kind}
use Rattle.calculus.proofs.Above.{below_one, below_not}

-- ---- rows of actions

-- a row in range without its first action is in range, and its first action has a name
pub good_rest : {l : List Action} → Good l → Good (rest_of l)
good_rest none = none
good_rest (more a b c g) = g

pub good_first : {l : List Action} → Good l → 1 ≤ (first_of l).kind → 1 ≤ (first_of l).name
good_first none k = k
good_first (more a b c g) k = c

rest_none : (l : List Action) → l ≡ [] → rest_of l ≡ []
rest_none l e = rw e

first_none : (l : List Action) → l ≡ [] → 1 ≤ (first_of l).kind → ⊥
first_none l e k = let y : 1 ≤ (first_of []).kind = subst (λ l. 1 ≤ (first_of l).kind) e k in omega arith

module _ (t : Tree) (w : Formed t) (a : ℕ) where
  -- an agent that has an action left is one of the 64
  pub acting_few : 1 ≤ (next_of t a).kind → a < 64
  acting_few k = go (told (ltb a 64))
    where
      go : Told (ltb a 64) → a < 64
      go (yea e) = ltb-true a 64 e
      go (nay e) = absurd (first_none (t.unused a) (w.few a (ltb-false a 64 e)) k)

  -- the place around an exit's place is not the floor, for the floor has no keys
  pub exit_placed : (next_of t a).kind ≡ exit_kind → key_of exit_kind (t.name (t.parent (t.home a))) ≡ (next_of t a).name → t.parent (t.home a) ≢ 0
  exit_placed k n e =
      let y : key_of exit_kind (t.name 0) ≡ (next_of t a).name = ap (λ q. key_of exit_kind (t.name q)) (sym e) ∙ n in
      omega (arith, good_first (w.good a) (omega arith), ap (key_of exit_kind) w.floor_name)

  spent_good : (x : ℕ) → Good (upd t.unused a (rest_of (t.unused a)) x)
  spent_good = upd_all t.unused a _ (λ x l. Good l) (good_rest (w.good a)) (λ x _. w.good x)

  spent_few : (x : ℕ) → 64 ≤ x → upd t.unused a (rest_of (t.unused a)) x ≡ []
  spent_few = upd_all t.unused a _ (λ x l. 64 ≤ x → l ≡ []) (λ k. rest_none _ (w.few a k)) (λ x _. w.few x)

  -- ---- enter and exit

  put_formed : (d : ℕ) → t.home a ≢ 0 → t.used d ≡ true → ((q : ℕ) → Up (upd t.parent (t.home a) d) q) → Formed (put_into t a d)
  unfolding put_into
  put_formed d h ud us = record {
    floor_parent = upd_other t.parent (t.home a) 0 d (λ e. h (sym e)) ∙ w.floor_parent;
    floor_name = w.floor_name;
    floor_used = w.floor_used;
    tree = us;
    parent_used = upd_all t.parent (t.home a) d (λ q r. t.used r ≡ true) ud (λ q _. w.parent_used q);
    small = w.small;
    homes = w.homes;
    good = spent_good;
    few = spent_few;
  }

  -- into a place beside its own
  pub enter_formed : (m : ℕ) → t.home a ≢ 0 → Stands t m (t.parent (t.home a)) → m ≢ t.home a → Formed (put_into t a m)
  enter_formed m h s d = put_formed m h s.used (enter_up t.parent w.floor_parent (t.home a) m h d s.parent w.tree)

  -- out of the place around it
  pub exit_formed : t.home a ≢ 0 → Formed (put_into t a (t.parent (t.parent (t.home a))))
  exit_formed h = put_formed _ h (w.parent_used _) (exit_up t.parent w.floor_parent (t.home a) h w.tree)

  -- ---- open

  -- m stands in the agent's own place
  module _ (m : ℕ) (s : Stands t m (t.home a)) where
    own_not : t.home a ≢ m
    own_not e = below_not t w (below_one s.placed s.parent) (sym e)

    floor_not : 0 ≢ m
    floor_not e = s.placed (sym e)

    -- in use after m is opened
    abbrev still : ℕ → Bool
    still r = upd t.used m false r

    still_used : (r : ℕ) → r ≢ m → t.used r ≡ true → still r ≡ true
    still_used r d u = upd_other t.used m r false d ∙ u

    -- a place in use, with the agent's own for m, is in use after
    moved_used : (r : ℕ) → t.used r ≡ true → still (cond (eqb r m) (t.home a) r) ≡ true
    moved_used r u = go (told (eqb r m))
      where
        go : Told (eqb r m) → still (cond (eqb r m) (t.home a) r) ≡ true
        go (yea e) = rw e (still_used (t.home a) own_not (w.homes a))
        go (nay e) = rw e (still_used r (eqb-false r m e) u)

    -- the tree after the opening is formed
    pub open_formed : Formed (open_up t a m)
    unfolding open_up
    open_formed = record {
      floor_parent = rw (ne_eqb 0 m floor_not, w.floor_parent, ne_eqb 0 m floor_not);
      floor_name = upd_other t.name m 0 no_name floor_not ∙ w.floor_name;
      floor_used = still_used 0 floor_not w.floor_used;
      tree = opened_up t.parent w.floor_parent m (t.home a) s.parent w.tree;
      parent_used = λ q. go q (told (eqb q m));
      small = λ q. upd_all t.used m false (λ r b. b ≡ true → r < 64) (λ e. clash e refl) (λ r _. w.small r) q;
      homes = λ x. moved_used (t.home x) (w.homes x);
      good = spent_good;
      few = spent_few;
    }
      where
        go : (q : ℕ) → Told (eqb q m) → still (cond (eqb q m) 0 (cond (eqb (t.parent q) m) (t.home a) (t.parent q))) ≡ true
        go q (yea e) = rw e (still_used 0 floor_not w.floor_used)
        go q (nay e) = rw e (moved_used (t.parent q) (w.parent_used q))

  -- ---- release

  -- m is not in use
  module _ (m : ℕ) (l : m < 64) (free : t.used m ≡ false) where
    pub new_placed : m ≢ 0
    new_placed e = clash (ap t.used e ∙ w.floor_used) free

    -- a place in use is another
    pub new_other : (r : ℕ) → t.used r ≡ true → r ≢ m
    new_other r u e = clash (ap t.used (sym e) ∙ u) free

    -- and stays in use
    kept_used : (r : ℕ) → t.used r ≡ true → upd t.used m true r ≡ true
    kept_used = upd_all t.used m true (λ r b. t.used r ≡ true → b ≡ true) (λ _. refl) (λ r _ u. u)

    -- the tree with the new place is formed
    pub put_out_formed : Formed (put_out t a m)
    unfolding put_out
    put_out_formed = record {
      floor_parent = upd_other t.parent m 0 (t.home a) (λ e. new_placed (sym e)) ∙ w.floor_parent;
      floor_name = upd_other t.name m 0 (plain_name (next_of t a).name) (λ e. new_placed (sym e)) ∙ w.floor_name;
      floor_used = kept_used 0 w.floor_used;
      tree = put_up t.parent w.floor_parent m (t.home a) new_placed (new_other (t.home a) (w.homes a))
          (λ q. new_other (t.parent q) (w.parent_used q)) w.tree;
      parent_used = upd_all t.parent m (t.home a) (λ q r. upd t.used m true r ≡ true) (kept_used (t.home a) (w.homes a))
          (λ q _. kept_used (t.parent q) (w.parent_used q));
      small = upd_all t.used m true (λ r b. b ≡ true → r < 64) (λ _. l) (λ r _. w.small r);
      homes = λ x. kept_used (t.home x) (w.homes x);
      good = spent_good;
      few = spent_few;
    }

-- the smallest unused number is not in use
pub fresh_free : (t : Tree) {m : ℕ} → m < 64 → fresh_number t.used ≡ m → t.used m ≡ false
fresh_free t {m} l e = subst (λ (q : ℕ). t.used q ≡ false) e (fresh_unused t.used (subst (λ (q : ℕ). q < 64) (sym e) l))

-- ---- any move

case_formed : {t : Tree} {a : ℕ} {u : Tree} → Formed t → MoveCase t a u → Formed u
case_formed {t} {a} w (by_enter m k h s d n) = enter_formed t w a m h s d
case_formed {t} {a} w (by_exit k h n) = exit_formed t w a h
case_formed {t} {a} w (by_open m k s n) = open_formed t w a m s
case_formed {t} {a} w (by_release m k l e) = put_out_formed t w a m l (fresh_free t l e)

-- a move keeps a tree formed
pub move_formed : {t u : Tree} {a : ℕ} → Formed t → Move t a u → Formed u
move_formed w v = case_formed w (move_case v)

-- an agent that moves is one of the 64
pub mover_below_64 : {t u : Tree} {a : ℕ} → Formed t → Move t a u → a < 64
mover_below_64 {t} {u} {a} w v = acting_few t w a (case_kind (move_case v))
