-- Every move of a tree is a reduction of its term.
-- Idea: the place where the two trees differ holds, before and after, the two sides of one rule beside the same rest; `ascends` carries
-- this up to the floor.
use Rattle.std.specs.Prelude.{◌≡◌, Bool, ◌≢◌, ℕ, ◌<◌}
use Rattle.std.proofs.Math.Path.{refl}
use Rattle.std.proofs.Common.{sym, subst, arith, lt-ltb}
use Rattle.std.proofs.Math.Logic.{inl, inr}
use Rattle.table.specs.Cell.{enter_kind, exit_kind, open_kind, release_kind, key_of, fresh_number}
use Rattle.meaning.specs.Calculus.{Tree, next_of, has_room, put_into, open_up, put_out, Move}
use Rattle.calculus.specs.Formed.{Formed}
use Rattle.calculus.proofs.MoveCases.{Stands, MoveCase, by_enter, by_exit, by_open, by_release, move_case}
use Rattle.calculus.proofs.MoveFormed.{enter_formed, exit_formed, open_formed, put_out_formed, fresh_free, exit_placed, acting_few}
use Rattle.calculus.proofs.Above.{above_self, below_one, below_not}
use Rattle.calculus.specs.Terms.{struct_symm, struct_par_assoc, struct_amb, struct_par, Reduces, ◌⟶◌}
use Rattle.calculus.proofs.TermLaws.{◌⨾◌, of_path, swap}
use Rattle.calculus.proofs.Spots.{rule_enter, rule_exit, rule_open, rule_release, Spot, at_top, reduces}
use Rattle.calculus.specs.TermOf.{prefix, term}
use Rattle.calculus.proofs.Contents.{row_is, agent_first}
use Rattle.calculus.proofs.Ambients.{room_ambients}
use Rattle.calculus.proofs.Near.{ascends}
use Rattle.calculus.proofs.EnterExit.{Two, Travel, travel_local, enter_before, enter_after, exit_before, exit_after}
use Rattle.calculus.proofs.OpenUp.{open_local, open_before, open_after}
use Rattle.calculus.proofs.PutOut.{put_local, put_after}

module _ (t : Tree) (w : Formed t) (a : ℕ) where
  enter_reduces : (m : ℕ) → (next_of t a).kind ≡ enter_kind → t.home a ≢ 0 → Stands t m (t.parent (t.home a)) → m ≢ t.home a
      → key_of enter_kind (t.name m) ≡ (next_of t a).name
      → Spot (has_room t) (term t) (term (put_into t a m))
  unfolding term prefix
  enter_reduces m k h s d n =
      let v = enter_formed t w a m h s d in
      let l = acting_few t w a (omega arith) in
      let p = t.parent (t.home a) in
      let y : Travel t a m m p = record { own = h; other = s; apart = d; from = inl refl; to = inr refl } in
      ascends t (put_into t a m) w v p (Two (t.home a) m) (travel_local t w a m m p v y) (w.tree p) (w.parent_used _) (above_self t.parent p)
      (at_top rule_enter
      (enter_before t w a m p v y refl l ⨾ struct_par (struct_amb (struct_par (of_path (row_is (t.unused a) 0 k n)))) ⨾ struct_symm struct_par_assoc)
      (enter_after t w a m p v y refl l))

  exit_reduces : (next_of t a).kind ≡ exit_kind → t.home a ≢ 0 → key_of exit_kind (t.name (t.parent (t.home a))) ≡ (next_of t a).name
      → Spot (has_room t) (term t) (term (put_into t a (t.parent (t.parent (t.home a)))))
  unfolding term prefix
  exit_reduces k h n =
      let v = exit_formed t w a h in
      let l = acting_few t w a (omega arith) in
      let m = t.parent (t.home a) in
      let p = t.parent (t.parent (t.home a)) in
      let s : Stands t m p = record { used = w.parent_used _; placed = exit_placed t w a k n; parent = refl } in
      let y : Travel t a p m p = record {
        own = h;
        other = s;
        apart = λ e. below_not t w (below_one h refl) (sym e);
        from = inr refl;
        to = inl refl;
      } in
      ascends t (put_into t a p) w v p (Two (t.home a) m) (travel_local t w a p m p v y) (w.tree p) (w.parent_used _) (above_self t.parent p)
      (at_top rule_exit
      (exit_before t w a m p v y refl l ⨾ struct_par (struct_amb (struct_par (struct_amb (struct_par (of_path (row_is (t.unused a) 1 k n)))))))
      (exit_after t w a m p v y refl l ⨾ struct_symm struct_par_assoc))

  open_reduces : (m : ℕ) → (next_of t a).kind ≡ open_kind → Stands t m (t.home a) → key_of open_kind (t.name m) ≡ (next_of t a).name
      → Spot (has_room t) (term t) (term (open_up t a m))
  unfolding term prefix
  open_reduces m k s n =
      let v = open_formed t w a m s in
      let l = acting_few t w a (omega arith) in
      ascends t (open_up t a m) w v (t.home a) (λ r. r ≡ m) (open_local t w a m v s) (w.tree _) (w.homes a) (above_self t.parent (t.home a))
      (at_top rule_open
      (open_before t w a m v s l ⨾ struct_par (of_path (row_is (t.unused a) 2 k n)) ⨾ struct_symm struct_par_assoc)
      (open_after t w a m v s l ⨾ struct_symm struct_par_assoc))

  release_reduces : (m : ℕ) → (next_of t a).kind ≡ release_kind → m < 64 → fresh_number t.used ≡ m → Spot (has_room t) (term t) (term (put_out t a m))
  unfolding term prefix has_room
  release_reduces m k l e =
      let f = fresh_free t l e in
      let v = put_out_formed t w a m l f in
      let la = acting_few t w a (omega arith) in
      ascends t (put_out t a m) w v (t.home a) (λ s. ⊥) (put_local t w a m l f v) (w.tree _) (w.homes a) (above_self t.parent (t.home a))
      (at_top (rule_release (lt-ltb (fresh_number t.used) 64 (omega arith)))
      (agent_first t w a la ⨾ struct_par (of_path (row_is (t.unused a) 3 k refl)))
      (put_after t w a m l f v la ⨾ swap ⨾ struct_symm struct_par_assoc))

case_reduces : {t : Tree} {a : ℕ} {u : Tree} → Formed t → MoveCase t a u → Spot (has_room t) (term t) (term u)
case_reduces {t} {a} w (by_enter m k h s d n) = enter_reduces t w a m k h s d n
case_reduces {t} {a} w (by_exit k h n) = exit_reduces t w a k h n
case_reduces {t} {a} w (by_open m k s n) = open_reduces t w a m k s n
case_reduces {t} {a} w (by_release m k l e) = release_reduces t w a m k l e

-- a move of an agent is a reduction of the term
pub move_reduces : {t u : Tree} {a : ℕ} → Formed t → Move t a u → term t ⟶ term u
move_reduces {t} {u} w v = subst (λ (b : Bool). Reduces b (term t) (term u)) (room_ambients t w) (reduces (case_reduces w (move_case v)))
