-- The names, keys and numbers of a tree have 16 bits, and moves keep it so: they give no name but an action's number, and use actions up.
use Rattle.std.specs.Prelude.{List, ℕ, ◌<◌}
use Rattle.std.proofs.Common.{arith}
use Rattle.table.specs.Base.{upd}
use Rattle.table.proofs.BaseLaws.{upd_all}
use Rattle.table.specs.Bounds.{Name16}
use Rattle.table.specs.Cell.{no_name, plain_name}
use Rattle.table.specs.declared.Action.{Action}
use Rattle.meaning.specs.Calculus.{Tree, first_of, rest_of, next_of, put_into, open_up, put_out}
use Rattle.meaning.specs.Every.{every_none, every_more}
use Rattle.calculus.proofs.MoveCases.{MoveCase, by_enter, by_exit, by_open, by_release, move_case}
use Rattle.calculus.specs.Moves.{Moves, moves_none, moves_then}
use Rattle.calculus.specs.Numbers.{Row16, Numbers16}

-- no name has no bits at all
pub no_name16 : Name16 no_name
no_name16 = record { name = omega arith; entering = omega arith; exiting = omega arith; opening = omega arith }

-- a name without keys of its own has the bits of its number
plain_name16 : {n : ℕ} → n < 65536 → Name16 (plain_name n)
plain_name16 l = record { name = l; entering = l; exiting = l; opening = l }

-- the number of a row's first action
first16 : {l : List Action} → Row16 l → (first_of l).name < 65536
first16 every_none = omega arith
first16 (every_more n e) = n

-- a row without its first action
rest16 : {l : List Action} → Row16 l → Row16 (rest_of l)
rest16 every_none = every_none
rest16 (every_more n e) = e

-- rows after an action is used up
spent16 : {t : Tree} (a : ℕ) → Numbers16 t → (x : ℕ) → Row16 (upd t.unused a (rest_of (t.unused a)) x)
spent16 {t} a n = upd_all t.unused a (rest_of (t.unused a)) (λ x l. Row16 l) (rest16 (n.actions a)) (λ x _. n.actions x)

-- an enter or an exit
put16 : (t : Tree) (a d : ℕ) → Numbers16 t → Numbers16 (put_into t a d)
unfolding put_into
put16 t a d n = record { names = n.names; actions = spent16 a n }

-- an opening
open16 : (t : Tree) (a m : ℕ) → Numbers16 t → Numbers16 (open_up t a m)
unfolding open_up
open16 t a m n = record { names = upd_all t.name m no_name (λ q v. Name16 v) no_name16 (λ q _. n.names q); actions = spent16 a n }

-- a release
release16 : (t : Tree) (a m : ℕ) → Numbers16 t → Numbers16 (put_out t a m)
unfolding put_out
release16 t a m n = record {
  names = upd_all t.name m (plain_name (next_of t a).name) (λ q v. Name16 v) (plain_name16 (first16 (n.actions a))) (λ q _. n.names q);
  actions = spent16 a n;
}

-- each move keeps them so
case16 : {t : Tree} {a : ℕ} {u : Tree} → MoveCase t a u → Numbers16 t → Numbers16 u
case16 {t} {a = a} (by_enter m k h s d e) n = put16 t a m n
case16 {t} {a = a} (by_exit k h e) n = put16 t a _ n
case16 {t} {a = a} (by_open m k s e) n = open16 t a m n
case16 {t} {a = a} (by_release m k l e) n = release16 t a m n

-- and so do many
pub moves16 : {t u : Tree} → Moves t u → Numbers16 t → Numbers16 u
moves16 moves_none n = n
moves16 (moves_then v m) n = moves16 m (case16 (move_case v) n)
