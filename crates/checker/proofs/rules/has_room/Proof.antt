-- The number is the smallest unused one.
use mathlib.Core.Path.{sym, ap, ◌∙◌}
use mathlib.Core.Bool.{Bool}
use Prim.Native.Nat.{ℕ}
use lib.Dec.{ltb}
use borrow.Author.Rules.{rules}
use Rattle.table.specs.Cell.{fresh_number}
use Rattle.meaning.specs.Calculus.{has_room}
use Rattle.checker.proofs.rules.has_room.Statement.{statement}
use Rattle.checker.proofs.rules.has_room.Tie as tie

pub has_room_spec : {M : Type 1} → statement M
unfolding has_room
has_room_spec = tie.close (tie.spec
    (λ c κs. search rules)
    (λ c l e h x. ap (λ (n : ℕ). ltb n 64) (c.fresh_number.ensures ∙ ap (λ (f : ℕ → Bool). fresh_number f) (sym e))))
