-- Nothing where there is no text yet, and three bytes otherwise.
use mathlib.Core.Path.{ap}
use mathlib.Core.Bool.{Bool, cond}
use mathlib.Core.List.{[], ◌∷◌}
use Prim.Native.Nat.{◌≤◌}
use native.Mathlib.Omega.{arith}
use lib.ListN.{length, length-set}
use borrow.Author.Tests.{eq-eqb, ne_eqb}
use Rattle.table.specs.Base.{tab}
use Rattle.text.specs.Wrote.{Fits}
use Rattle.text.proofs.TextLaws.{begun, wrote_length}
use Rattle.text.proofs.RoomLaws.{fits_as, stores}
use Rattle.lister.specs.Sheet.{bar}
use Rattle.lister.proofs.write_bar.Statement.{statement}
use Rattle.lister.proofs.write_bar.Tie as tie

-- there is room for it
there : (c : tie.Else-at-from) → Fits (32 ∷ 124 ∷ 32 ∷ []) c.before.args.at c.before.args.buf.now
unfolding tab
there c = fits_as (ap (λ (z : Bool). cond z [] bar) (ne_eqb _ _ c.if-at-from.false)) c.before.requires

written : tie.Need-returns
unfolding tab
written c = rw (ne_eqb _ _ c.if-at-from.false) (stores (32 ∷ 124 ∷ 32 ∷ []) (there c))

pub write_bar_spec : {M : Type 1} → statement M
write_bar_spec =
    tie.close
    (tie.spec
    (λ c. rw (eq-eqb _ _ c.if-at-from.true) (begun c.before.requires.placed))
    (λ c. let h : 3 ≤ length c.before.args.buf.now = (there c).room in omega arith)
    (λ c. let h : 3 ≤ length c.before.args.buf.now = (there c).room in simp length-set (omega arith))
    (λ c. let h : 3 ≤ length c.before.args.buf.now = (there c).room in simp length-set (omega arith))
    (λ c. let f = there c in omega (arith, f.room, f.placed)) (λ c. wrote_length (written c)) written)
