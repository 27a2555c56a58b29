-- Nothing where there is no text yet, and one byte otherwise.
use mathlib.Core.Path.{ap}
use mathlib.Core.Bool.{Bool, cond}
use mathlib.Core.List.{[], ◌∷◌}
use Prim.Native.Nat.{◌≤◌}
use native.Mathlib.Omega.{arith}
use lib.ListN.{length}
use borrow.Author.Tests.{eq-eqb, ne_eqb}
use Rattle.table.specs.Base.{tab}
use Rattle.text.specs.Wrote.{Fits}
use Rattle.text.proofs.TextLaws.{begun, wrote_length}
use Rattle.text.proofs.RoomLaws.{fits_as, stores}
use Rattle.lister.specs.Sheet.{dot}
use Rattle.lister.proofs.agents.write_dot.Statement.{statement}
use Rattle.lister.proofs.agents.write_dot.Tie as tie

-- there is room for it
there : (c : tie.Else-at-from) → Fits (46 ∷ []) c.before.args.at c.before.args.buf.now
unfolding tab
there c = fits_as (ap (λ (z : Bool). cond z [] dot) (ne_eqb _ _ c.if-at-from.false)) c.before.requires

written : tie.Need-returns
unfolding tab
written c = rw (ne_eqb _ _ c.if-at-from.false) (stores (46 ∷ []) (there c))

pub write_dot_spec : {M : Type 1} → statement M
write_dot_spec =
    tie.close
    (tie.spec
    (λ c. rw (eq-eqb _ _ c.if-at-from.true) (begun c.before.requires.placed))
    (λ c. let h : 1 ≤ length c.before.args.buf.now = (there c).room in omega arith)
    (λ c. let f = there c in omega (arith, f.room, f.placed)) (λ c. wrote_length (written c)) written)
