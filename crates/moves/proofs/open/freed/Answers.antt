-- The set that was gathered has the children as its members, and no other number.
use Rattle.std.proofs.Common.{ℕ, Bool, eqb, get_or, ap, ◌∙◌, rules}
use Rattle.sets.specs.Set.{member}
use Rattle.sets.specs.declared.Set.{Set}
use Rattle.order.specs.Row.{later}
use Rattle.table.specs.Cell.{no_place}
use Rattle.updates.proofs.GatherLaws.{member_among}
use Rattle.moves.proofs.open.freed.Goals as goal

pub returns : goal.returns
returns c =
    let a = c.args in
    c.later.ensures
    ∙ ap (λ (s : Set). later (member s) a.row) c.children.ensures
    ∙ ap (λ (f : ℕ → Bool). later f a.row) (λ i q. member_among a.used (search rules) (λ r. eqb (get_or a.ps r no_place).parent a.t) q i)
