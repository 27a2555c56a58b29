-- A member is below 64, and the exclusive or takes its bit out.
use Rattle.std.proofs.Common.{rules, ◌≡◌, true}
use Rattle.sets.specs.Set.{member}
use Rattle.sets.proofs.SetLaws.{set_eq, xor_removed}
use Rattle.sets.proofs.WordLaws.{has_lt}
use Rattle.sets.proofs.Set.remove.Goals as goal

pub overflow_shl-result : goal.overflow_shl-result
overflow_shl-result c = has_lt 64 c.args.self.bits c.args.i (search rules) (cc)

pub returns-then-has : goal.returns-then-has
returns-then-has c =
    let m : member c.args.self c.args.i ≡ true = cc in
    set_eq (xor_removed c.args.self c.args.i (search rules) (has_lt 64 c.args.self.bits c.args.i (search rules) m) m)
