-- A digit makes the number longer where it is not 0 and the longer one has 16 bits.
use Rattle.std.proofs.Common.{arith, ◌+◌, ◌*◌}
use Rattle.parser.proofs.CodeLaws.{longer_some, longer_large, longer_none, longer_zero}
use Rattle.parser.proofs.machine.more_digits.Goals.{then-v-eq0-via-then-v-eq0, then-v-eq0-via-else-v-eq0+then-not-is_digit}
use Rattle.parser.proofs.machine.more_digits.Goals as goal

pub returns-then-v-eq0 : goal.returns-then-v-eq0
returns-then-v-eq0 c =
    elim c.then-v-eq0.branch [
      | then-v-eq0-via-then-v-eq0 w ↦ longer_zero _ _ (omega (arith, w.if-v-eq0.true))
      | then-v-eq0-via-else-v-eq0+then-not-is_digit w ↦
          longer_none c.args.v c.args.b _ w.is_digit.ensures (omega (arith, w.if-v-eq0.false)) w.if-not-is_digit.true
    ]

pub returns-then-n-from : goal.returns-then-n-from
returns-then-n-from c =
    longer_some c.args.v c.args.b _ c.is_digit.ensures (omega (arith, c.if-v-eq0.false)) _ c.if-not-is_digit.false
    (omega (arith, c.from.ensures, c.from-2.ensures)) (omega (arith, c.if-n-from.true, c.from-3.ensures))

pub returns-else-n-from : goal.returns-else-n-from
returns-else-n-from c =
    longer_large c.args.v c.args.b _ c.is_digit.ensures (omega (arith, c.if-v-eq0.false)) (c.from.result * 10 + c.from-2.result) c.if-not-is_digit.false
    (omega (arith, c.from.ensures, c.from-2.ensures)) (omega (arith, c.if-n-from.false, c.from-3.ensures))
