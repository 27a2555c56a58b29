-- Each turn writes the number to both rows, and it counts in one of them.
use mir.Val.{bool_byte}
use Rattle.std.proofs.Common.{rules, arith, ◌≡◌, ◌≤◌, ◌∙◌, Bool, true, false, refl, ap}
use Rattle.sets.specs.Word.{bit}
use Rattle.order.proofs.RowLawsLoops.{parts_start, parts_turn, parts_end}
use Rattle.order.proofs.part.Goals as goal

byte_bit : (b : Bool) → bool_byte b ≡ bit b
byte_bit true = refl
byte_bit false = refl

byte_most : (b : Bool) → bool_byte b ≤ 1
byte_most true = omega arith
byte_most false = omega arith

pub loop-q-init : goal.loop-q-init
loop-q-init g c = (c.requires, (refl, λ f d. parts_start f c.args.order (search rules)))

pub loop-q-preserved : goal.loop-q-preserved
loop-q-preserved g c = (
  c.requires,
  (
    omega (arith, c.loop-q.invariant.1.0, c.from-one.ensures, byte_most c.passes.result),
    λ f d. parts_turn f (search rules) (c.loop-q.invariant.1.1 f d) c.loop-q-test.true c.from-one.result
        (c.from-one.ensures ∙ byte_bit c.passes.result ∙ ap bit (d _ c.passes.result (search rules) c.passes.ensures)),
  ),
)

pub returns : goal.returns
returns g c =
    record {
      room = omega (arith, c.loop-q.invariant.1.0);
      parts = λ f d. parts_end (search rules) (c.loop-q.invariant.1.1 f d) c.loop-q.invariant.1.0 (omega arith);
    }
