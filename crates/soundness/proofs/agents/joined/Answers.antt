-- An or is 0 only where both sides are: with the and it adds up to their sum, and the and is at most each of them.
use Rattle.std.proofs.Common.{◌≡◌, ap₂, ℕ, true, ◌&&◌, arith, eqb, bit_or, eq-eqb, eqb-true}
use lib.Bits.{or_add_and, and_le_l, and_le_r}
use Rattle.sets.proofs.ToldLaws.{same_test, and_left, and_right}
use Rattle.soundness.proofs.agents.joined.Goals as goal

or_zero_lem : (a b : ℕ) → eqb (bit_or a b) 0 ≡ (eqb b 0 && eqb a 0)
or_zero_lem a b = same_test _ _ there back
  where
    there : eqb (bit_or a b) 0 ≡ true → (eqb b 0 && eqb a 0) ≡ true
    there e =
        let z = eqb-true (bit_or a b) 0 e in
        let s = or_add_and a b in
        let l = and_le_l a b in
        let r = and_le_r a b in
        ap₂ ◌&&◌ (eq-eqb b 0 (omega arith)) (eq-eqb a 0 (omega arith))

    back : (eqb b 0 && eqb a 0) ≡ true → eqb (bit_or a b) 0 ≡ true
    back e = eq-eqb (bit_or a b) 0 (ap₂ bit_or (eqb-true a 0 (and_right (eqb b 0) (eqb a 0) e)) (eqb-true b 0 (and_left (eqb b 0) (eqb a 0) e)))

pub returns : goal.returns
returns c = or_zero_lem c.args.a c.args.b
