-- A row ends where its actions end, but with its sixteenth at most.
use mir.Val.{bool_byte}
use Rattle.std.proofs.Common.{◌≡◌, refl, ℕ, ◌+◌, ◌*◌, ◌-◌, ◌∙◌, ap, ap₂, arith, min, Bool, true, false, cond, ltb, ltb-true, ltb-false}
use Rattle.sets.specs.Word.{bit}
use Rattle.table.proofs.BaseLaws.{Told, yea, nay, told}
use Rattle.table.specs.Cell.{row_end}
use Rattle.limit.proofs.moves_at.Goals as goal

min_end : (count : ℕ) → min count 16 ≡ row_end count
unfolding row_end
min_end count = go (told (ltb count 16))
  where
    go : Told (ltb count 16) → min count 16 ≡ cond (ltb count 16) count 16
    go (yea e) = rw e (omega (arith, ltb-true count 16 e))
    go (nay e) = rw e (omega (arith, ltb-false count 16 e))

byte_bit : (b : Bool) → bool_byte b ≡ bit b
byte_bit true = refl
byte_bit false = refl

pub returns : goal.returns
returns c =
    ap₂ (λ (n way : ℕ). 2 * n + way)
    (c.from.ensures ∙ c.saturating_sub-left.ensures ∙ ap (λ (end : ℕ). end - c.args.next) (c.min.ensures ∙ min_end c.args.count))
    (c.from-2.ensures ∙ byte_bit c.is_away.result ∙ ap bit c.is_away.ensures)
