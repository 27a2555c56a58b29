-- The digits before the last are written by the call with one digit less, then the last one after them.
use Rattle.std.proofs.Common.{sym}
use Rattle.text.proofs.TextLaws.{begun, next, wrote_as, least_le}
use Rattle.text.proofs.DigitLaws.{digits_none, digits_one, digits_more}
use Rattle.text.proofs.+write_digits.Goals as goal

-- no digit
pub returns-then-k-eq0 : goal.returns-then-k-eq0
returns-then-k-eq0 t c = wrote_as (sym (digits_none _ _ c.if-k-eq0.true)) (begun c.requires)

-- one digit
pub returns-then-n-lt10 : goal.returns-then-n-lt10
returns-then-n-lt10 t c = wrote_as (sym (digits_one _ _ c.if-k-eq0.false c.if-n-lt10.true)) c.write_byte.ensures

-- several
pub slice_bounds-write_byte-count : goal.slice_bounds-write_byte-count
slice_bounds-write_byte-count t c = (least_le _ _ _ c.offset-i.ensures).1

pub slice_bounds-write_byte-start : goal.slice_bounds-write_byte-start
slice_bounds-write_byte-start t c = (least_le _ _ _ c.offset-i.ensures).1

pub returns : goal.returns
returns t c =
    wrote_as (sym (digits_more _ _ c.if-k-eq0.false c.if-n-lt10.false))
    (next c.requires c.write_digits-mid.ensures c.offset-i.ensures c.write_byte-2.ensures)
