-- By the tests, which are the definition's; the bytes of each arm are the reason's text with its blank and the line's end.
use Rattle.std.proofs.lemmas.Bool.{eq-eqb, ne_eqb}
use Rattle.table.specs.Base.{tab}
use Rattle.trail.specs.AuditLine.{reason_text}
use Rattle.auditing.proofs.write_reason.Goals as goal

pub returns-then-reason-eq1 : goal.returns-then-reason-eq1
unfolding reason_text tab
returns-then-reason-eq1 c = rw (eq-eqb _ _ c.if-reason-eq1.true) c.write_bytes.ensures

pub returns-then-reason-eq2 : goal.returns-then-reason-eq2
unfolding reason_text tab
returns-then-reason-eq2 c = rw (ne_eqb _ _ c.if-reason-eq1.false, eq-eqb _ _ c.if-reason-eq2.true) c.write_bytes-then-reason-eq2.ensures

pub returns-then-reason-eq3 : goal.returns-then-reason-eq3
unfolding reason_text tab
returns-then-reason-eq3 c =
    rw (ne_eqb _ _ c.if-reason-eq1.false, ne_eqb _ _ c.if-reason-eq2.false, eq-eqb _ _ c.if-reason-eq3.true) c.write_bytes-then-reason-eq3.ensures

pub returns-else-reason-eq3 : goal.returns-else-reason-eq3
unfolding reason_text tab
returns-else-reason-eq3 c =
    rw (ne_eqb _ _ c.if-reason-eq1.false, ne_eqb _ _ c.if-reason-eq2.false, ne_eqb _ _ c.if-reason-eq3.false) c.write_bytes-else-reason-eq3.ensures
