-- The last byte, and the one before it, tell.
use Rattle.std.proofs.Common.{arith}
use Rattle.report.proofs.TypedLaws.{line_empty, line_open, line_ended, line_plain, line_alone}
use Rattle.report.proofs.typed.line_of.Goals as goal

pub returns-in-13 : goal.returns-in-13
returns-in-13 c = line_ended _ c.in-10.len_at_least (omega arith) c.in-13.len_at_least (omega arith)

pub returns-in_default-line : goal.returns-in_default-line
returns-in_default-line c = line_alone _ c.in-10.len_at_least (omega arith) c.in_default-line.len_below

pub returns-in_default-line-2 : goal.returns-in_default-line-2
returns-in_default-line-2 c = line_plain _ c.in-10.len_at_least (omega arith) c.in_default-line.len_at_least (λ e. omega arith)

pub returns-in_default : goal.returns-in_default
returns-in_default c = line_empty _ (omega arith)

pub returns-in_default-2 : goal.returns-in_default-2
returns-in_default-2 c = line_open _ (λ e. omega arith)
