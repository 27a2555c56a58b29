-- The finding is one of three, and each has its own writer of the line.
use Rattle.table.specs.Base.{tab}
use Rattle.text.proofs.TextLaws.{moved}
use Rattle.trail.specs.AuditLine.{audit_line}
use Rattle.auditing.proofs.write_finding.Goals as goal

pub returns-in-Upheld : goal.returns-in-Upheld
unfolding audit_line tab
returns-in-Upheld c = rw c.in-Upheld.is c.write_bytes.ensures

pub returns-in-Denied : goal.returns-in-Denied
returns-in-Denied c = rw c.in-Denied.is (moved c.write_denied.ensures c.plus.ensures)

pub returns-in-BadFile : goal.returns-in-BadFile
unfolding audit_line tab
returns-in-BadFile c = rw c.in-BadFile.is c.write_refused.ensures
