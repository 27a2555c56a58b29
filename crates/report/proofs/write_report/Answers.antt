-- What the load answered decides: the report of the run, or the one line of a refused file.
use Rattle.text.proofs.TextLaws.{wrote_as}
use Rattle.report.proofs.ReportLaws.{report_accepted, report_refused}
use Rattle.report.proofs.write_report.Goals as goal

pub returns-in-Ok : goal.returns-in-Ok
returns-in-Ok c = wrote_as (report_accepted _ _ _ _ c.load-r.ensures c.in-Ok.is) c.write_run.ensures

pub returns-in-Err : goal.returns-in-Err
returns-in-Err c = wrote_as (report_refused _ _ _ _ c.load-r.ensures c.in-Err.r.number c.in-Err.r.offset c.in-Err.is) c.write_refused.ensures
