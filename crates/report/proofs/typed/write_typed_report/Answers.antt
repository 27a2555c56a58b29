-- What the reading of the line answered decides: the report of the run, or the refusal with the text and its caret.
use Rattle.text.proofs.TextLaws.{wrote_as}
use Rattle.report.proofs.ReportLaws.{typed_accepted, typed_refused}
use Rattle.report.proofs.typed.write_typed_report.Goals as goal

pub returns-in-Ok : goal.returns-in-Ok
returns-in-Ok c = wrote_as (typed_accepted _ _ c.args.file.now _ _ c.line_of-line.ensures c.read-r.ensures c.in-Ok.is) c.write_run.ensures

pub returns-in-Err : goal.returns-in-Err
returns-in-Err c = wrote_as (typed_refused _ _ c.args.file.now _ _ c.line_of-line.ensures c.read-r.ensures c.in-Err.r.number c.in-Err.r.offset c.in-Err.is) c.write_refused_text.ensures
