-- A bad file is found bad, and with another the trail is denied.
use Rattle.std.proofs.Common.{◌∙◌}
use Rattle.checker.proofs.JudgeLaws.{odd_found}
use Rattle.checker.proofs.judge_odd.Goals as goal

pub returns-in-Ok : goal.returns-in-Ok
returns-in-Ok c =
    let g = c.play-p.ensures.good c.in-Ok.is in
    λ text. odd_found g.0 c.args.trail.now text c.requires ∙ g.1.0 c.args.trail.now text

pub returns-in-Err : goal.returns-in-Err
returns-in-Err c = c.play-p.ensures.bad c.in-Err.r.number c.in-Err.r.offset c.in-Err.is _
