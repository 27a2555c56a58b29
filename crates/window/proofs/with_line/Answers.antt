-- The line is what `line_of` says.
use Rattle.std.proofs.Common.{ap}
use Rattle.window.specs.Window.{with_line, lined}
use Rattle.window.proofs.with_line.Goals as goal

pub returns : goal.returns
unfolding lined
returns c = ap (with_line c.args.w) c.line_of.ensures
