-- What `idled` answers, told what `is_sound` and `is_idle` answered.
use Rattle.std.proofs.Common.{◌∙◌}
use Rattle.keeper.proofs.Known.{idle_told}
use Rattle.keeper.proofs.idle.Goals as goal

pub returns : goal.returns
returns c = c.idled.ensures ∙ idle_told c.args.c c.is_sound.result c.is_idle.result c.is_sound.ensures c.is_idle.ensures
