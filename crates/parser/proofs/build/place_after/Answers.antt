-- Every event but a new place leaves it.
use Rattle.parser.proofs.CodeLaws.{place_kept}
use Rattle.parser.proofs.build.place_after.Goals as goal

pub returns-in_default : goal.returns-in_default
returns-in_default c = place_kept _ _ _ c.in_default.not-NewPlace
