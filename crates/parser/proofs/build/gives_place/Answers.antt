-- No other event gives a place.
use Rattle.parser.proofs.CodeLaws.{no_place_given}
use Rattle.parser.proofs.build.gives_place.Goals as goal

pub returns-in_default : goal.returns-in_default
returns-in_default c = no_place_given _ _ c.in_default.not-NewPlace
