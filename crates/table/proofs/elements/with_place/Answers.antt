-- What is read past the last place is an empty one.
use Rattle.table.specs.Cell.{no_place}
use Rattle.table.proofs.elements.with_place.Goals as goal

pub returns : goal.returns
returns c = c.with_at.ensures no_place
