-- By the remaining depth: contents ask for places one level less deep, places for a place as deep, and a place for its contents. Before each turn the
-- places that were taken are written, and it is noted where each ends.
use Rattle.std.proofs.Common.{◌+◌, ◌*◌}
use Rattle.sets.specs.Set.{member}
use Rattle.lister.specs.Sheet.{sheet_of, place_on}
use Rattle.lister.proofs.TurnLaws.{Walked}
use Rattle.lister.proofs.contents.+write_contents_write_place_write_places.Given as goal

abbrev pub decreases-write_contents : goal.decreases-write_contents
decreases-write_contents l = 3 * l.depth

abbrev pub decreases-write_place : goal.decreases-write_place
decreases-write_place l = 3 * l.depth + 1

abbrev pub decreases-write_places : goal.decreases-write_places
decreases-write_places l = 3 * l.depth + 2

abbrev pub invariant-write_places-loop-q : goal.invariant-write_places-loop-q
invariant-write_places-loop-q l = Walked (member l.fn.inside) (place_on l.depth (sheet_of l.sheet)) l.from l.fn.buf l.q-iterator l.marks l.many l.buf l.at
