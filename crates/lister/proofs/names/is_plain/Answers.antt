-- The three tests, in order.
use Rattle.table.proofs.Rules.{tests}
use Rattle.meaning.specs.Listing.{is_plain}
use Rattle.lister.proofs.names.is_plain.Goals as goal

pub returns-then-x-2 : goal.returns-then-x-2
unfolding is_plain
returns-then-x-2 c = search tests

pub returns-else-x-2 : goal.returns-else-x-2
unfolding is_plain
returns-else-x-2 c = search tests
