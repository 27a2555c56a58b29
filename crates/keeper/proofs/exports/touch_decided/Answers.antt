-- What the read of a place tells of the arrays' sizes.
use Rattle.std.proofs.Common.{rules}
use Rattle.keeper.proofs.exports.touch_decided.Goals as goal

pub returns-clause-sizes : goal.returns-clause-sizes
returns-clause-sizes c = record { places = search rules; locks = search rules; agents = search rules; used = search rules; given = search rules; touches = search rules }
